use Rattle.std.proofs.Common.{rules, ◌≡◌, ℕ, sym, ◌∙◌}
use Rattle.std.proofs.lemmas.Bool.{both_ways}
use Rattle.recording.specs.Telling.{recorded}
use Rattle.rows.specs.Members.{member}
use Rattle.visibility.proofs.Gatherings.{gathered_more}
use Rattle.visibility.proofs.sources.put_sources.Goals as goal

pub loop-read-init : goal.loop-read-init
loop-read-init c =
    let same : (r : ℕ) → member c.into_iter-read-iterator.result.left r ≡ member c.args.reads r = λ r. search rules in (
      record {
        long = search rules;
        sound = λ w r h. absurd (both_ways _ (c.clear.ensures.pairs w r) h);
        whole = λ w r p s. absurd (both_ways _ (sym (same r) ∙ p.1) p.0);
      },
      λ r h. sym (same r) ∙ h,
      tt,
      tt,
    )

pub loop-read-preserved : goal.loop-read-preserved
loop-read-preserved c =
    let more = gathered_more (recorded c.args.recording.now).operations (member c.args.reads) (member c.loop-read.read-iterator.left) (member c.next.new.self.left) c.in-Some-read.read
    c.loop-read.table c.put_source.new.table c.loop-read.invariant.1 (search rules) c.loop-read.invariant.0 (search rules) c.put_source.ensures in
    (more.0, more.1, tt, tt)

pub returns-in-None-clause-sources : goal.returns-in-None-clause-sources
returns-in-None-clause-sources c = λ _.
    let v = c.loop-read.invariant.0 in
    record {
      long = v.long;
      sound = λ w r h. let s = v.sound w r h in (s.0.0, s.1);
      whole = λ w r p s. v.whole w r (p, c.in-None.ensures.steps.smallest r) s;
    }
