use Rattle.std.proofs.Common.{sym, ap, ◌∙◌, subst, rules}
use Rattle.recording.specs.Telling.{recorded}
use Rattle.rows.specs.Members.{related}
use Rattle.judgement.specs.Showing.{verdict_of}
use Rattle.judgement.specs.Verdicts.{OwnJudged}
use Rattle.judgement.proofs.Judging.{own_judged}
use Rattle.judgement.proofs.Recordings.{valid_of}
use Rattle.judgement.proofs.own.own_verdict.Goals as goal

pub returns : goal.returns
returns g c =
    let D = g.R.Rule.demands c.args.rule.now in
    let known = g.R.Rule.known c.args.rule.now in
    let r = c.args.recording.now in
    let V = related c.least_visibility.new.table in
    let before = c.args.evidence.now in
    let after = c.check_own.new.evidence in
    subst (λ v. OwnJudged D known (recorded r).operations v V before after) (sym (c.of.ensures ∙ ap (verdict_of c.label.result) c.and.ensures))
    (own_judged D known c.label.result c.label.ensures (recorded r).operations (valid_of r) V (c.least_visibility.ensures.least (search rules)) before after c.check_own.result c.check_own.ensures)
