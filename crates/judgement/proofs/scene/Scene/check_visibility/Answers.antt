use Rattle.std.proofs.Common.{◌≡◌, ℕ, ◌<◌, ◌≤◌, min, true, length, replicate, Err, sym, refl, ap, ◌∙◌, subst, arith, rules}
use Rattle.std.proofs.lemmas.List.{length-take-le}
use Rattle.std.proofs.lemmas.Bool.{lt-ltb}
use Rattle.relation.specs.Found.{Found}
use Rattle.rows.specs.Members.{member}
use Rattle.violations.specs.Explained.{In}
use Rattle.violations.specs.Views.{operations_of, seen_of}
use Rattle.judgement.specs.Verdicts.{Cycle}
use Rattle.judgement.proofs.Fronts.{ring_cycle_of, within_acyclic}
use Rattle.judgement.proofs.Recordings.{few_of}
use Rattle.judgement.proofs.scene.Scene.check_visibility.Goals as goal

pub returns-in-Ok : goal.returns-in-Ok
returns-in-Ok c =
    let V = seen_of c.args.self.view in
    let M = member c.below.result in
    let ops = operations_of c.args.self.view in
    let most = few_of c.args.self.view.recording.now in
    let inside : (a : ℕ) → a < length ops → M a ≡ true = λ a h. c.below.ensures a ∙ lt-ltb a (min c.count.result 256) (omega arith) in
    (within_acyclic V M (λ a b h. let w = c.args.self.within a b h in (inside a w.0, inside b w.1)) c.in-Ok.ensures.exactly, refl)

pub returns-in-Err-Cycle : goal.returns-in-Err-Cycle
returns-in-Err-Cycle c =
    let V = seen_of c.args.self.view in
    let M = member c.below.result in
    let list = c.order_or_cycle.new.out in
    let n = c.in-Err-Cycle.count in
    let found = subst (Found V M (replicate 256 0) list) (c.in-Err-Cycle.is ∙ ap Err c.in-Err-Cycle.field-0-is) c.order_or_cycle.ensures.found in
    let few : n ≤ 256 = found.1 in
    let room : length list ≡ 256 = search rules in
    let ring = ring_cycle_of list n (omega arith) V M (In V) (λ a b h k r. r) found.2 in (
      c.put.ensures.violation,
      record {
        shows = (c.put.ensures.station, subst (Cycle (In V)) (sym c.put.ensures.front) ring);
        few = omega (arith, c.put.ensures.count, length-take-le n list (omega arith));
        tail = c.put.ensures.tail;
      },
    )
