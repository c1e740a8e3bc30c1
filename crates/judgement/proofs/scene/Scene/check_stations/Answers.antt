use Rattle.std.proofs.Common.{Some, List, ℕ, length, ap, sym, ◌∙◌, subst, arith}
use Rattle.judgement.specs.Passing.{Passed}
use Rattle.violations.specs.Views.{operations_of, seen_of}
use Rattle.judgement.specs.Showing.{Evident}
use Rattle.judgement.specs.Stale.{StationFirst}
use Rattle.judgement.specs.Verdicts.{CyclicAt}
use Rattle.recording.specs.Telling.{recorded}
use Rattle.judgement.proofs.scene.Scene.check_stations.Goals as goal

pub returns-in-Ok-Some : goal.returns-in-Ok-Some
returns-in-Ok-Some c =
    let ops = operations_of c.args.self.view in
    let V = seen_of c.args.self.view in
    let S = (recorded c.args.self.view.recording.now).stations in
    let at = c.in-Ok-Some.at in
    let p : Passed ops V S (Some at) = subst (Passed ops V S) c.in-Ok-Some.field-0-is c.in-Ok-Some.ensures in
    subst (λ x. StationFirst ops V x × Evident ops V x c.put.result.station c.put.result.count c.args.evidence.now c.put.new.evidence) (sym c.put.ensures.violation) (
      λ o last. p.init o (c.args.self.view.recording.now.range o last.inside).0 last,
      record {
        shows = (at.last, at.found, c.put.ensures.front ∙ c.numbers_of.ensures, subst (λ s. CyclicAt ops V s at.last at.found) (sym c.put.ensures.station) p.cyclic);
        few = omega (arith, c.put.ensures.count, ap (λ (xs : List ℕ). length xs) c.numbers_of.ensures);
        tail = c.put.ensures.tail;
      },
    )
