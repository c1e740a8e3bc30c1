use Rattle.std.proofs.Common.{◌≡◌, ◌+◌, Some, None, Ok, sym, subst}
use Rattle.judgement.specs.Passing.{FoundAt, Passed}
use Rattle.violations.specs.Views.{operations_of, seen_of}
use Rattle.judgement.proofs.Passings.{pass_none, pass_clean, pass_cyclic}
use Rattle.judgement.proofs.scene.Scene.pass.Goals as goal

pub returns-in_default : goal.returns-in_default
returns-in_default c = pass_none (operations_of c.args.self.view) (seen_of c.args.self.view) c.args.station c.args.cyclic c.in_default.ensures c.requires.passed

pub returns-in-Ok-None : goal.returns-in-Ok-None
returns-in-Ok-None c =
    let ops = operations_of c.args.self.view in
    let V = seen_of c.args.self.view in
    let e : c.in-Ok-None.field-0 ≡ None = cc in
    pass_clean ops V c.args.station c.in-Some.last c.in-Some.ensures c.args.cyclic (subst (λ t. FoundAt ops V c.in-Some.last (Ok t)) e c.in-Ok-None.ensures) c.requires.passed

pub returns-in-Ok-Some : goal.returns-in-Ok-Some
returns-in-Ok-Some c =
    let ops = operations_of c.args.self.view in
    let V = seen_of c.args.self.view in
    let e : c.in-Ok-Some.field-0 ≡ Some c.in-Ok-Some.found = cc in
    subst (Passed ops V (c.args.station + 1)) (sym c.or.ensures)
    (pass_cyclic ops V c.args.station c.in-Some.last c.in-Some.ensures c.args.cyclic c.in-Ok-Some.found (subst (λ t. FoundAt ops V c.in-Some.last (Ok t)) e c.in-Ok-Some.ensures) c.requires.passed)
