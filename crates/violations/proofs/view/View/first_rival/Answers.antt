use Rattle.std.proofs.Common.{rules}
use Rattle.violations.specs.Views.{operations_of, seen_of}
use Rattle.violations.specs.Violations.{Rival}
use Rattle.violations.proofs.Seeking.{smallest_found}
use Rattle.violations.proofs.view.View.first_rival.Goals as goal

pub returns : goal.returns
returns c =
    smallest_found (Rival (operations_of c.args.self) (seen_of c.args.self) c.args.read c.args.source) _ _ _ c.find.result c.find.ensures (λ k p. search rules) (λ k s. search rules) (λ k s. search rules)
