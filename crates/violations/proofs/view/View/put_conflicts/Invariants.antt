use Rattle.violations.specs.Tabled.{Tabled}
use Rattle.violations.specs.Views.{operations_of, seen_of}
use Rattle.violations.proofs.view.View.put_conflicts.Given as goal

abbrev pub invariant-loop-read : goal.invariant-loop-read
invariant-loop-read l = Tabled (operations_of l.self) (seen_of l.self) l.read l.table
