use Rattle.std.proofs.Common.{length}
use Rattle.visibility.specs.Growth.{Grown}
use Rattle.visibility.specs.Shapes.{shapes_of}
use Rattle.visibility.specs.Visible.{Asked}
use Rattle.visibility.proofs.growing.round.Given as goal

abbrev pub invariant-loop-a : goal.invariant-loop-a
invariant-loop-a g l = Grown (Asked (g.R.Rule.demands l.rule) (shapes_of l.outline)) l.a (length (shapes_of l.outline)) l.initial.table l.table l.changed
