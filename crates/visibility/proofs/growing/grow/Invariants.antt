use Rattle.std.proofs.Common.{◌-◌}
use Rattle.rows.specs.Members.{related}
use Rattle.visibility.specs.Growth.{Rel, Inside, Closed, filled}
use Rattle.visibility.specs.Shapes.{shapes_of}
use Rattle.visibility.specs.Visible.{Asked}
use Rattle.visibility.proofs.growing.grow.Given as goal

abbrev pub invariant-loop-table : goal.invariant-loop-table
invariant-loop-table g l =
    Inside (related l.fn.table) (related l.table)
    × ((S : Rel) → Inside (related l.fn.table) S → Closed (Asked (g.R.Rule.demands l.rule) (shapes_of l.outline)) S → Inside (related l.table) S)

abbrev pub decreases-loop-table : goal.decreases-loop-table
decreases-loop-table g l = 65536 - filled l.table
