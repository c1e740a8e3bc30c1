use Rattle.std.proofs.Common.{◌≡◌, ◌+◌, length}
use Rattle.rows.specs.Counts.{size}
use Rattle.rows.specs.Members.{member}
use Rattle.relation.specs.Orders.{Arranged}
use Rattle.relation.proofs.order.arrange.Given as goal

abbrev pub invariant-loop-k : goal.invariant-loop-k
invariant-loop-k g l =
    Arranged (g.R.Relation.holds l.relation) (member l.initial.left) (member l.left) l.order.items (length l.order.items)
    × (size (member l.left) 256 + length l.order.items ≡ size (member l.initial.left) 256)

abbrev pub decreases-loop-k : goal.decreases-loop-k
decreases-loop-k g l = size (member l.left) 256
