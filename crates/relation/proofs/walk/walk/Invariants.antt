use Rattle.std.proofs.Common.{◌≡◌, ◌-◌, ◌<◌, length}
use Rattle.rows.specs.Counts.{size}
use Rattle.rows.specs.Members.{member}
use Rattle.relation.proofs.Loops.{Walked}
use Rattle.relation.proofs.walk.walk.Given as goal

abbrev pub invariant-walking : goal.invariant-walking
invariant-walking g l =
    Walked (g.R.Relation.holds l.relation) (member l.left) (member l.seen) l.path.items l.number
    × (size (member l.seen) 256 ≡ length l.path.items)
    × (l.number < 256)

abbrev pub decreases-walking : goal.decreases-walking
decreases-walking g l = 256 - length l.path.items
