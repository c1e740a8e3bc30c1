use Rattle.std.proofs.Common.{◌-◌}
use Rattle.rows.specs.Counts.{size}
use Rattle.rows.specs.Members.{member}
use Rattle.relation.proofs.Reaching.{Reached}
use Rattle.relation.proofs.reach.reach.Given as goal

abbrev pub invariant-reaching : goal.invariant-reaching
invariant-reaching g l = Reached (g.R.Relation.holds l.relation) l.a (member l.reached) (member l.new)

abbrev pub decreases-reaching : goal.decreases-reaching
decreases-reaching g l = 256 - size (member l.reached) 256
