use Rattle.std.proofs.Common.{ℕ, Decides}
use Rattle.rows.specs.Members.{member}
use Rattle.visibility.specs.Sights.{shapes_in}
use Rattle.visibility.specs.Visible.{LateDemand}
use Rattle.visibility.proofs.late.LateRule.demanded.Given as goal

abbrev pub invariant-loop : goal.invariant-loop
invariant-loop l = (b : ℕ) → Decides (member l.later.left b) (LateDemand l.counter (shapes_in l.sight) l.a b)
