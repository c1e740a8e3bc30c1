use Rattle.std.proofs.Common.{ℕ, take, Decides}
use Rattle.rows.specs.Members.{member}
use Rattle.visibility.specs.Sights.{shapes_in, seen_in}
use Rattle.visibility.specs.Terms.{Walk}
use Rattle.visibility.proofs.terms.walking.reach.Given as goal

abbrev pub invariant-loop-letter : goal.invariant-loop-letter
invariant-loop-letter l = (b : ℕ) → Decides (member l.reached b) (Walk (shapes_in l.sight) (seen_in l.sight) (take l.letter-index l.letters) l.a b)
