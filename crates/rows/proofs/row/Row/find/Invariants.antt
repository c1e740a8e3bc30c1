use Rattle.std.proofs.Common.{◌≡◌, ℕ, ◌+◌, ◌*◌, ◌<◌, true, false, get_or}
use Rattle.rows.specs.Members.{bit, member}
use Rattle.rows.proofs.row.Row.find.Given as goal

-- no member of the words before has passed
abbrev pub invariant-loop-i : goal.invariant-loop-i
invariant-loop-i g l = (k : ℕ) → k < 64 * l.i → member l.fn.self k ≡ true → goal.F-post g l.fn.passes k false

-- what is left is of the word; what is not left of it has not passed
abbrev pub invariant-loop-b : goal.invariant-loop-b
invariant-loop-b g l =
    ((b : ℕ) → bit l.b-iterator.left b ≡ true → bit (get_or l.fn.self.words l.i 0) b ≡ true)
    × ((b : ℕ) → b < 64 → bit (get_or l.fn.self.words l.i 0) b ≡ true → bit l.b-iterator.left b ≡ false → goal.F-post g l.fn.passes (64 * l.i + b) false)
    × (goal.iterator-loop-b g).can_next l.b-iterator
    × (goal.iterator-loop-b g).is_finite l.b-iterator
