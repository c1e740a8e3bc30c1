use Rattle.std.proofs.Common.{◌≡◌, ℕ, ◌+◌, ◌*◌, ◌<◌, true, false, get_or}
use Rattle.rows.specs.declared.row.Row.{Row}
use Rattle.rows.specs.Members.{bit, member}
use Rattle.rows.proofs.row.Row.gather.Given as goal

-- what is gathered was answered to a member; what the members of the words before answer is gathered
abbrev pub invariant-loop-i : goal.invariant-loop-i
invariant-loop-i g l =
    ((b : ℕ) → member l.all b ≡ true → (k : ℕ) × (answer : Row) × (member l.fn.self k ≡ true) × goal.F-post g l.fn.row k answer × (member answer b ≡ true))
    × ((k : ℕ) → k < 64 * l.i → member l.fn.self k ≡ true → (answer : Row) × goal.F-post g l.fn.row k answer × ((b : ℕ) → member answer b ≡ true → member l.all b ≡ true))

-- what is left is of the word; what is not left of it is gathered too
abbrev pub invariant-loop-b : goal.invariant-loop-b
invariant-loop-b g l =
    ((b : ℕ) → bit l.b-iterator.left b ≡ true → bit (get_or l.fn.self.words l.i 0) b ≡ true)
    × ((b : ℕ) → member l.all b ≡ true → (k : ℕ) × (answer : Row) × (member l.fn.self k ≡ true) × goal.F-post g l.fn.row k answer × (member answer b ≡ true))
    × ((k : ℕ) → k < 64 * l.i → member l.fn.self k ≡ true → (answer : Row) × goal.F-post g l.fn.row k answer × ((b : ℕ) → member answer b ≡ true → member l.all b ≡ true))
    × ((i : ℕ) → i < 64 → bit (get_or l.fn.self.words l.i 0) i ≡ true → bit l.b-iterator.left i ≡ false
    → (answer : Row) × goal.F-post g l.fn.row (64 * l.i + i) answer × ((b : ℕ) → member answer b ≡ true → member l.all b ≡ true))
    × (goal.iterator-loop-b g).can_next l.b-iterator
    × (goal.iterator-loop-b g).is_finite l.b-iterator
