use Rattle.std.proofs.Common.{◌≡◌, ℕ, ◌+◌, ◌<◌, true, false}
use Rattle.rows.specs.Members.{bit}
use Rattle.rows.proofs.row.filter_word.Given as goal

-- what is left is of the word; what is not left has passed where the test says so
abbrev pub invariant-loop-b : goal.invariant-loop-b
invariant-loop-b g l =
    ((b : ℕ) → bit l.b-iterator.left b ≡ true → (bit l.fn.word b ≡ true) × (bit l.passed b ≡ false))
    × ((b : ℕ) → b < 64 → bit l.fn.word b ≡ true → bit l.b-iterator.left b ≡ false → goal.F-post g l.fn.passes (l.fn.from + b) (bit l.passed b))
    × ((b : ℕ) → b < 64 → bit l.fn.word b ≡ false → bit l.passed b ≡ false)
    × (goal.iterator-loop-b g).can_next l.b-iterator
    × (goal.iterator-loop-b g).is_finite l.b-iterator
