use Rattle.std.proofs.Common.{◌≡◌, ℕ, ◌*◌, ◌<◌, true, false, length}
use Rattle.rows.specs.Members.{member}
use Rattle.rows.proofs.row.Row.filter.Given as goal

-- the members of the words before have passed where the test says so
abbrev pub invariant-loop-i : goal.invariant-loop-i
invariant-loop-i g l =
    (length l.passed.words ≡ 4)
    × ((k : ℕ) → k < 64 * l.i → member l.fn.self k ≡ true → goal.F-post g l.fn.passes k (member l.passed k))
    × ((k : ℕ) → k < 64 * l.i → member l.fn.self k ≡ false → member l.passed k ≡ false)
