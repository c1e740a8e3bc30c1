use Rattle.std.proofs.Common.{◌≡◌, ℕ, true, false}
use Rattle.rows.specs.Members.{member}
use Rattle.violations.specs.Overtaking.{Says}
use Rattle.violations.specs.Views.{operations_of, seen_of}
use Rattle.violations.specs.Violations.{Rival}
use Rattle.violations.proofs.view.View.overtaken.Given as goal

-- what is left is of the reads; of what is not left, no rival is in the row of its source
abbrev pub invariant-loop-read : goal.invariant-loop-read
invariant-loop-read g l =
    ((k : ℕ) → member l.read-iterator.left k ≡ true → member l.fn.reads k ≡ true)
    × ((k w x : ℕ) → member l.fn.reads k ≡ true → member l.read-iterator.left k ≡ false → Rival (operations_of l.self) (seen_of l.self) k w x → Says (λ row. goal.F-post g l.fn.after w row) x false)
    × (goal.iterator-loop-read g).can_next l.read-iterator
    × (goal.iterator-loop-read g).is_finite l.read-iterator
