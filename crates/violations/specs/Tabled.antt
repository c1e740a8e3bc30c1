-- A table that is filled with conflicts.
use Rattle.std.specs.Prelude.{◌≡◌, ℕ, ◌<◌, true, List, length}
use Rattle.recording.specs.declared.operation.Operation.{Operation}
use Rattle.rows.specs.Members.{related}
use Rattle.visibility.specs.Growth.{Rel}
use Rattle.violations.specs.Violations.{Rival}

-- the table holds (x, w) for each rival x of the source w of a read below n, and nothing else
pub record Tabled (ops : List Operation) (V : Rel) (n : ℕ) (t : List ℕ) : Type 0 where
  pub long : length t ≡ 1024
  pub sound : (x w : ℕ) → related t x w ≡ true → (r : ℕ) × (r < n) × Rival ops V r w x
  pub whole : (x w r : ℕ) → r < n → Rival ops V r w x → related t x w ≡ true
