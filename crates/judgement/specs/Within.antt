-- A visibility of the operations of a recording, and of no other number.
use Rattle.std.specs.Prelude.{◌≡◌, ℕ, ◌<◌, true, List, length}
use Rattle.recording.specs.declared.operation.Operation.{Operation}
use Rattle.visibility.specs.Growth.{Rel}

abbrev pub Within : List Operation → Rel → Type 0
Within ops V = (a b : ℕ) → V a b ≡ true → (a < length ops) × (b < length ops)
