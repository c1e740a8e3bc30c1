-- What holds of the operations of every recording.
use Rattle.std.specs.Prelude.{◌≡◌, ℕ, ◌<◌, ◌≤◌, List, length}
use Rattle.recording.specs.declared.operation.Operation.{Operation}
use Rattle.recording.specs.Operations.{at, IsWrite, Twins}

-- station, register and value of each operation are in range
abbrev pub InRange : ℕ → List Operation → Type 0
InRange stations ops = (i : ℕ) → i < length ops → ((at ops i).station < stations) × ((at ops i).register ≤ 63) × ((at ops i).value ≤ 524287)

-- no write carries 0
abbrev pub NonZero : List Operation → Type 0
NonZero ops = (i : ℕ) → IsWrite ops i → 1 ≤ (at ops i).value

-- no two writes give one register the same value
abbrev pub Apart : List Operation → Type 0
Apart ops = (a b : ℕ) → Twins ops a b → a ≡ b
