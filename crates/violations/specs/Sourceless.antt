-- What is said of a read that has no source.
use Rattle.std.specs.Prelude.{◌≡◌, ℕ, List, Some, None, Option}
use Rattle.recording.specs.declared.operation.Operation.{Operation}
use Rattle.recording.specs.Operations.{at, IsRead, SourceOf}

-- the value of read r, if it has no source
abbrev pub SourcelessValue : List Operation → ℕ → Option ℕ → Type 0
SourcelessValue ops r None = IsRead ops r → (w : ℕ) × SourceOf ops w r
SourcelessValue ops r (Some v) = IsRead ops r × ((w : ℕ) → ¬ SourceOf ops w r) × (v ≡ (at ops r).value)
