-- A recording as it is told: what each call answers, and the recording after it.
use Rattle.std.specs.Prelude.{◌≡◌, ℕ, ◌<◌, ◌≤◌, false, ◌||◌, List, [], ◌∷◌, ◌++◌, length, Some, None, Ok, Err, Option, Result, ◌==◌, nat_le, nat_lt}
use Rattle.recording.specs.declared.operation.Kind.{Kind}
use Rattle.recording.specs.declared.operation.Kind.TheVariants.{Write, Read}
use Rattle.recording.specs.declared.operation.Operation.{Operation}
use Rattle.recording.specs.declared.refusal.Refusal.{Refusal}
use Rattle.recording.specs.declared.refusal.Refusal.TheVariants.{StationCount, NoSuchStation, NoSuchRegister, ValueOutOfRange, Full, ValueRepeated}
use Rattle.recording.specs.declared.recording.Recording.{Recording}
use Rattle.recording.specs.Refusals.{first, ◌when◌}
use Rattle.recording.specs.Operations.{written}

-- what a recording is: its count of stations, and its operations in the order in which they were told
pub record Recorded : Type 0 where
  pub stations : ℕ
  pub operations : List Operation

-- what a `Recording` holds
abbrev pub recorded : Recording → Recorded
recorded r = record { stations = r.stations; operations = r.operations.items }

-- no operations yet
abbrev pub empty : ℕ → Recorded
empty stations = record { stations = stations; operations = [] }

-- one operation more
abbrev pub with : Recorded → Operation → Recorded
with before op = record { stations = before.stations; operations = before.operations ++ op ∷ [] }

-- an operation that may be appended
pub record Allowed (before : Recorded) (op : Operation) : Type 0 where
  pub station : op.station < before.stations
  pub register : op.register ≤ 63
  pub value : op.value ≤ 524287
  pub nonzero : op.kind ≡ Write → 1 ≤ op.value
  pub fresh : op.kind ≡ Write → written before.operations op.register op.value ≡ false

-- why a start with so many stations is refused
abbrev pub start_ground : ℕ → Option Refusal
start_ground stations = first (StationCount when (stations == 0 || nat_lt 16 stations) ∷ [])

-- why a write is refused
abbrev pub write_ground : Recorded → ℕ → ℕ → ℕ → Option Refusal
write_ground before station reg v = first (
    NoSuchStation when nat_le before.stations station
    ∷ NoSuchRegister when nat_lt 63 reg
    ∷ ValueOutOfRange when (v == 0 || nat_lt 524287 v)
    ∷ Full when nat_le 256 (length before.operations)
    ∷ ValueRepeated when written before.operations reg v
    ∷ [])

-- why a read is refused
abbrev pub read_ground : Recorded → ℕ → ℕ → ℕ → Option Refusal
read_ground before station reg v = first (
    NoSuchStation when nat_le before.stations station
    ∷ NoSuchRegister when nat_lt 63 reg
    ∷ ValueOutOfRange when nat_lt 524287 v
    ∷ Full when nat_le 256 (length before.operations)
    ∷ [])

-- why an operation of that kind is refused
abbrev pub ground_of : Kind → Recorded → ℕ → ℕ → ℕ → Option Refusal
ground_of Write = write_ground
ground_of Read = read_ground

-- what a start answers: nothing, and the recording is empty; or the ground, and nothing has changed
abbrev pub Started : Recorded → ℕ → Result (Unit {0}) Refusal → Recorded → Type 0
Started before stations (Ok u) after = (start_ground stations ≡ None) × (after ≡ empty stations)
Started before stations (Err e) after = (start_ground stations ≡ Some e) × (after ≡ before)

-- what telling an operation answers: its number, and it is the last one now; or the ground, and nothing has changed
abbrev pub Told : Option Refusal → Operation → Recorded → Result ℕ Refusal → Recorded → Type 0
Told why op before (Ok n) after = (why ≡ None) × (n ≡ length before.operations) × (after ≡ with before op)
Told why op before (Err e) after = (why ≡ Some e) × (after ≡ before)
