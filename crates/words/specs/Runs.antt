-- What a run of calls settles: the stations of the last accepted start, and the operations accepted since.
use Rattle.std.specs.Prelude.{◌≡◌, ℕ, ◌<◌, ◌≤◌, ◌⊎◌, List, [], ◌∷◌, ◌++◌, map, length, Some, None, Option}
use Rattle.recording.specs.declared.operation.Operation.{Operation}
use Rattle.recording.specs.declared.refusal.Refusal.{Refusal}
use Rattle.recording.specs.Operations.{write_of, read_of}
use Rattle.recording.specs.Telling.{Recorded}
use Rattle.words.specs.declared.calls.Call.{Call}
use Rattle.words.specs.declared.calls.Call.TheVariants.{Start, Write, Read, Load}
use Rattle.words.specs.declared.fault.Misread.{Misread}
use Rattle.words.specs.Layout.{Said, opening, write, read, note, closing}
use Rattle.words.specs.Loading.{Heard, Means, tell_ground}
use Rattle.words.specs.Reading.{at_start}

-- something that a recording accepted
pub data Event : Type 0 where
  started : (stations : ℕ) → Event
  took : (operation : Operation) → Event

-- the recording after these events: the stations of the last start and the operations since; without a start, one station and all operations
abbrev pub Since : List Event → Recorded → Type 0
Since events r =
    ((r.stations ≡ 1) × (events ≡ map took r.operations))
    ⊎ ((before : List Event) × (events ≡ before ++ started r.stations ∷ map took r.operations))

-- what is accepted when a record is
abbrev pub event_of : Said → List Event
event_of (opening stations) = started stations ∷ []
event_of (write station register value) = took (write_of station register value) ∷ []
event_of (read station register value) = took (read_of station register value) ∷ []
event_of (note text) = []
event_of (closing count) = []

-- what a call tells, in order: a start, a write and a read themselves, and a load of at most 1,024 words each record that they mean
abbrev pub Tellings : Call → List Said → Type 0
Tellings (Start stations) told = told ≡ opening stations ∷ []
Tellings (Write station register value) told = told ≡ write station register value ∷ []
Tellings (Read station register value) told = told ≡ read station register value ∷ []
Tellings (Load words) told =
    ((1024 < length words.now) × (told ≡ []))
    ⊎ ((length words.now ≤ 1024) × (hs : List Heard) × (end : Option Misread) × Means (at_start words.now) hs end × (told ≡ map (λ h. h.said) hs))

-- the events before and after something is told: each part is accepted if no ground forbids it, and the first refused one ends it
abbrev pub Accepts : List Event → List Said → List Event → Type 0
Accepts before [] after = after ≡ before
Accepts before (s ∷ told) after = (r : Recorded) × Since before r
    × (((tell_ground r s ≡ None) × Accepts (before ++ event_of s) told after) ⊎ ((e : Refusal) × (tell_ground r s ≡ Some e) × (after ≡ before)))

-- the events before and after a run of calls
abbrev pub Runs : List Event → List Call → List Event → Type 0
Runs before [] after = after ≡ before
Runs before (call ∷ calls) after = (told : List Said) × (between : List Event) × Tellings call told × Accepts before told between × Runs between calls after

-- the recording that a run of calls settles, beginning unstarted
abbrev pub Settles : List Call → Recorded → Type 0
Settles calls r = (events : List Event) × Runs [] calls events × Since events r
