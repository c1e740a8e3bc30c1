-- What a list of words means, and what a load of them does to a recording.
use Rattle.std.specs.Prelude.{◌≡◌, ℕ, ◌<◌, ◌≤◌, ◌⊎◌, List, [], ◌∷◌, length, Some, None, Ok, Err, Option, Result}
use Rattle.recording.specs.declared.refusal.Refusal.{Refusal}
use Rattle.recording.specs.Refusals as recording
use Rattle.recording.specs.Operations.{write_of, read_of}
use Rattle.recording.specs.Telling.{Recorded, empty, with, start_ground, write_ground, read_ground}
use Rattle.words.specs.declared.fault.Misread.{Misread}
use Rattle.words.specs.declared.loading.LoadRefusal.{LoadRefusal}
use Rattle.words.specs.declared.loading.LoadRefusal.TheVariants.{TooLong, Reader, Recording}
use Rattle.words.specs.Faults as faults
use Rattle.words.specs.Layout.{Said, opening, write, read, note, closing}
use Rattle.words.specs.Reading.{Reading, at_start, ground_of, said_at, pass}

-- what a record says, and the place of its first word
pub record Heard : Type 0 where
  pub place : ℕ
  pub said : Said

-- what the words from a reading on mean: which records, at which places, and at which fault they end, if at one
abbrev pub Means : Reading → List Heard → Option Misread → Type 0
Means r [] None = (ground_of r ≡ None) × (r.rest ≡ [])
Means r [] (Some e) = (ground_of r ≡ Some e.fault) × (e.place ≡ r.place)
Means r (h ∷ hs) end = (ground_of r ≡ None) × (said_at r.rest ≡ Some h.said) × (h.place ≡ r.place) × Means (pass r h.said) hs end

-- why a recording refuses what a record says
abbrev pub tell_ground : Recorded → Said → Option Refusal
tell_ground before (opening stations) = start_ground stations
tell_ground before (write station register value) = write_ground before station register value
tell_ground before (read station register value) = read_ground before station register value
tell_ground before (note text) = None
tell_ground before (closing count) = None

-- the recording that was told what a record says
abbrev pub told : Recorded → Said → Recorded
told before (opening stations) = empty stations
told before (write station register value) = with before (write_of station register value)
told before (read station register value) = with before (read_of station register value)
told before (note text) = before
told before (closing count) = before

-- what telling a record answers
abbrev pub ToldAnswer : Recorded → Said → Result (Unit {0}) Refusal → Recorded → Type 0
ToldAnswer before s (Ok u) after = (tell_ground before s ≡ None) × (after ≡ told before s)
ToldAnswer before s (Err e) after = (tell_ground before s ≡ Some e) × (after ≡ before)

-- records that are told one after the other, until one is refused or they end
abbrev pub Tells : List Heard → Option Misread → Recorded → Result ℕ LoadRefusal → Recorded → Type 0
Tells [] None before answer after = (answer ≡ Ok (length before.operations)) × (after ≡ before)
Tells [] (Some e) before answer after = (answer ≡ Err (Reader e)) × (after ≡ before)
Tells (h ∷ hs) end before answer after =
    ((tell_ground before h.said ≡ None) × Tells hs end (told before h.said) answer after)
    ⊎ ((e : Refusal) × (tell_ground before h.said ≡ Some e) × (answer ≡ Err (Recording e h.place)) × (after ≡ before))

-- a load of the words from a reading on
abbrev pub LoadsFrom : Reading → Recorded → Result ℕ LoadRefusal → Recorded → Type 0
LoadsFrom r before answer after = (hs : List Heard) × (end : Option Misread) × Means r hs end × Tells hs end before answer after

-- a load: more than 1,024 words are refused; else the records that the words mean are told
abbrev pub Loads : Recorded → List ℕ → Result ℕ LoadRefusal → Recorded → Type 0
Loads before words answer after =
    ((1024 < length words) × (answer ≡ Err TooLong) × (after ≡ before))
    ⊎ ((length words ≤ 1024) × LoadsFrom (at_start words) before answer after)

-- what a refusal of a load holds: the layer, its number there, and the place
abbrev pub layer_of : LoadRefusal → ℕ
layer_of TooLong = 0
layer_of (Reader e) = 1
layer_of (Recording e place) = 2

abbrev pub number_of : LoadRefusal → ℕ
number_of TooLong = 8
number_of (Reader e) = faults.number_of e.fault
number_of (Recording e place) = recording.number_of e

abbrev pub place_of : LoadRefusal → ℕ
place_of TooLong = 0
place_of (Reader e) = e.place
place_of (Recording e place) = place
