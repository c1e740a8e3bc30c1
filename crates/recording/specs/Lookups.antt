-- What the look-ups of a recording answer.
use Rattle.std.specs.Prelude.{◌≡◌, ℕ, ◌<◌, ◌≤◌, List, length, Some, None, Ok, Err, Option, Result}
use Rattle.recording.specs.declared.operation.Operation.{Operation}
use Rattle.recording.specs.declared.refusal.Refusal.{Refusal}
use Rattle.recording.specs.declared.refusal.Refusal.TheVariants.{NotARead}
use Rattle.recording.specs.declared.stations.Entry.{Entry}
use Rattle.recording.specs.Operations.{at, IsRead, Gives, SourceOf}
use Rattle.recording.specs.Stations.{entry_of, LastOf}
use Rattle.recording.specs.Telling.{Recorded}

-- the operation of number n
abbrev pub OperationAnswer : List Operation → ℕ → Option Operation → Type 0
OperationAnswer ops n None = length ops ≤ n
OperationAnswer ops n (Some x) = (n < length ops) × (x ≡ at ops n)

-- what is kept of station s
abbrev pub EntryAnswer : Recorded → ℕ → Option Entry → Type 0
EntryAnswer before s None = before.stations ≤ s
EntryAnswer before s (Some e) = (s < before.stations) × (e ≡ entry_of before.operations s) × LastOf before.operations s e.last

-- the write that gives the register the value v, if there is one
abbrev pub Giver : List Operation → ℕ → ℕ → Option ℕ → Type 0
Giver ops reg v None = (w : ℕ) → ¬ Gives ops w reg v
Giver ops reg v (Some w) = Gives ops w reg v

-- the source of read r, if it has one
abbrev pub Source : List Operation → ℕ → Option ℕ → Type 0
Source ops r None = (w : ℕ) → ¬ SourceOf ops w r
Source ops r (Some w) = SourceOf ops w r

-- what the source call answers of number n
abbrev pub SourceAnswer : List Operation → ℕ → Result (Option ℕ) Refusal → Type 0
SourceAnswer ops n (Ok source) = IsRead ops n × Source ops n source
SourceAnswer ops n (Err e) = (e ≡ NotARead) × (¬ IsRead ops n)
