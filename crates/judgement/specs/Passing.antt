-- What is found of the violations of stations, station after station.
use Rattle.std.specs.Prelude.{ℕ, ◌<◌, List, Some, None, Ok, Err, Option, Result}
use Rattle.recording.specs.declared.operation.Operation.{Operation}
use Rattle.recording.specs.Operations.{at}
use Rattle.visibility.specs.Growth.{Rel}
use Rattle.violations.specs.declared.evidence.Pair.{Pair}
use Rattle.violations.specs.declared.evidence.Rivals.{Rivals}
use Rattle.violations.specs.Firsts.{SmallestPair, SmallestRivals}
use Rattle.sessions.specs.Happening.{Last, HappensBefore, HbInitRead, CyclicHb}
use Rattle.judgement.specs.declared.stale.AtStation.{AtStation}
use Rattle.judgement.specs.Verdicts.{NoInitAt, InitAt, CyclicAt}

-- with H what has happened before what for o: violation 6, or else 7, or none, with the smallest numbers
abbrev pub FoundAt : List Operation → Rel → ℕ → Result (Option Rivals) Pair → Type 0
FoundAt ops V o (Err p) = (H : Rel) × HappensBefore ops V o H × SmallestPair (HbInitRead ops o H) (Some p)
FoundAt ops V o (Ok t) = (H : Rel) × HappensBefore ops V o H × SmallestPair (HbInitRead ops o H) None × SmallestRivals (CyclicHb ops o H) t

-- the first violation 7 of the stations that are passed; or there is none
abbrev pub CyclicSoFar : List Operation → Rel → ℕ → Option (AtStation Rivals) → Type 0
CyclicSoFar ops V s None = (o : ℕ) → Last ops o → (at ops o).station < s → FoundAt ops V o (Ok None)
CyclicSoFar ops V s (Some c) = CyclicAt ops V c.station c.last c.found

-- the stations below s are passed: none has violation 6
pub record Passed (ops : List Operation) (V : Rel) (s : ℕ) (c : Option (AtStation Rivals)) : Type 0 where
  pub init : (o : ℕ) → (at ops o).station < s → NoInitAt ops V o
  pub cyclic : CyclicSoFar ops V s c

-- the stations below s are passed; or one has violation 6, and no smaller one
abbrev pub PassedTo : List Operation → Rel → ℕ → Result (Option (AtStation Rivals)) (AtStation Pair) → Type 0
PassedTo ops V s (Ok cyclic) = Passed ops V s cyclic
PassedTo ops V s (Err p) = InitAt ops V p.station p.last p.found
