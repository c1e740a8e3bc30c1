-- What is found at the stations.
use Rattle.std.specs.Prelude.{◌≡◌, ℕ, List, None, Ok, Err, Result}
use Rattle.recording.specs.declared.operation.Operation.{Operation}
use Rattle.visibility.specs.Growth.{Rel}
use Rattle.sessions.specs.Happening.{Last}
use Rattle.judgement.specs.declared.shown.Shown.{Shown}
use Rattle.judgement.specs.declared.verdict.Violation.{Violation}
use Rattle.judgement.specs.declared.verdict.Violation.TheVariants.{ThinAir, BadVisibility, BadInitRead, BadRead, BadArb, HbInitRead, CyclicHb}
use Rattle.judgement.specs.Passing.{FoundAt}
use Rattle.judgement.specs.Showing.{Evident}
use Rattle.judgement.specs.Verdicts.{First, NoInitAt, in_session}
use Rattle.violations.specs.Violations.{OwnClean}

-- violation 6; or 7, where 6 holds at no station; and no other
abbrev pub StationFirst : List Operation → Rel → Violation → Type 0
StationFirst ops V ThinAir = ⊥
StationFirst ops V BadVisibility = ⊥
StationFirst ops V BadInitRead = ⊥
StationFirst ops V BadRead = ⊥
StationFirst ops V BadArb = ⊥
StationFirst ops V HbInitRead = Unit {0}
StationFirst ops V CyclicHb = (o : ℕ) → NoInitAt ops V o

-- nothing stands against any station
abbrev pub StationsClean : List Operation → Rel → Type 0
StationsClean ops V = (o : ℕ) → Last ops o → FoundAt ops V o (Ok None)

-- the first violation of the stations; or none holds, and the buffer is unchanged
abbrev pub StationsSought : List Operation → Rel → List ℕ → List ℕ → Result (Unit {0}) Shown → Type 0
StationsSought ops V before after (Err s) = StationFirst ops V s.violation × Evident ops V s.violation s.station s.count before after
StationsSought ops V before after (Ok u) = StationsClean ops V × (after ≡ before)

-- the first violation of the session judgement; or none holds, and the buffer is unchanged
abbrev pub SessionSought : List Operation → Rel → List ℕ → List ℕ → Result (Unit {0}) Shown → Type 0
SessionSought ops V before after (Err s) = First in_session ops V s.violation × Evident ops V s.violation s.station s.count before after
SessionSought ops V before after (Ok u) = OwnClean ops V × StationsClean ops V × (after ≡ before)
