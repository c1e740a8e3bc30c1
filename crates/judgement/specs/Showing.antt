-- What is found of the violations, one after the other.
use Rattle.std.specs.Prelude.{◌≡◌, ℕ, ◌<◌, ◌≤◌, true, List, take, Some, None, Ok, Err, Result}
use Rattle.recording.specs.declared.operation.Operation.{Operation}
use Rattle.relation.specs.Orders.{Tail}
use Rattle.visibility.specs.Growth.{Rel}
use Rattle.judgement.specs.declared.shown.Shown.{Shown}
use Rattle.judgement.specs.declared.verdict.Verdict.{Verdict}
use Rattle.judgement.specs.declared.verdict.Violation.{Violation}
use Rattle.judgement.specs.Numbers.{violation_number}
use Rattle.judgement.specs.Verdicts.{Absent, Shows, in_own}
use Rattle.violations.specs.Violations.{OwnClean}

-- the first n numbers of the buffer show the violation, and the others are unchanged
pub record Evident (ops : List Operation) (V : Rel) (x : Violation) (s n : ℕ) (before after : List ℕ) : Type 0 where
  pub shows : Shows ops V x s (take n after)
  pub few : n ≤ 256
  pub tail : Tail before after n

-- what is shown is that violation; or it does not hold, and the buffer is unchanged
abbrev pub Sought : List Operation → Rel → Violation → List ℕ → List ℕ → Result (Unit {0}) Shown → Type 0
Sought ops V x before after (Err s) = (s.violation ≡ x) × Evident ops V x s.station s.count before after
Sought ops V x before after (Ok u) = Absent ops V x × (after ≡ before)

-- no violation with a smaller number holds
abbrev pub NoneBelow : List Operation → Rel → ℕ → Type 0
NoneBelow ops V n = (y : Violation) → violation_number y < n → Absent ops V y

-- the first violation of the own judgement; or none holds, and the buffer is unchanged
abbrev pub OwnSought : List Operation → Rel → List ℕ → List ℕ → Result (Unit {0}) Shown → Type 0
OwnSought ops V before after (Err s) = (in_own s.violation ≡ true) × NoneBelow ops V (violation_number s.violation) × Evident ops V s.violation s.station s.count before after
OwnSought ops V before after (Ok u) = OwnClean ops V × (after ≡ before)

-- the verdict of what is shown; or of nothing, with so many numbers of evidence
abbrev pub verdict_of : ℕ → Result ℕ Shown → Verdict
verdict_of label (Err s) = record { label = label; violation = Some s.violation; station = s.station; count = s.count }
verdict_of label (Ok n) = record { label = label; violation = None; station = 0; count = n }
