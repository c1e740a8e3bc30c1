-- The fixed numbers of violations and of refusals.
use Rattle.std.specs.Prelude.{ℕ, Some, None, Option}
use Rattle.judgement.specs.declared.verdict.Violation.{Violation}
use Rattle.judgement.specs.declared.verdict.Violation.TheVariants.{ThinAir, BadVisibility, BadInitRead, BadRead, BadArb, HbInitRead, CyclicHb}
use Rattle.judgement.specs.declared.refusal.Refusal.{Refusal}
use Rattle.judgement.specs.declared.refusal.Refusal.TheVariants.{NoSuchStation, NotARead, WrongLength, NotExplained}

abbrev pub violation_number : Violation → ℕ
violation_number ThinAir = 1
violation_number BadVisibility = 2
violation_number BadInitRead = 3
violation_number BadRead = 4
violation_number BadArb = 5
violation_number HbInitRead = 6
violation_number CyclicHb = 7

-- 0 for explained
abbrev pub finding_number : Option Violation → ℕ
finding_number None = 0
finding_number (Some v) = violation_number v

abbrev pub refusal_number : Refusal → ℕ
refusal_number NoSuchStation = 2
refusal_number NotARead = 7
refusal_number WrongLength = 8
refusal_number NotExplained = 17
