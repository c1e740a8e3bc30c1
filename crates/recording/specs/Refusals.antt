-- The grounds on which a recording refuses: their numbers, and which of several is told.
use Rattle.std.specs.Prelude.{ℕ, Bool, cond, List, [], ◌∷◌, Some, None, Option}
use Rattle.recording.specs.declared.refusal.Refusal.{Refusal}
use Rattle.recording.specs.declared.refusal.Refusal.TheVariants.{StationCount, NoSuchStation, NoSuchRegister, ValueOutOfRange, Full, ValueRepeated, NotARead}

abbrev pub number_of : Refusal → ℕ
number_of StationCount = 1
number_of NoSuchStation = 2
number_of NoSuchRegister = 3
number_of ValueOutOfRange = 4
number_of Full = 5
number_of ValueRepeated = 6
number_of NotARead = 7

-- a ground, and whether it holds
pub record Ground (E : Type 0) : Type 0 where
  pub named : E
  pub holds : Bool

-- the first ground that holds, if any does
abbrev pub first : {E : Type 0} → List (Ground E) → Option E
first [] = None
first (g ∷ gs) = cond g.holds (Some g.named) (first gs)

infix 70 ◌when◌
abbrev pub ◌when◌ : {E : Type 0} → E → Bool → Ground E
e when b = record { named = e; holds = b }
