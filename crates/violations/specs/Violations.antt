-- The violations of a recording under a visibility.
use Rattle.std.specs.Prelude.{◌≡◌, ℕ, ◌≢◌, ◌⊎◌, List}
use Rattle.recording.specs.declared.operation.Operation.{Operation}
use Rattle.recording.specs.Operations.{at, IsRead, SourceOf}
use Rattle.relation.specs.Steps.{Steps, Acyclic}
use Rattle.visibility.specs.Growth.{Rel}
use Rattle.violations.specs.Explained.{In, SeesOf, Writes, initial}

-- a read with a value other than its register's first has no source
pub record ThinAir (ops : List Operation) (r : ℕ) : Type 0 where
  pub is_read : IsRead ops r
  pub other : (at ops r).value ≢ initial (at ops r).register
  pub unwritten : (w : ℕ) → ¬ SourceOf ops w r

-- a read of its register's first value
pub record InitialRead (ops : List Operation) (r : ℕ) : Type 0 where
  pub is_read : IsRead ops r
  pub value : (at ops r).value ≡ initial (at ops r).register

-- such a read sees a write of its register
pub record BadInitRead (ops : List Operation) (V : Rel) (r w : ℕ) : Type 0 where
  pub initial_read : InitialRead ops r
  pub sees : SeesOf ops (In V) r w

-- a read r with source w sees another write x of its register
pub record Rival (ops : List Operation) (V : Rel) (r w x : ℕ) : Type 0 where
  pub source : SourceOf ops w r
  pub sees : SeesOf ops (In V) r x
  pub other : x ≢ w

-- and steps of V between writes lead from w to x
pub record BadRead (ops : List Operation) (V : Rel) (r w x : ℕ) : Type 0 where
  pub rival : Rival ops V r w x
  pub steps : Steps (Writes ops V) w x

-- x has to come before w for the sake of some read
abbrev pub Conflict : List Operation → Rel → ℕ → ℕ → Type 0
Conflict ops V x w = (r : ℕ) × Rival ops V r w x

-- V between writes, and the conflicts
abbrev pub Arbitration : List Operation → Rel → ℕ → ℕ → Type 0
Arbitration ops V a b = Writes ops V a b ⊎ Conflict ops V a b

-- none of the violations of the own judgement
pub record OwnClean (ops : List Operation) (V : Rel) : Type 0 where
  pub thinair : (r : ℕ) → ¬ ThinAir ops r
  pub badvisibility : Acyclic (In V)
  pub badinitread : (r w : ℕ) → ¬ BadInitRead ops V r w
  pub badread : (r w x : ℕ) → ¬ BadRead ops V r w x

-- none of those of the shared judgement
pub record SharedClean (ops : List Operation) (V : Rel) : Type 0 where
  pub own : OwnClean ops V
  pub badarb : Acyclic (Arbitration ops V)
