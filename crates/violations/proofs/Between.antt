-- Steps of a visibility between writes, as a relation that is narrowed to them.
use Rattle.std.proofs.Common.{◌≡◌, ℕ, Bool, true, ◌&&◌, List, Decides}
use Rattle.std.proofs.lemmas.Bool.{and_parts, and_from}
use Rattle.recording.specs.declared.operation.Operation.{Operation}
use Rattle.recording.specs.Operations.{IsWrite}
use Rattle.relation.specs.Steps.{Steps, one}
use Rattle.relation.proofs.Extending.{steps_wider}
use Rattle.visibility.specs.Growth.{Rel}
use Rattle.violations.specs.Explained.{Writes}

-- the relation narrowed to a mask, which decides what a write is
module _ (ops : List Operation) (V : Rel) (M : ℕ → Bool) (d : (k : ℕ) → Decides (M k) (IsWrite ops k)) where
  pub narrow_decides : (a b : ℕ) → Decides (M a && (M b && V a b)) (Writes ops V a b)
  narrow_decides a b = (
    λ h. let p = and_parts (M a) (M b && V a b) h in let q = and_parts (M b) (V a b) p.1 in ((d a).0 p.0, (d b).0 q.0, q.1),
    λ w. and_from (M a) (M b && V a b) ((d a).1 w.0) (and_from (M b) (V a b) ((d b).1 w.1) w.2),
  )

-- what steps of the test lead to, steps of what it decides lead to
pub decided_steps : (N : Rel) (W : ℕ → ℕ → Type 0) → ((a b : ℕ) → Decides (N a b) (W a b)) → (a b : ℕ) (x : Bool) → Decides x (Steps (λ y z. N y z ≡ true) a b) → Decides x (Steps W a b)
decided_steps N W n a b x e = (λ h. steps_wider (λ y z k. one ((n y z).0 k)) (e.0 h), λ s. e.1 (steps_wider (λ y z k. one ((n y z).1 k)) s))
