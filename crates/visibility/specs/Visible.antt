-- Rules and visibilities.
use Rattle.std.specs.Prelude.{◌≡◌, ℕ, suc, ◌<◌, ◌≤◌, true, ◌⊎◌, List, map, length}
use Rattle.recording.specs.declared.operation.Operation.{Operation}
use Rattle.recording.specs.Operations.{SourceOf}
use Rattle.rows.specs.Counts.{size}
use Rattle.rows.specs.Members.{related}
use Rattle.visibility.specs.Growth.{Rel, Inside}
use Rattle.visibility.specs.declared.outline.Shape.{Shape}
use Rattle.visibility.specs.Shapes.{shape, before}

-- a pair of operations that is demanded
pub record Asked (D : List Shape → Rel → ℕ → ℕ → Type 0) (f : List Shape) (v : Rel) (a b : ℕ) : Type 0 where
  pub first : a < length f
  pub second : b < length f
  pub demanded : D f v a b

-- some c sees a and is seen by b
abbrev pub Through : Rel → ℕ → ℕ → Type 0
Through v a b = (c : ℕ) × (v a c ≡ true) × (v c b ≡ true)

-- what the causal rule demands: station order, and (a, b) if some c sees a and is seen by b
abbrev pub CausalDemand : List Shape → Rel → ℕ → ℕ → Type 0
CausalDemand f v a b = (before f a b ≡ true) ⊎ Through v a b

-- what the late rule demands: b comes at least that many places after a in their common station
abbrev pub LateDemand : ℕ → List Shape → ℕ → ℕ → Type 0
LateDemand distance f a b = (before f a b ≡ true) × (distance ≤ size (before f a) (suc b))

-- V is the least visibility: it lies within the operations, holds (source, read) for each read with a source and every demanded pair,
-- and lies within every visibility that does
pub record IsLeast (D : List Shape → Rel → ℕ → ℕ → Type 0) (ops : List Operation) (V : Rel) : Type 0 where
  pub within : (a b : ℕ) → V a b ≡ true → (a < length ops) × (b < length ops)
  pub sources : (w r : ℕ) → SourceOf ops w r → V w r ≡ true
  pub closed : (a b : ℕ) → Asked D (map shape ops) V a b → V a b ≡ true
  pub least : (u : Rel) → ((w r : ℕ) → SourceOf ops w r → u w r ≡ true) → ((a b : ℕ) → Asked D (map shape ops) u a b → u a b ≡ true) → Inside V u

-- a table holds (source, read) for each of the reads P that has a source, and nothing else
pub record SourceTable (ops : List Operation) (P : ℕ → Type 0) (t : List ℕ) : Type 0 where
  pub long : length t ≡ 1024
  pub sound : (w r : ℕ) → related t w r ≡ true → P r × SourceOf ops w r
  pub whole : (w r : ℕ) → P r → SourceOf ops w r → related t w r ≡ true
