-- What it means that a recording is explained by sessions: each operation has a listing of what comes before it, in which the reads of its station come right.
use Rattle.std.specs.Prelude.{◌≡◌, ℕ, ◌<◌, ◌≤◌, true, ◌⊎◌, List, map, length}
use Rattle.recording.specs.declared.operation.Operation.{Operation}
use Rattle.recording.specs.Operations.{at, IsRead}
use Rattle.relation.specs.Steps.{Lists, Precedes}
use Rattle.visibility.specs.Growth.{Rel}
use Rattle.visibility.specs.Shapes.{shape, before}
use Rattle.violations.specs.Explained.{In, Reads}

-- what comes before what comes before comes before
abbrev pub Transitive : Rel → Type 0
Transitive v = (a b c : ℕ) → In v a b → In v b c → In v a c

-- a transitive order of operations without a cycle that contains station order
pub record CausalOrder (ops : List Operation) (co : Rel) : Type 0 where
  pub within : (a b : ℕ) → In co a b → (a < length ops) × (b < length ops)
  pub transitive : Transitive co
  pub irreflexive : (a : ℕ) → ¬ In co a a
  pub stations : (a b : ℕ) → before (map shape ops) a b ≡ true → In co a b

-- o, and all before it
abbrev pub Past : Rel → ℕ → ℕ → Type 0
Past co o a = (a ≡ o) ⊎ In co a o

-- r is a read of o's station
pub record StationRead (ops : List Operation) (o r : ℕ) : Type 0 where
  pub is_read : IsRead ops r
  pub station : (at ops r).station ≡ (at ops o).station

-- l lists o and all before it, each once, keeping the order, and gives each read of o's station up to o its value
pub record Listing (ops : List Operation) (co : Rel) (o : ℕ) (l : List ℕ) : Type 0 where
  pub lists : Lists (Past co o) l
  pub keeps : (a b : ℕ) → Past co o a → Past co o b → In co a b → Precedes l a b
  pub reads : (r : ℕ) → StationRead ops o r → r ≤ o → Reads ops (Precedes l) l r

-- the causal order explains the recording
pub record SessionExplains (ops : List Operation) (co : Rel) : Type 0 where
  pub order : CausalOrder ops co
  pub listings : (o : ℕ) → o < length ops → (l : List ℕ) × Listing ops co o l

abbrev pub SessionExplained : List Operation → Type 0
SessionExplained ops = (co : Rel) × SessionExplains ops co
