-- What is demanded of what has happened before what.
use Rattle.std.specs.Prelude.{◌≡◌, ℕ, ◌<◌, true, ◌≢◌, ◌⊎◌, List, length}
use Rattle.recording.specs.declared.operation.Kind.TheVariants.{Write}
use Rattle.recording.specs.declared.operation.Operation.{Operation}
use Rattle.rows.specs.Members.{related}
use Rattle.visibility.specs.declared.outline.Shape.{Shape}
use Rattle.visibility.specs.Growth.{Rel}
use Rattle.visibility.specs.Shapes.{shape_at}
use Rattle.visibility.specs.Visible.{Through}
use Rattle.sessions.specs.Listings.{Past}

-- x is a write of w's register other than w, and before a read whose source is w
pub record Derives (readers : Rel) (f : List Shape) (v : Rel) (x w : ℕ) : Type 0 where
  pub inside : w < length f
  pub is_write : (shape_at f x).kind ≡ Write
  pub register : (shape_at f x).register ≡ (shape_at f w).register
  pub other : x ≢ w
  pub read : ℕ
  pub source : readers w read ≡ true
  pub before : v x read ≡ true

-- what is demanded: what comes before what comes before, and such a write before the source
abbrev pub HappeningDemand : Rel → List Shape → Rel → ℕ → ℕ → Type 0
HappeningDemand readers f v a b = Through v a b ⊎ Derives readers f v a b

-- an operation that is o, or that o sees
pub record PastOperation (ops : List Operation) (V : Rel) (o a : ℕ) : Type 0 where
  pub inside : a < length ops
  pub past : Past V o a

-- a table holds V among these, and nothing else
pub record PastTable (ops : List Operation) (V : Rel) (o : ℕ) (t : List ℕ) : Type 0 where
  pub long : length t ≡ 1024
  pub sound : (a b : ℕ) → related t a b ≡ true → PastOperation ops V o a × PastOperation ops V o b × (V a b ≡ true)
  pub whole : (a b : ℕ) → PastOperation ops V o a → PastOperation ops V o b → V a b ≡ true → related t a b ≡ true

-- an operation, a visibility of operations, and a table of 1,024 words
pub record Grounded (ops : List Operation) (V : Rel) (o : ℕ) (t : List ℕ) : Type 0 where
  pub long : length t ≡ 1024
  pub inside : o < length ops
  pub within : (a b : ℕ) → V a b ≡ true → (a < length ops) × (b < length ops)
