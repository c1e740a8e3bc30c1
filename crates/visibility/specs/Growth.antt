-- Relations that are closed under demands, and the least of them.
use Rattle.std.specs.Prelude.{◌≡◌, ℕ, ◌/◌, ◌%◌, ◌<◌, ◌≤◌, Bool, true, false, List, length}
use Rattle.rows.specs.Counts.{size}
use Rattle.rows.specs.Members.{related}

-- a relation on numbers
abbrev pub Rel : Type 0
Rel = ℕ → ℕ → Bool

-- each pair of P is one of Q
abbrev pub Inside : Rel → Rel → Type 0
Inside P Q = (a b : ℕ) → P a b ≡ true → Q a b ≡ true

-- what is demanded with Q is in Q
abbrev pub Closed : (Rel → ℕ → ℕ → Type 0) → Rel → Type 0
Closed D Q = (a b : ℕ) → D Q a b → Q a b ≡ true

-- Q is the least relation that holds P and is closed
pub record Least (D : Rel → ℕ → ℕ → Type 0) (P Q : Rel) : Type 0 where
  pub holds : Inside P Q
  pub closed : Closed D Q
  pub least : (S : Rel) → Inside P S → Closed D S → Inside Q S

-- how many pairs a table holds
abbrev pub filled : List ℕ → ℕ
filled t = size (λ k. related t (k / 256) (k % 256)) 65536

-- u is the table t after the rows from `low` to below `high` took what is demanded of them; `changed` says whether that was anything
pub record Grown (D : Rel → ℕ → ℕ → Type 0) (low high : ℕ) (t u : List ℕ) (changed : Bool) : Type 0 where
  pub long : length u ≡ 1024
  pub holds : Inside (related t) (related u)
  pub within : (S : Rel) → Inside (related t) S → Closed D S → Inside (related u) S
  pub same : changed ≡ false → u ≡ t
  pub closed : changed ≡ false → (a b : ℕ) → low ≤ a → a < high → D (related t) a b → related t a b ≡ true
  pub more : changed ≡ true → filled t < filled u
