-- Steps of a relation, cycles, and orders as lists.
use Rattle.std.specs.Prelude.{◌≡◌, ℕ, ◌<◌, Bool, true, ◌⊎◌, ◌↔◌, List, [], ◌∷◌, length, slice_index}

-- one step of R, or a step and then more: the transitive closure
pub data Steps (R : ℕ → ℕ → Type 0) : ℕ → ℕ → Type 0 where
  one : {a b : ℕ} → R a b → Steps R a b
  more : {a b c : ℕ} → R a b → Steps R b c → Steps R a c

-- no steps lead from a number to itself
abbrev pub Acyclic : (ℕ → ℕ → Type 0) → Type 0
Acyclic R = (a : ℕ) → ¬ Steps R a a

-- the pairs of R between members
abbrev pub Among : (ℕ → Bool) → (ℕ → ℕ → Bool) → ℕ → ℕ → Type 0
Among M R a b = (M a ≡ true) × (M b ≡ true) × (R a b ≡ true)

-- a is in the list
abbrev pub Holds : List ℕ → ℕ → Type 0
Holds [] a = ⊥
Holds (x ∷ l) a = (x ≡ a) ⊎ Holds l a

-- no number stands twice
abbrev pub Once : List ℕ → Type 0
Once [] = Unit {0}
Once (x ∷ l) = (¬ Holds l x) × Once l

-- a stands at an earlier place than b
abbrev pub Precedes : List ℕ → ℕ → ℕ → Type 0
Precedes [] a b = ⊥
Precedes (x ∷ l) a b = ((x ≡ a) × Holds l b) ⊎ Precedes l a b

-- l lists each number with P exactly once, and nothing else
pub record Lists (P : ℕ → Type 0) (l : List ℕ) : Type 0 where
  pub once : Once l
  pub holds : (a : ℕ) → P a → Holds l a
  pub only : (a : ℕ) → Holds l a → P a

-- l is an order of the numbers with P in which R a b puts a before b
pub record Extension (P : ℕ → Type 0) (R : ℕ → ℕ → Type 0) (l : List ℕ) : Type 0 where
  pub lists : Lists P l
  pub keeps : (a b : ℕ) → P a → P b → R a b → Precedes l a b

-- ── Theorems ──

-- a finite set of numbers has an order that keeps R exactly when R has no cycle in it
abbrev pub ExtensionTheorem : Type 0
ExtensionTheorem =
    (n : ℕ) (M : ℕ → Bool) (R : ℕ → ℕ → Bool) → ((a : ℕ) → M a ≡ true → a < n)
    → Acyclic (Among M R) ↔ ((l : List ℕ) × Extension (λ a. M a ≡ true) (Among M R) l)

-- a cycle of a union, of which one part has none, uses a pair of the other
abbrev pub UnionTheorem : Type 0
UnionTheorem =
    (R S : ℕ → ℕ → Bool) (a : ℕ) → Acyclic (λ x y. R x y ≡ true) → Steps (λ x y. (R x y ≡ true) ⊎ (S x y ≡ true)) a a
    → (x y : ℕ) × (S x y ≡ true) × ((y ≡ x) ⊎ Steps (λ x y. (R x y ≡ true) ⊎ (S x y ≡ true)) y x)

-- the words on lists, by places
pub record PlacesTheorem : Type 0 where
  pub holds : (l : List ℕ) (a : ℕ) → Holds l a ↔ ((i : ℕ) × (i < length l) × (slice_index l i ≡ a))
  pub once : (l : List ℕ) → Once l ↔ ((i j : ℕ) → i < length l → j < length l → slice_index l i ≡ slice_index l j → i ≡ j)
  pub precedes : (l : List ℕ) (a b : ℕ) → Precedes l a b ↔ ((i j : ℕ) × (i < j) × (j < length l) × (slice_index l i ≡ a) × (slice_index l j ≡ b))
