-- Sets of numbers as words of 64 bits: the number k is a member where bit k % 64 of word k / 64 is set.
use Rattle.std.specs.Prelude.{◌≡◌, ℕ, ◌+◌, ◌*◌, ◌/◌, ◌%◌, ◌^◌, ◌<◌, Bool, true, false, List, [], ◌∷◌, Some, None, Option, ◌==◌, slice_index}
use Rattle.rows.specs.declared.row.Row.{Row}

-- bit i of the word w, bit 0 being the lowest
unfoldable pub bit : ℕ → ℕ → Bool
bit w i = w / 2 ^ i % 2 == 1

-- whether k is in the set that the words stand for; past the last word, no number is
unfoldable pub has : List ℕ → ℕ → Bool
has ws k = bit (slice_index ws (k / 64)) (k % 64)

-- whether k is a member
abbrev pub member : Row → ℕ → Bool
member r k = has r.words k

-- the four words of row a of a table
abbrev pub row_of : List ℕ → ℕ → List ℕ
row_of t a = slice_index t (4 * a) ∷ slice_index t (4 * a + 1) ∷ slice_index t (4 * a + 2) ∷ slice_index t (4 * a + 3) ∷ []

-- whether a table relates a to b: b sees a where bit b % 64 of word 4 * a + b / 64 is set
abbrev pub related : List ℕ → ℕ → ℕ → Bool
related t a b = has (row_of t a) b

-- the smallest number of a set, if there is one
abbrev pub First : (ℕ → Bool) → Option ℕ → Type 0
First P None = (k : ℕ) → P k ≡ false
First P (Some b) = (b < 256) × (P b ≡ true) × ((k : ℕ) → k < b → P k ≡ false)

-- the smallest member of which a test says yes, if there is one
abbrev pub Found : (ℕ → Bool) → (ℕ → Bool → Type 0) → Option ℕ → Type 0
Found P Says None = (k : ℕ) → P k ≡ true → Says k false
Found P Says (Some b) = (P b ≡ true) × Says b true × ((k : ℕ) → k < b → P k ≡ true → Says k false)

-- what the answers to all members have, and nothing else
pub record Gathered (P : ℕ → Bool) (Says : ℕ → Row → Type 0) (Q : ℕ → Bool) : Type 0 where
  pub sound : (b : ℕ) → Q b ≡ true → (k : ℕ) × (answer : Row) × (P k ≡ true) × Says k answer × (member answer b ≡ true)
  pub whole : (k : ℕ) → P k ≡ true → (answer : Row) × Says k answer × ((b : ℕ) → member answer b ≡ true → Q b ≡ true)
