-- How term lists are spelled: letters s and v, terms parted by one comma.
use Rattle.std.specs.Prelude.{◌≡◌, ℕ, ◌+◌, ◌<◌, ◌≤◌, List, [], ◌∷◌, ◌++◌, map, length, take}
use Rattle.visibility.specs.declared.terms.Letter.{Letter}
use Rattle.visibility.specs.declared.terms.Letter.TheVariants.{Station, Seen}

abbrev pub code : Letter → ℕ
code Station = 115
code Seen = 118

abbrev pub codes : List Letter → List ℕ
codes t = map code t

-- a comma and a term, for each term
abbrev pub after : List (List Letter) → List ℕ
after [] = []
after (t ∷ ts) = 44 ∷ codes t ++ after ts

abbrev pub spell : List (List Letter) → List ℕ
spell [] = []
spell (t ∷ ts) = codes t ++ after ts

-- each term has one to four letters
abbrev pub Each : List (List Letter) → Type 0
Each [] = Unit {0}
Each (t ∷ ts) = ((1 ≤ length t) × (length t ≤ 4)) × Each ts

pub record LawfulTerms (ts : List (List Letter)) : Type 0 where
  pub few : length ts ≤ 8
  pub each : Each ts

-- some lawful spelling begins with these bytes
pub record Begins (bytes : List ℕ) : Type 0 where
  pub terms : List (List Letter)
  pub lawful : LawfulTerms terms
  pub more : List ℕ
  pub spelled : spell terms ≡ bytes ++ more

-- the place of the first byte after which no lawful spelling is possible, or the length if the bytes end too early
pub record Misspelt (bytes : List ℕ) (place : ℕ) : Type 0 where
  pub within : place ≤ length bytes
  pub begins : Begins (take place bytes)
  pub fatal : place < length bytes → ¬ Begins (take (place + 1) bytes)
  pub early : place ≡ length bytes → (ts : List (List Letter)) → LawfulTerms ts → ¬ (spell ts ≡ bytes)
