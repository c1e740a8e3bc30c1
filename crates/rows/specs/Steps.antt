-- How the members of a set are gone through.
use Rattle.std.specs.Prelude.{◌≡◌, ℕ, Bool, not, ◌&&◌, ◌<◌, Some, None, Option, ◌==◌}
use Rattle.rows.specs.Members.{bit, First}

-- a set without that number, if there is one
abbrev pub Left : (ℕ → Bool) → Option ℕ → (ℕ → Bool) → Type 0
Left P None Q = (k : ℕ) → Q k ≡ P k
Left P (Some b) Q = (k : ℕ) → Q k ≡ (P k && not (k == b))

-- the smallest number of a set, if there is one, and the set without it
pub record Next (P : ℕ → Bool) (first : Option ℕ) (Q : ℕ → Bool) : Type 0 where
  pub smallest : First P first
  pub rest : Left P first Q

-- whether a bit, if there is one, is of a word
abbrev pub Low : Option ℕ → Type 0
Low None = Unit {0}
Low (Some b) = b < 64

-- the lowest bit of a word that is set, if there is one, and the word without it
pub record NextBit (word : ℕ) (first : Option ℕ) (rest : ℕ) : Type 0 where
  pub next : Next (bit word) first (bit rest)
  pub low : Low first
