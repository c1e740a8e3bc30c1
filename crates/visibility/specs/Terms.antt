-- Term lists, and what they demand.
use Rattle.std.specs.Prelude.{◌≡◌, ℕ, ◌<◌, true, List, [], ◌∷◌, map, length, slice_index_or}
use Rattle.visibility.specs.declared.outline.Shape.{Shape}
use Rattle.visibility.specs.declared.terms.Letter.{Letter}
use Rattle.visibility.specs.declared.terms.Letter.TheVariants.{Station, Seen}
use Rattle.visibility.specs.declared.terms.TermList.{TermList}
use Rattle.visibility.specs.Few.{items_of}
use Rattle.visibility.specs.Growth.{Rel}
use Rattle.visibility.specs.Shapes.{before}

-- the terms of a term list
abbrev pub terms_of : TermList → List (List Letter)
terms_of t = map (λ term. items_of term) (items_of t.terms)

-- term i of a term list
abbrev pub term_of : TermList → ℕ → List Letter
term_of t i = slice_index_or (terms_of t) i []

-- one step by a letter
abbrev pub Step : List Shape → Rel → Letter → ℕ → ℕ → Type 0
Step f v Station a b = before f a b ≡ true
Step f v Seen a b = v a b ≡ true

-- a and b are joined by the steps of a term
abbrev pub Walk : List Shape → Rel → List Letter → ℕ → ℕ → Type 0
Walk f v [] a b = a ≡ b
Walk f v (l ∷ ls) a b = (c : ℕ) × Step f v l a c × Walk f v ls c b

-- a term list demands each pair that is joined by the steps of one term
abbrev pub TermDemand : TermList → List Shape → Rel → ℕ → ℕ → Type 0
TermDemand t f v a b = (i : ℕ) × (i < length (terms_of t)) × Walk f v (term_of t i) a b
