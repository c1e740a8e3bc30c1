-- What a draft of a term list takes.
use Rattle.std.specs.Prelude.{◌≡◌, ℕ, ◌<◌, ◌≤◌, ◌⊎◌, List, [], ◌∷◌, ◌++◌, map, length, Some, None, Ok, Err, Option, Result, ◌≢◌}
use Rattle.visibility.specs.declared.draft.Draft.{Draft}
use Rattle.visibility.specs.declared.draft.Fatal.{Fatal}
use Rattle.visibility.specs.declared.terms.Letter.{Letter}
use Rattle.visibility.specs.declared.terms.TermList.{TermList}
use Rattle.visibility.specs.Few.{items_of}
use Rattle.visibility.specs.Spelling.{code}
use Rattle.visibility.specs.Terms.{terms_of}

-- the finished terms, and the letters of the one that is not
abbrev pub done_of : Draft → List (List Letter)
done_of d = map (λ term. items_of term) (items_of d.done)

abbrev pub current_of : Draft → List Letter
current_of d = items_of d.current

-- one letter more, or a fifth
abbrev pub Lettered : List (List Letter) → List Letter → Letter → Result (Unit {0}) Fatal → List (List Letter) → List Letter → Type 0
Lettered done cur l (Ok u) done' cur' = (length cur < 4) × (done' ≡ done) × (cur' ≡ cur ++ l ∷ [])
Lettered done cur l (Err e) done' cur' = (length cur ≡ 4) × (done' ≡ done) × (cur' ≡ cur)

-- one term more; or there is no letter, or it would be the eighth
abbrev pub Parted : List (List Letter) → List Letter → Result (Unit {0}) Fatal → List (List Letter) → List Letter → Type 0
Parted done cur (Ok u) done' cur' = (1 ≤ length cur) × (length done < 7) × (done' ≡ done ++ cur ∷ []) × (cur' ≡ [])
Parted done cur (Err e) done' cur' = ((cur ≡ []) ⊎ (length done ≡ 7)) × (done' ≡ done) × (cur' ≡ cur)

-- a letter, a comma, or neither
abbrev pub Taken : List (List Letter) → List Letter → ℕ → Result (Unit {0}) Fatal → List (List Letter) → List Letter → Type 0
Taken done cur b r done' cur' =
    ((l : Letter) × (b ≡ code l) × Lettered done cur l r done' cur')
    ⊎ (((b ≡ 44) × Parted done cur r done' cur')
    ⊎ ((r ≡ Err (record {})) × (b ≢ 115) × (b ≢ 118) × (b ≢ 44)))

-- all terms, of which the last has a letter; or no terms of no letters; or the last waits for one
abbrev pub Finished : List (List Letter) → List Letter → Option TermList → Type 0
Finished done cur (Some t) = ((1 ≤ length cur) × (terms_of t ≡ done ++ cur ∷ [])) ⊎ ((cur ≡ []) × (done ≡ []) × (terms_of t ≡ []))
Finished done cur None = (cur ≡ []) × (1 ≤ length done)
