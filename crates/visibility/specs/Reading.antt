-- What the reading of a spelling answers.
use Rattle.std.specs.Prelude.{◌≡◌, ℕ, List, Ok, Err, Result}
use Rattle.visibility.specs.declared.terms.TermList.{TermList}
use Rattle.visibility.specs.declared.terms.Misspelled.{Misspelled}
use Rattle.visibility.specs.Spelling.{spell, LawfulTerms, Misspelt}
use Rattle.visibility.specs.Terms.{terms_of}

-- lawful terms that are spelled so; or there are none, and the place says from where on
abbrev pub SpellingAnswer : List ℕ → Result TermList Misspelled → Type 0
SpellingAnswer bytes (Ok t) = LawfulTerms (terms_of t) × (spell (terms_of t) ≡ bytes)
SpellingAnswer bytes (Err e) = Misspelt bytes e.place
