-- What the words of a line say, by what was read of them.
use Rattle.std.proofs.Common.{◌≡◌, ℕ, List, [], ◌∷◌, refl, sym, subst, ap, ◌∙◌, None, Some, Option, Ok, Err, Result, Bor, inl, inr, codes, rules}
use Rattle.std.specs.Prelude.{◌≢◌}
use Rattle.std.specs.Result.{OkIff, IsErr}
use Rattle.console.specs.Line.{Words, word, WordsAnswer, IsBlank, IsStart, IsOperation, AreNumbers, IsNumber, number_of, IsOther}
use Rattle.console.specs.declared.line.Unreadable.{Unreadable}
use Rattle.words.specs.declared.calls.Call.{Call}
use Rattle.words.specs.declared.calls.Call.TheVariants.{Start, Write, Read}

abbrev pub at_word : List ℕ → Bor (List ℕ)
at_word text = record { ref_ptr = (0, 0); now = text }

abbrev pub Outcome : Type 0
Outcome = Result (Option Call) Unreadable

pub nothing : (words : Words) → IsBlank words → WordsAnswer words (Ok None)
nothing words blank = record { blank = λ _. refl; start = λ n _. elim (n blank) [ ]; write = λ n _. elim (n blank) [ ]; read = λ n _. elim (n blank) [ ]; others = λ _. inl blank }

-- what holds of each error holds of a result that is one
pub failing : (words : Words) (r : Outcome) → IsErr r → ((e : Unreadable) → WordsAnswer words (Err e)) → WordsAnswer words r
failing words (Ok x) failed answers = cc
failing words (Err e) failed answers = answers e

-- a line that is refused, whatever its first word
refused : (words : Words) (e : Unreadable) → ¬ IsBlank words → (IsStart words → ¬ IsNumber (word words 1)) → (IsOperation (codes "w") words → ¬ AreNumbers words)
    → (IsOperation (codes "r") words → ¬ AreNumbers words) → WordsAnswer words (Err e)
refused words e some start write read = record { blank = λ b. elim (some b) [ ]; start = λ _. start; write = λ _. write; read = λ _. read; others = λ ok. cc }

-- a line that begins with another word than `stations`
other_some : (first : List ℕ) (words : Words) → IsOther first → ¬ IsBlank (at_word first ∷ words)
other_some first words (some, comment, start) (inl none) = some none
other_some first words (some, comment, start) (inr begins) = comment begins

other_refused : (first : List ℕ) (words : Words) (e : Unreadable) → IsOther first → (IsOperation (codes "w") (at_word first ∷ words) → ¬ AreNumbers (at_word first ∷ words))
    → (IsOperation (codes "r") (at_word first ∷ words) → ¬ AreNumbers (at_word first ∷ words)) → WordsAnswer (at_word first ∷ words) (Err e)
other_refused first words e other write read = refused (at_word first ∷ words) e (other_some first words other) (λ s. elim (other.2 s.0) [ ]) write read

pub unreadable_first : (first : List ℕ) (words : Words) (e : Unreadable) → IsOther first → ¬ IsNumber first → WordsAnswer (at_word first ∷ words) (Err e)
unreadable_first first words e other bad = other_refused first words e other (λ _ a. bad a.0) (λ _ a. bad a.0)

pub unknown_kind : (first kind : List ℕ) (words : Words) (e : Unreadable) → IsOther first → kind ≢ codes "w" → kind ≢ codes "r" → WordsAnswer (at_word first ∷ at_word kind ∷ words) (Err e)
unknown_kind first kind words e other w r = other_refused first (at_word kind ∷ words) e other (λ o. elim (w o.0) [ ]) (λ o. elim (r o.0) [ ])

pub unreadable_register : (first kind register : List ℕ) (words : Words) (e : Unreadable) → IsOther first → ¬ IsNumber register
    → WordsAnswer (at_word first ∷ at_word kind ∷ at_word register ∷ words) (Err e)
unreadable_register first kind register words e other bad = other_refused first (at_word kind ∷ at_word register ∷ words) e other (λ _ a. bad a.1) (λ _ a. bad a.1)

pub unreadable_value : (first kind register value : List ℕ) (words : Words) (e : Unreadable) → IsOther first → ¬ IsNumber value
    → WordsAnswer (at_word first ∷ at_word kind ∷ at_word register ∷ at_word value ∷ words) (Err e)
unreadable_value first kind register value words e other bad = other_refused first (at_word kind ∷ at_word register ∷ at_word value ∷ words) e other (λ _ a. bad a.2) (λ _ a. bad a.2)

w_is_not_r : ¬ (codes "w" ≡ codes "r")
w_is_not_r = search rules

pub wrote : (first kind register value last : List ℕ) (s g v : ℕ) (r : Outcome) → IsOther first → kind ≡ codes "w" → IsNumber first → IsNumber register → IsNumber value
    → s ≡ number_of first → g ≡ number_of register → v ≡ number_of value → OkIff r (last ≡ []) (Some (Write s g v))
    → WordsAnswer (at_word first ∷ at_word kind ∷ at_word register ∷ at_word value ∷ at_word last ∷ []) r
wrote first kind register value last s g v (Err e) other is a b c p q t some =
    other_refused first (at_word kind ∷ at_word register ∷ at_word value ∷ at_word last ∷ []) e other (λ o. elim (some o.1) [ ]) (λ o. elim (some o.1) [ ])
wrote first kind register value last s g v (Ok x) other is a b c p q t (none, says) = record {
  blank = λ b. elim (other_some first (at_word kind ∷ at_word register ∷ at_word value ∷ at_word last ∷ []) other b) [ ];
  start = λ _ s. elim (other.2 s.0) [ ];
  write = λ _ _. ((a, b, c), cc);
  read = λ _ o. elim (w_is_not_r (sym is ∙ o.0)) [ ];
  others = λ _. inr (inr (inl (is, none)));
}

pub read : (first kind register value last : List ℕ) (s g v : ℕ) (r : Outcome) → IsOther first → kind ≡ codes "r" → IsNumber first → IsNumber register → IsNumber value
    → s ≡ number_of first → g ≡ number_of register → v ≡ number_of value → OkIff r (last ≡ []) (Some (Read s g v))
    → WordsAnswer (at_word first ∷ at_word kind ∷ at_word register ∷ at_word value ∷ at_word last ∷ []) r
read first kind register value last s g v (Err e) other is a b c p q t some =
    other_refused first (at_word kind ∷ at_word register ∷ at_word value ∷ at_word last ∷ []) e other (λ o. elim (some o.1) [ ]) (λ o. elim (some o.1) [ ])
read first kind register value last s g v (Ok x) other is a b c p q t (none, says) = record {
  blank = λ b. elim (other_some first (at_word kind ∷ at_word register ∷ at_word value ∷ at_word last ∷ []) other b) [ ];
  start = λ _ s. elim (other.2 s.0) [ ];
  write = λ _ o. elim (w_is_not_r (sym o.0 ∙ is)) [ ];
  read = λ _ _. ((a, b, c), cc);
  others = λ _. inr (inr (inr (is, none)));
}

-- a line that begins with `stations`
start_some : (words : Words) → ¬ IsBlank (at_word (codes "stations") ∷ words)
start_some words = search rules

no_number : ¬ IsNumber (codes "stations")
no_number = search rules

no_number_w : ¬ IsNumber (codes "w")
no_number_w = search rules

no_number_r : ¬ IsNumber (codes "r")
no_number_r = search rules

start_refused : (words : Words) (e : Unreadable) → (word words 1 ≡ [] → ¬ IsNumber (word words 0)) → WordsAnswer (at_word (codes "stations") ∷ words) (Err e)
start_refused words e start = refused (at_word (codes "stations") ∷ words) e (start_some words) (λ s. start s.1) (λ _ a. no_number a.0) (λ _ a. no_number a.0)

pub unreadable_stations : (stations : List ℕ) (words : Words) (e : Unreadable) → ¬ IsNumber stations → WordsAnswer (at_word (codes "stations") ∷ at_word stations ∷ words) (Err e)
unreadable_stations stations words e bad = start_refused (at_word stations ∷ words) e (λ _. bad)

pub started : (stations last : List ℕ) (words : Words) (n : ℕ) (r : Outcome) → IsNumber stations → n ≡ number_of stations → OkIff r (last ≡ []) (Some (Start n))
    → WordsAnswer (at_word (codes "stations") ∷ at_word stations ∷ at_word last ∷ words) r
started stations last words n (Err e) number same some = start_refused (at_word stations ∷ at_word last ∷ words) e (λ none. elim (some none) [ ])
started stations last words n (Ok x) number same (none, says) = record {
  blank = λ b. elim (start_some (at_word stations ∷ at_word last ∷ words) b) [ ];
  start = λ _ _. (number, says ∙ ap (λ k. Some (Start k)) same);
  write = λ _ o. elim (no_number_w (subst IsNumber o.0 number)) [ ];
  read = λ _ o. elim (no_number_r (subst IsNumber o.0 number)) [ ];
  others = λ _. inr (inl (refl, none));
}
