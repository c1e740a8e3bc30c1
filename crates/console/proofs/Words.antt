-- The words of a text that nothing asked for: a text has a next word or none, and what is left after it is a text.
use Rattle.std.proofs.Common.{◌≡◌, ℕ, zero, suc, ◌<◌, List, [], ◌∷◌, ◌++◌, length, refl, sym, subst, ap, ◌∙◌, arith, append_assoc, append-nil, Bool, true, false, None, Some, length-append}
use Rattle.std.proofs.Math.Utf8.{scalars, encodes, encode}
use Rattle.std.proofs.lemmas.Bool.{and_parts}
use Rattle.std.proofs.lemmas.Str.{encode_same, encodes-append, length-encode, len_utf8_bounds, length-le-encodes}
use Rattle.std.specs.Char.{is_whitespace, is_not_whitespace}
use Rattle.std.specs.Prelude.{⊤, not}
use Rattle.std.specs.Str.{IsUtf8, NonePass, EmptyOrStartsWithPassing}
use Rattle.std.specs.Str.Iter.{split_whitespace_rest}
use Rattle.std.specs.declared.str.SplitWhitespace.{SplitWhitespace}
use Rattle.console.specs.Line.{Words, FirstWords, NextWord}

-- a list whose first character passes, where it has one
abbrev Begins : (ℕ → Bool) → List ℕ → Type 0
Begins p [] = ⊤
Begins p (c ∷ cs) = p c ≡ true

-- a list cut before the first character that passes
abbrev Parts : (ℕ → Bool) → List ℕ → Type 0
Parts p cs = (a : List ℕ) × (b : List ℕ) × (cs ≡ a ++ b) × NonePass p a × Begins p b

cut_at : (p : ℕ → Bool) (c : ℕ) (cs : List ℕ) (b : Bool) → p c ≡ b → Parts p cs → Parts p (c ∷ cs)
cut_at p c cs true e parts = ([], c ∷ cs, refl, tt, e)
cut_at p c cs false e (a, b, both, none, begins) = (c ∷ a, b, ap (λ l. c ∷ l) both, (e, none), begins)

cut : (p : ℕ → Bool) (cs : List ℕ) → Parts p cs
cut p [] = ([], [], refl, tt, tt)
cut p (c ∷ cs) = cut_at p c cs (p c) refl (cut p cs)

scalars_after : (a b : List ℕ) → scalars (a ++ b) ≡ true → scalars b ≡ true
scalars_after [] b valid = valid
scalars_after (c ∷ a) b valid = scalars_after a b (and_parts _ _ valid).1

not_true : (b : Bool) → not b ≡ true → b ≡ false
not_true true e = cc
not_true false e = refl

-- the empty text has no byte
nothing_there : {P : Type 0} → 0 < length (encodes []) → P
nothing_there {P} some =
    let no : ⊥ = omega (arith, some) in
    elim no [ ]

begun : (p : ℕ → Bool) (b : List ℕ) → Begins p b → scalars b ≡ true → (more : List ℕ) × EmptyOrStartsWithPassing p (encodes b) more
begun p [] begins valid = ([], λ some. nothing_there some)
begun p (c ∷ cs) begins valid = (encodes cs, λ some. (c, begins, refl, (and_parts _ _ valid).0))

abbrev NextText : SplitWhitespace → Type 0
NextText s = (text : List ℕ) × (t : SplitWhitespace) × NextWord s text t × IsUtf8 (split_whitespace_rest t)

from_parts : (s : SplitWhitespace) (cs : List ℕ) → scalars cs ≡ true → encodes cs ≡ split_whitespace_rest s → Parts is_not_whitespace cs → NextText s
from_parts s cs valid spell (gap, [], both, none, begins) =
    ([], s, (None, (refl, (gap, ap encodes (sym (both ∙ append-nil gap)) ∙ spell, none)), refl), (cs, (valid, spell)))
from_parts s cs valid spell (gap, c ∷ more, both, none, begins) =
    let (a, b, parts, visible, ends) = cut is_whitespace more in
    let whole : cs ≡ gap ++ ((c ∷ a) ++ b) = both ∙ ap (λ l. gap ++ (c ∷ l)) parts in
    let left : scalars b ≡ true = scalars_after (c ∷ a) b (scalars_after gap ((c ∷ a) ++ b) (subst (λ l. scalars l ≡ true) whole valid)) in
    let t : SplitWhitespace = record { rest = record { ref_ptr = (0, 0); now = encodes b } } in
    let spelled : split_whitespace_rest s ≡ encodes gap ++ (encodes (c ∷ a) ++ encodes b) =
    sym spell ∙ ap encodes whole ∙ encodes-append gap ((c ∷ a) ++ b) ∙ ap (λ l. encodes gap ++ l) (encodes-append (c ∷ a) b) in
    let some : 0 < length (encodes (c ∷ a)) = omega (arith, length-le-encodes (c ∷ a)) in
    (encodes (c ∷ a), t, (Some (record { ref_ptr = (0, 0); now = encodes (c ∷ a) }), (encodes gap, spelled, some, (gap, refl, none), (c ∷ a, refl, (not_true _ begins, visible)), begun is_whitespace b ends left), refl), (b, (left, refl)))

next_text : (s : SplitWhitespace) → IsUtf8 (split_whitespace_rest s) → NextText s
next_text s (cs, (valid, spell)) = from_parts s cs valid spell (cut is_not_whitespace cs)

-- whatever was asked for so far, n further words are there, empty past the end
pub more_words : (n : ℕ) (s : SplitWhitespace) → IsUtf8 (split_whitespace_rest s) → (words : Words) × (length words ≡ n) × FirstWords s words
more_words zero s valid = ([], refl, tt)
more_words (suc n) s valid =
    let (text, t, next, left) = next_text s valid in
    let (words, long, first) = more_words n t left in
    (record { ref_ptr = (0, 0); now = text } ∷ words, ap suc long, (t, next, first))

after_chars : (gs cs rest : List ℕ) → scalars cs ≡ true → encodes cs ≡ encodes gs ++ rest → IsUtf8 rest
after_chars [] cs rest valid e = (cs, (valid, e))
after_chars (g ∷ gs) [] rest valid e =
    let no : ⊥ = omega (arith, ap length e, length-append (encode g ++ encodes gs) rest, length-append (encode g) (encodes gs), length-encode g, len_utf8_bounds g) in
    elim no [ ]
after_chars (g ∷ gs) (c ∷ cs) rest valid e = after_chars gs cs rest (and_parts _ _ valid).1 (encode_same c g (encodes cs) (encodes gs ++ rest) (e ∙ append_assoc (encode g) (encodes gs) rest)).1

-- what is left of a text after a word is a text
pub left_utf8 : (s t : SplitWhitespace) (text : List ℕ) → NextWord s text t → IsUtf8 (split_whitespace_rest s) → IsUtf8 (split_whitespace_rest t)
left_utf8 s t text (None, (same, none), is) valid = subst (λ r. IsUtf8 (split_whitespace_rest r)) (sym same) valid
left_utf8 s t text (Some x, (gap, whole, some, (gs, spell_gap, none), (xs, spell_word, visible), ends), is) (cs, (valid, spell)) =
    let (ds, (left, rest)) = after_chars gs cs (x.now ++ split_whitespace_rest t) valid (spell ∙ whole ∙ ap (λ l. l ++ (x.now ++ split_whitespace_rest t)) (sym spell_gap)) in
    after_chars xs ds (split_whitespace_rest t) left (rest ∙ ap (λ l. l ++ split_whitespace_rest t) (sym spell_word))
