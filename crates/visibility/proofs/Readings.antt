-- What the reading of a spelling has shown, byte after byte.
use Rattle.std.proofs.Common.{◌≡◌, ℕ, ◌+◌, ◌<◌, List, [], ◌∷◌, ◌++◌, length, get_or, take, Some, None, Option, Ok, Err, IsOk, IsErr, Result, sym, refl, ap, subst, inl, inr, arith}
use lib.Seq.{take-length}
use Rattle.std.specs.Option.{ok_or}
use Rattle.std.proofs.lemmas.List.{take_more}
use Rattle.visibility.specs.declared.draft.Fatal.{Fatal as Refused}
use Rattle.visibility.specs.declared.terms.Letter.{Letter}
use Rattle.visibility.specs.Spelling.{code, LawfulTerms, Begins, Misspelt, spell}
use Rattle.visibility.specs.declared.terms.TermList.{TermList}
use Rattle.visibility.specs.Reading.{SpellingAnswer}
use Rattle.visibility.specs.Terms.{terms_of}
use Rattle.visibility.specs.Drafts.{Taken, Finished}
use Rattle.visibility.proofs.Spelled.{Drafted, Fatal, fatal_ends, draft_begins, draft_letter, draft_comma, early_end, whole_spelled}

-- the same draft by equal parts
same_draft : (x y : List ℕ) (done done' : List (List Letter)) (cur cur' : List Letter) → x ≡ y → done ≡ done' → cur ≡ cur' → Drafted x done cur → Drafted y done' cur'
same_draft x y done done' cur cur' e p q d = subst (λ l. Drafted l done' cur') e (subst (λ l. Drafted x l cur') p (subst (λ l. Drafted x done l) q d))

-- a byte that is taken goes on with the draft
pub taken_on : (bytes : List ℕ) (done done' : List (List Letter)) (cur cur' : List Letter) (b : ℕ) → Drafted bytes done cur → Taken done cur b (Ok tt) done' cur' → Drafted (bytes ++ b ∷ []) done' cur'
taken_on bytes done done' cur cur' b d (inl (l, e, t)) =
    same_draft (bytes ++ code l ∷ []) (bytes ++ b ∷ []) done done' (cur ++ l ∷ []) cur' (ap (λ x. bytes ++ x ∷ []) (sym e)) (sym t.1) (sym t.2) (draft_letter bytes done cur l d t.0)
taken_on bytes done done' cur cur' b d (inr (inl (e, t))) =
    same_draft (bytes ++ 44 ∷ []) (bytes ++ b ∷ []) (done ++ cur ∷ []) done' [] cur' (ap (λ x. bytes ++ x ∷ []) (sym e)) (sym t.2) (sym t.3) (draft_comma bytes done cur d t.0 t.1)
taken_on bytes done done' cur cur' b d (inr (inr t)) = cc

-- one that is not taken is fatal
pub refused_fatal : (done done' : List (List Letter)) (cur cur' : List Letter) (b : ℕ) (e : Refused) → Taken done cur b (Err e) done' cur' → Fatal done cur b
refused_fatal done done' cur cur' b r (inl (l, e, t)) = inl ((l, e), t.0)
refused_fatal done done' cur cur' b r (inr (inl (e, t))) = inr (inl (e, t.0))
refused_fatal done done' cur cur' b r (inr (inr t)) = inr (inr (λ byte. elim byte [
  | inl z ↦ t.1 z
  | inr y ↦ elim y [
    | inl z ↦ t.2 z
    | inr z ↦ t.3 z
  ]
]))

pub misspelt_at : (bytes : List ℕ) (place : ℕ) (done : List (List Letter)) (cur : List Letter) → place < length bytes → Drafted (take place bytes) done cur → Fatal done cur (get_or bytes place 0) → Misspelt bytes place
misspelt_at bytes place done cur h d f = record {
  within = omega arith;
  begins = draft_begins (take place bytes) done cur d;
  fatal = λ _. subst (λ l. ¬ Begins l) (sym (take_more bytes place 0 h)) (fatal_ends (take place bytes) done cur (get_or bytes place 0) d f);
  early = λ e. absurd (omega arith);
}

-- the byte at a place, taken or refused
module _ (bytes : List ℕ) (place : ℕ) (done done' : List (List Letter)) (cur cur' : List Letter) (inside : place < length bytes) (d : Drafted (take place bytes) done cur) where
  pub taken_at : (r : Result (Unit {0}) Refused) → IsOk r → Taken done cur (get_or bytes place 0) r done' cur' → Drafted (take (place + 1) bytes) done' cur'
  taken_at (Ok u) ok t = subst (λ l. Drafted l done' cur') (sym (take_more bytes place 0 inside)) (taken_on (take place bytes) done done' cur cur' (get_or bytes place 0) d t)
  taken_at (Err e) ok t = cc

  pub refused_at : (r : Result (Unit {0}) Refused) → IsErr r → Taken done cur (get_or bytes place 0) r done' cur' → Misspelt bytes place
  refused_at (Ok u) err t = cc
  refused_at (Err e) err t = misspelt_at bytes place done cur inside d (refused_fatal done done' cur cur' (get_or bytes place 0) e t)

-- what is finished is spelled by the bytes
pub finished_spelled : (bytes : List ℕ) (done : List (List Letter)) (cur : List Letter) (t : TermList) → Drafted bytes done cur → Finished done cur (Some t) → LawfulTerms (terms_of t) × (spell (terms_of t) ≡ bytes)
finished_spelled bytes done cur t d (inl (some, e)) = subst (λ ts. LawfulTerms ts × (spell ts ≡ bytes)) (sym e) (whole_spelled bytes done cur d some)
finished_spelled bytes done cur t d (inr (none, nothing, e)) =
    let z = same_draft bytes bytes done [] cur [] refl nothing none d in
    subst (λ ts. LawfulTerms ts × (spell ts ≡ bytes)) (sym e) (record { few = omega arith; each = tt }, sym z.is)

pub misspelt_end : (bytes : List ℕ) (done : List (List Letter)) (cur : List Letter) → Drafted bytes done cur → Finished done cur None → Misspelt bytes (length bytes)
misspelt_end bytes done cur d f = record {
  within = omega arith;
  begins = subst Begins (sym (take-length bytes)) (draft_begins bytes done cur d);
  fatal = λ h. absurd (omega arith);
  early = λ _. early_end bytes done (subst (Drafted bytes done) f.0 d) f.1;
}

-- what is answered where the bytes end
pub answered : (bytes : List ℕ) (done : List (List Letter)) (cur : List Letter) → Drafted bytes done cur → (o : Option TermList) → Finished done cur o
    → SpellingAnswer bytes (ok_or o (record { place = length bytes }))
answered bytes done cur d (Some t) f = finished_spelled bytes done cur t d f
answered bytes done cur d None f = misspelt_end bytes done cur d f
