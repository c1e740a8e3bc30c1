-- Why a byte is fatal to a spelling, or not.
use Rattle.std.proofs.Common.{◌≡◌, ℕ, ◌+◌, ◌<◌, ◌≤◌, ◌⊎◌, List, [], ◌∷◌, ◌++◌, length, sym, refl, ap, ◌∙◌, subst, inl, inr, append_assoc, append-nil, arith, length-append}
use Rattle.std.proofs.lemmas.List.{length_push}
use Rattle.visibility.specs.declared.terms.Letter.{Letter}
use Rattle.visibility.specs.declared.terms.Letter.TheVariants.{Station, Seen}
use Rattle.visibility.specs.Spelling.{code, codes, after, spell, Each, LawfulTerms, Begins}

-- finished terms, each with its comma
abbrev pub ahead : List (List Letter) → List ℕ
ahead [] = []
ahead (t ∷ ts) = codes t ++ 44 ∷ ahead ts

-- bytes that are some finished terms and the letters of one that is not
pub record Drafted (bytes : List ℕ) (done : List (List Letter)) (cur : List Letter) : Type 0 where
  pub is : bytes ≡ ahead done ++ codes cur
  pub each : Each done
  pub few : length done ≤ 7
  pub short : length cur ≤ 4

nothing : (x : ℕ) (xs : List ℕ) → [] ≡ x ∷ xs → ⊥
nothing x xs e = let z : ◌≡◌ {A = ℕ} 0 1 = cc in omega arith

letter_comma : (l : Letter) → code l ≡ 44 → ⊥
letter_comma Station e = omega arith
letter_comma Seen e = omega arith

same_letter : (l k : Letter) → code l ≡ code k → l ≡ k
same_letter Station Station e = refl
same_letter Station Seen e = absurd (omega arith)
same_letter Seen Station e = absurd (omega arith)
same_letter Seen Seen e = refl

after_letter : (us : List (List Letter)) (l : Letter) (xs : List ℕ) → code l ∷ xs ≡ after us → ⊥
after_letter [] l xs e = nothing (code l) xs (sym e)
after_letter (u ∷ us) l xs e = letter_comma l (let h : code l ≡ 44 = cc in h)

-- the first comma parts the first term
first_comma : (t u : List Letter) (us : List (List Letter)) (y : List ℕ) → codes t ++ 44 ∷ y ≡ codes u ++ after us → (t ≡ u) × (44 ∷ y ≡ after us)
first_comma [] [] us y e = (refl, e)
first_comma [] (k ∷ u) us y e = absurd (letter_comma k (let h : code k ≡ 44 = cc in h))
first_comma (l ∷ t) [] us y e = absurd (after_letter us l (codes t ++ 44 ∷ y) e)
first_comma (l ∷ t) (k ∷ u) us y e =
    let h : code l ≡ code k = cc in
    let r : codes t ++ 44 ∷ y ≡ codes u ++ after us = cc in
    let p = first_comma t u us y r in
    ((λ i. same_letter l k h i ∷ p.0 i), p.1)

-- some terms, and at least one
abbrev SomeTerms : List (List Letter) → Type 0
SomeTerms us = (u : List Letter) × (vs : List (List Letter)) × (us ≡ u ∷ vs)

peel_one : (t : List Letter) (ts : List (List Letter)) (y : List ℕ) → codes t ++ 44 ∷ y ≡ spell ts → (us : List (List Letter)) × (ts ≡ t ∷ us) × (y ≡ spell us) × SomeTerms us
peel_one t [] y e = absurd (go t e)
  where
    go : (t : List Letter) → codes t ++ 44 ∷ y ≡ [] → ⊥
    go [] e = nothing 44 y (sym e)
    go (l ∷ t) e = nothing (code l) (codes t ++ 44 ∷ y) (sym e)
peel_one t (u ∷ us) y e = go us (first_comma t u us y e)
  where
    go : (us : List (List Letter)) → (t ≡ u) × (44 ∷ y ≡ after us) → (vs : List (List Letter)) × (u ∷ us ≡ t ∷ vs) × (y ≡ spell vs) × SomeTerms vs
    go [] p = absurd (nothing 44 y (sym p.1))
    go (w ∷ ws) p = (w ∷ ws, ap (λ x. x ∷ w ∷ ws) (sym p.0), (let h : y ≡ codes w ++ after ws = cc p.1 in h), (w, ws, refl))

-- the finished terms are the first terms of whatever is spelled
peel : (done ts : List (List Letter)) (x : List ℕ) → ahead done ++ x ≡ spell ts → (us : List (List Letter)) × (ts ≡ done ++ us) × (x ≡ spell us)
peel [] ts x e = (ts, refl, e)
peel (t ∷ done) ts x e =
    let p = peel_one t ts (ahead done ++ x) (sym (append_assoc (codes t) (44 ∷ ahead done) x) ∙ e) in
    let q = peel done p.0 x p.2 in
    (q.0, p.1 ∙ ap (λ l. t ∷ l) q.1, q.2)

each_end : (done us : List (List Letter)) → Each (done ++ us) → Each us
each_end [] us e = e
each_end (t ∷ done) us e = each_end done us e.1

-- ── Fatal bytes ──

longer : (cur u : List Letter) (us : List (List Letter)) (l : Letter) (m : List ℕ) → codes cur ++ code l ∷ m ≡ codes u ++ after us → length cur < length u
longer [] [] us l m e = absurd (after_letter us l m e)
longer [] (k ∷ u) us l m e = omega arith
longer (j ∷ cur) [] us l m e = absurd (after_letter us j (codes cur ++ code l ∷ m) e)
longer (j ∷ cur) (k ∷ u) us l m e = let r : codes cur ++ code l ∷ m ≡ codes u ++ after us = cc in let h = longer cur u us l m r in omega arith

-- a fifth letter
fifth : (us : List (List Letter)) (cur : List Letter) (l : Letter) (m : List ℕ) → Each us → length cur ≡ 4 → codes cur ++ code l ∷ m ≡ spell us → ⊥
fifth [] [] l m each h e = omega arith
fifth [] (k ∷ cur) l m each h e = nothing (code k) (codes cur ++ code l ∷ m) (sym e)
fifth (u ∷ us) cur l m each h e = let g = longer cur u us l m e in omega (arith, each.0.1)

-- a comma where a term begins
empty_term : (us : List (List Letter)) (m : List ℕ) → Each us → 44 ∷ m ≡ spell us → ⊥
empty_term [] m each e = nothing 44 m (sym e)
empty_term ([] ∷ us) m each e = let h = each.0.0 in omega arith
empty_term ((l ∷ u) ∷ us) m each e = letter_comma l (let h : code l ≡ 44 = cc in h)

-- the bytes of a spelling
abbrev Byte : ℕ → Type 0
Byte x = (x ≡ 115) ⊎ ((x ≡ 118) ⊎ (x ≡ 44))

abbrev Bytes : List ℕ → Type 0
Bytes [] = Unit {0}
Bytes (x ∷ xs) = Byte x × Bytes xs

letter_byte : (l : Letter) → Byte (code l)
letter_byte Station = inl refl
letter_byte Seen = inr (inl refl)

bytes_codes : (t : List Letter) (xs : List ℕ) → Bytes xs → Bytes (codes t ++ xs)
bytes_codes [] xs b = b
bytes_codes (l ∷ t) xs b = (letter_byte l, bytes_codes t xs b)

bytes_after : (ts : List (List Letter)) → Bytes (after ts)
bytes_after [] = tt
bytes_after (t ∷ ts) = (inr (inr refl), bytes_codes t (after ts) (bytes_after ts))

bytes_spell : (ts : List (List Letter)) → Bytes (spell ts)
bytes_spell [] = tt
bytes_spell (t ∷ ts) = bytes_codes t (after ts) (bytes_after ts)

byte_in : (xs : List ℕ) (b : ℕ) (m : List ℕ) → Bytes (xs ++ b ∷ m) → Byte b
byte_in [] b m h = h.0
byte_in (x ∷ xs) b m h = byte_in xs b m h.1

-- a byte that no lawful spelling has after these
abbrev pub Fatal : List (List Letter) → List Letter → ℕ → Type 0
Fatal done cur b =
    (((l : Letter) × (b ≡ code l)) × (length cur ≡ 4))
    ⊎ (((b ≡ 44) × ((cur ≡ []) ⊎ (length done ≡ 7))) ⊎ (¬ Byte b))

pub fatal_ends : (bytes : List ℕ) (done : List (List Letter)) (cur : List Letter) (b : ℕ) → Drafted bytes done cur → Fatal done cur b → ¬ Begins (bytes ++ b ∷ [])
fatal_ends bytes done cur b d f g = go f
  where
    whole : ahead done ++ (codes cur ++ b ∷ g.more) ≡ spell g.terms
    whole =
        sym (append_assoc (ahead done) (codes cur) (b ∷ g.more)) ∙ ap (λ l. l ++ b ∷ g.more) (sym d.is)
        ∙ sym (append_assoc bytes (b ∷ []) g.more) ∙ sym g.spelled

    p : (us : List (List Letter)) × (g.terms ≡ done ++ us) × (codes cur ++ b ∷ g.more ≡ spell us)
    p = peel done g.terms (codes cur ++ b ∷ g.more) whole

    each : Each p.0
    each = each_end done p.0 (subst Each p.1 g.lawful.each)

    few : length done + length p.0 ≤ 8
    few = omega (arith, g.lawful.few, ap length p.1, length-append done p.0)

    go : Fatal done cur b → ⊥
    go (inl ((l, e), four)) = fifth p.0 cur l g.more each four (subst (λ x. codes cur ++ x ∷ g.more ≡ spell p.0) e p.2)
    go (inr (inl (comma, inl none))) =
        empty_term p.0 g.more each (subst (λ x. codes [] ++ x ∷ g.more ≡ spell p.0) comma (subst (λ c. codes c ++ b ∷ g.more ≡ spell p.0) none p.2))
    go (inr (inl (comma, inr seven))) =
        let q = peel_one cur p.0 g.more (subst (λ x. codes cur ++ x ∷ g.more ≡ spell p.0) comma p.2) in
        let s = q.3 in
        omega (arith, few, ap length q.1, ap length s.2)
    go (inr (inr other)) = other (byte_in (codes cur) b g.more (subst Bytes (sym p.2) (bytes_spell p.0)))

-- ── What is not fatal ──

ahead_push : (done : List (List Letter)) (cur : List Letter) → ahead (done ++ cur ∷ []) ≡ ahead done ++ codes cur ++ 44 ∷ []
ahead_push [] cur = refl
ahead_push (t ∷ done) cur =
    ap (λ l. codes t ++ 44 ∷ l) (ahead_push done cur ∙ append_assoc (ahead done) (codes cur) (44 ∷ []))
    ∙ sym (append_assoc (codes t) (44 ∷ ahead done) (codes cur ++ 44 ∷ [])) ∙ sym (append_assoc (codes t ++ 44 ∷ ahead done) (codes cur) (44 ∷ []))

spell_push : (done : List (List Letter)) (cur : List Letter) → spell (done ++ cur ∷ []) ≡ ahead done ++ codes cur
spell_push [] cur = append-nil (codes cur)
spell_push (t ∷ []) cur = ap (λ l. codes t ++ 44 ∷ l) (append-nil (codes cur)) ∙ sym (append_assoc (codes t) (44 ∷ []) (codes cur))
spell_push (t ∷ u ∷ done) cur = ap (λ l. codes t ++ 44 ∷ l) (spell_push (u ∷ done) cur) ∙ sym (append_assoc (codes t) (44 ∷ ahead (u ∷ done)) (codes cur))

each_push : (done : List (List Letter)) (cur : List Letter) → Each done → 1 ≤ length cur → length cur ≤ 4 → Each (done ++ cur ∷ [])
each_push [] cur e p q = ((p, q), tt)
each_push (t ∷ done) cur e p q = (e.0, each_push done cur e.1 p q)

codes_push : (cur : List Letter) (l : Letter) → codes (cur ++ l ∷ []) ≡ codes cur ++ code l ∷ []
codes_push [] l = refl
codes_push (k ∷ cur) l = ap (λ x. code k ∷ x) (codes_push cur l)

-- a draft with letters is a spelling
pub whole_spelled : (bytes : List ℕ) (done : List (List Letter)) (cur : List Letter) → Drafted bytes done cur → 1 ≤ length cur → LawfulTerms (done ++ cur ∷ []) × (spell (done ++ cur ∷ []) ≡ bytes)
whole_spelled bytes done cur d some =
    (record { few = omega (arith, d.few, length_push done cur); each = each_push done cur d.each some d.short }, spell_push done cur ∙ sym d.is)

-- a draft begins one
pub draft_begins : (bytes : List ℕ) (done : List (List Letter)) (cur : List Letter) → Drafted bytes done cur → Begins bytes
draft_begins bytes done [] d =
    record {
      terms = done ++ (Station ∷ []) ∷ [];
      lawful = record { few = omega (arith, d.few, length_push done (Station ∷ [])); each = each_push done (Station ∷ []) d.each (omega arith) (omega arith) };
      more = 115 ∷ [];
      spelled = spell_push done (Station ∷ []) ∙ ap (λ l. l ++ 115 ∷ []) (sym (append-nil (ahead done)) ∙ sym d.is);
    }
draft_begins bytes done (l ∷ cur) d =
    let w = whole_spelled bytes done (l ∷ cur) d (omega arith) in
    record { terms = done ++ (l ∷ cur) ∷ []; lawful = w.0; more = []; spelled = w.1 ∙ sym (append-nil bytes) }

pub draft_letter : (bytes : List ℕ) (done : List (List Letter)) (cur : List Letter) (l : Letter) → Drafted bytes done cur → length cur < 4 → Drafted (bytes ++ code l ∷ []) done (cur ++ l ∷ [])
draft_letter bytes done cur l d h = record {
  is = ap (λ x. x ++ code l ∷ []) d.is ∙ append_assoc (ahead done) (codes cur) (code l ∷ []) ∙ ap (λ x. ahead done ++ x) (sym (codes_push cur l));
  each = d.each;
  few = d.few;
  short = omega (arith, length_push cur l);
}

pub draft_comma : (bytes : List ℕ) (done : List (List Letter)) (cur : List Letter) → Drafted bytes done cur → 1 ≤ length cur → length done < 7 → Drafted (bytes ++ 44 ∷ []) (done ++ cur ∷ []) []
draft_comma bytes done cur d some h = record {
  is = ap (λ x. x ++ 44 ∷ []) d.is ∙ sym (ahead_push done cur) ∙ sym (append-nil (ahead (done ++ cur ∷ [])));
  each = each_push done cur d.each some d.short;
  few = omega (arith, length_push done cur);
  short = omega arith;
}

-- no terms are spelled by nothing
spell_nothing : (us : List (List Letter)) → [] ≡ spell us → SomeTerms us → Each us → ⊥
spell_nothing [] h s each = let z = ap length s.2 in omega arith
spell_nothing ([] ∷ us) h s each = let z = each.0.0 in omega arith
spell_nothing ((l ∷ u) ∷ us) h s each = nothing (code l) (codes u ++ after us) h

ends_early : (done us : List (List Letter)) → ahead done ≡ spell us → SomeTerms us → Each us → ⊥
ends_early [] us h s each = spell_nothing us h s each
ends_early (w ∷ done) us h s each = let q = peel_one w us (ahead done) h in ends_early done q.0 q.2 q.3 (subst Each q.1 each).1

-- an end after a comma is too early
pub early_end : (bytes : List ℕ) (done : List (List Letter)) → Drafted bytes done [] → 1 ≤ length done → (ts : List (List Letter)) → LawfulTerms ts → ¬ (spell ts ≡ bytes)
early_end bytes [] d some ts lawful e = omega arith
early_end bytes (t ∷ done) d some ts lawful e =
    let p = peel_one t ts (ahead done) (sym (append-nil (codes t ++ 44 ∷ ahead done)) ∙ sym d.is ∙ sym e) in
    ends_early done p.0 p.2 p.3 (subst Each p.1 lawful.each).1
