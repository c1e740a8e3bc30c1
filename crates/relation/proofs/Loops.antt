-- One turn of each loop.
use Rattle.std.proofs.Common.{◌≡◌, ℕ, ◌+◌, ◌-◌, ◌<◌, Bool, true, false, not, ◌&&◌, ◌||◌, eqb, List, [], ◌∷◌, ◌++◌, length, get_or, take, reverse, sym, refl, ap, ◌∙◌, subst, ap₂, inl, inr, arith}
use Rattle.std.proofs.Math.Seq.{get_or-append_seam}
use Rattle.std.proofs.lemmas.List.{get_or_append_left, get_or-take, get_or-reverse, length-append, length-reverse, length-take-le}
use Rattle.std.proofs.lemmas.Bool.{cases_eq, both_ways, eq-eqb, ne_eqb, and_parts, or_cases, or_left, or_right, eqb-true, and_left, and_from, not_from_false}
use Rattle.arrayvec.specs.ArrayVec.{ArrayVec, with_items}
use Rattle.arrayvec.proofs.ArrayVecLemmas.{items-with_items}
use Rattle.rows.specs.Counts.{size}
use Rattle.rows.proofs.Sizes.{size_le, size_with, size_without}
use Rattle.relation.specs.Orders.{Arranged, Ordered, Ring}

-- ---- one more number in order

module _ (R : ℕ → ℕ → Bool) (M : ℕ → Bool) where
  module _ (left rest : ℕ → Bool) (xs : List ℕ) (k : ℕ) (v : Arranged R M left xs (length xs)) (here : left k ≡ true)
      (alone : (a : ℕ) → left a ≡ true → R a k ≡ false) (e : (j : ℕ) → rest j ≡ (left j && not (eqb j k))) where
    abbrev n : ℕ
    n = length xs

    abbrev ys : List ℕ
    ys = xs ++ k ∷ []

    old : (i : ℕ) → i < n → get_or ys i 0 ≡ get_or xs i 0
    old i h = get_or_append_left xs (k ∷ []) 0 i h

    new : get_or ys n 0 ≡ k
    new = get_or-append_seam xs k [] 0

    -- what holds at each place below n, and of k, holds at each place below n + 1
    each : (P : ℕ → ℕ → Type 0) → ((i : ℕ) → i < n → P i (get_or xs i 0)) → P n k → (i : ℕ) → i < n + 1 → P i (get_or ys i 0)
    each P below at i h =
        elim (cases_eq i n) [
          | inl z ↦ subst (λ (j : ℕ). P j (get_or ys j 0)) (sym z) (subst (λ (x : ℕ). P n x) (sym new) at)
          | inr z ↦ let l : i < n = omega arith in subst (λ (x : ℕ). P i x) (sym (old i l)) (below i l)
        ]

    rest_left : (j : ℕ) → rest j ≡ true → left j ≡ true
    rest_left j h = (and_parts (left j) (not (eqb j k)) (sym (e j) ∙ h)).0

    rest_not : rest k ≡ false
    rest_not = e k ∙ ap₂ (λ (x y : Bool). x && not y) here (eq-eqb k k refl)

    gone : (j : ℕ) → left j ≡ false → rest j ≡ false
    gone j h = e j ∙ and_left (left j) (not (eqb j k)) h

    long : length ys ≡ n + 1
    long = length-append xs (k ∷ [])

    pub arranged_more : Arranged R M rest ys (length ys)
    arranged_more = subst (Arranged R M rest ys) (sym long) (record {
      inside = each (λ i x. M x ≡ true) v.inside (v.some k here);
      away = each (λ i x. rest x ≡ false) (λ i h. gone (get_or xs i 0) (v.away i h)) rest_not;
      some = λ j h. v.some j (rest_left j h);
      every = λ j h. elim (v.every j h) [
        | inl p ↦ elim (cases_eq j k) [
          | inl z ↦ inr (n, omega arith, new ∙ sym z)
          | inr z ↦ inl (e j ∙ and_from (left j) (not (eqb j k)) p (not_from_false (eqb j k) (ne_eqb j k z)))
        ]
        | inr q ↦ inr (q.0, omega (arith, q.1), old q.0 q.1 ∙ q.2)
      ];
      once = λ i j h. each (λ i x. (j : ℕ) → j < n + 1 → x ≡ get_or ys j 0 → i ≡ j)
          (λ i h. each (λ j y. get_or xs i 0 ≡ y → i ≡ j) (λ j l. v.once i j h l)
          (λ (z : get_or xs i 0 ≡ k). absurd (both_ways (left k) (ap left (sym z) ∙ v.away i h) here)))
          (each (λ j y. k ≡ y → n ≡ j) (λ j l (z : k ≡ get_or xs j 0). absurd (both_ways (left k) (ap left z ∙ v.away j l) here)) (λ _. refl)) i h j;
      keeps = λ i j h. each (λ i x. (j : ℕ) → j < n + 1 → R x (get_or ys j 0) ≡ true → i < j)
          (λ i h. each (λ j y. R (get_or xs i 0) y ≡ true → i < j) (λ j l. v.keeps i j h l) (λ _. h))
          (each (λ j y. R k y ≡ true → n < j) (λ j l r. absurd (both_ways (R k (get_or xs j 0)) (v.ahead j k l here) r))
          (λ r. absurd (both_ways (R k k) (alone k here) r))) i h j;
      ahead = λ i j h l. each (λ _ x. (j : ℕ) → rest j ≡ true → R j x ≡ false) (λ i h j l. v.ahead i j h (rest_left j l)) (λ j l. alone j (rest_left j l)) i h j l;
    })

-- ---- one more step of the walk

-- xs are different numbers of M, those that are seen, each after one that it is related to; b is related to the last
pub record Walked (R : ℕ → ℕ → Bool) (M seen : ℕ → Bool) (xs : List ℕ) (b : ℕ) : Type 0 where
  pub inside : (i : ℕ) → i < length xs → M (get_or xs i 0) ≡ true
  pub marked : (i : ℕ) → i < length xs → seen (get_or xs i 0) ≡ true
  pub met : (k : ℕ) → seen k ≡ true → (i : ℕ) × (i < length xs) × (get_or xs i 0 ≡ k)
  pub once : (i j : ℕ) → i < length xs → j < length xs → get_or xs i 0 ≡ get_or xs j 0 → i ≡ j
  pub steps : (i : ℕ) → i + 1 < length xs → R (get_or xs (i + 1) 0) (get_or xs i 0) ≡ true
  pub here : M b ≡ true
  pub next : 0 < length xs → R b (get_or xs (length xs - 1) 0) ≡ true

module _ (R : ℕ → ℕ → Bool) (M : ℕ → Bool) where
  pub walked_none : (seen : ℕ → Bool) (b : ℕ) → ((k : ℕ) → seen k ≡ false) → M b ≡ true → Walked R M seen [] b
  walked_none seen b none here = record {
    inside = λ i h. absurd (omega arith);
    marked = λ i h. absurd (omega arith);
    met = λ k h. absurd (both_ways (seen k) (none k) h);
    once = λ i j h. absurd (omega arith);
    steps = λ i h. absurd (omega arith);
    here = here;
    next = λ h. absurd (omega arith);
  }

  module _ (seen more : ℕ → Bool) (xs : List ℕ) (b c : ℕ) (v : Walked R M seen xs b) (fresh : seen b ≡ false) (e : (j : ℕ) → more j ≡ (seen j || eqb j b))
      (here : M c ≡ true) (step : R c b ≡ true) where
    abbrev zs : List ℕ
    zs = xs ++ b ∷ []

    longer : length zs ≡ length xs + 1
    longer = length-append xs (b ∷ [])

    kept : (i : ℕ) → i < length xs → get_or zs i 0 ≡ get_or xs i 0
    kept i h = get_or_append_left xs (b ∷ []) 0 i h

    put : get_or zs (length xs) 0 ≡ b
    put = get_or-append_seam xs b [] 0

    all : (P : ℕ → ℕ → Type 0) → ((i : ℕ) → i < length xs → P i (get_or xs i 0)) → P (length xs) b → (i : ℕ) → i < length zs → P i (get_or zs i 0)
    all P below last i h =
        elim (cases_eq i (length xs)) [
          | inl z ↦ subst (λ (j : ℕ). P j (get_or zs j 0)) (sym z) (subst (λ (x : ℕ). P (length xs) x) (sym put) last)
          | inr z ↦ let l : i < length xs = omega (arith, longer) in subst (λ (x : ℕ). P i x) (sym (kept i l)) (below i l)
        ]

    pub walked_more : Walked R M more zs c
    walked_more = record {
      inside = all (λ i x. M x ≡ true) v.inside v.here;
      marked = all (λ i x. more x ≡ true) (λ i p. e (get_or xs i 0) ∙ or_left (seen (get_or xs i 0)) (eqb (get_or xs i 0) b) (v.marked i p)) (e b ∙ or_right (seen b) (eqb b b) (eq-eqb b b refl));
      met = λ j h. elim (or_cases (seen j) (eqb j b) (sym (e j) ∙ h)) [
        | inl p ↦ let m = v.met j p in (m.0, omega (arith, longer, m.1), kept m.0 m.1 ∙ m.2)
        | inr p ↦ (length xs, omega (arith, longer), put ∙ sym (eqb-true j b p))
      ];
      once = λ i j p. all (λ i x. (j : ℕ) → j < length zs → x ≡ get_or zs j 0 → i ≡ j)
          (λ i p. all (λ j y. get_or xs i 0 ≡ y → i ≡ j) (λ j q. v.once i j p q)
          (λ (z : get_or xs i 0 ≡ b). absurd (both_ways (seen b) fresh (ap seen (sym z) ∙ v.marked i p))))
          (all (λ j y. b ≡ y → length xs ≡ j) (λ j q (z : b ≡ get_or xs j 0). absurd (both_ways (seen b) fresh (ap seen z ∙ v.marked j q))) (λ _. refl)) i p j;
      steps = λ i p.
          let q : i < length xs = omega (arith, longer) in
          elim (cases_eq (i + 1) (length xs)) [
            | inl z ↦
                let x : get_or zs (i + 1) 0 ≡ b = ap (λ (j : ℕ). get_or zs j 0) z ∙ put in
                let y : i ≡ length xs - 1 = omega arith in
                ap₂ R x (kept i q ∙ ap (λ (j : ℕ). get_or xs j 0) y) ∙ v.next (omega arith)
            | inr z ↦ let r : i + 1 < length xs = omega arith in ap₂ R (kept (i + 1) r) (kept i q) ∙ v.steps i r
          ];
      here = here;
      next = λ h. ap (R c) (ap (λ (j : ℕ). get_or zs j 0) (omega (arith, longer)) ∙ put) ∙ step;
    }

  pub met_back : (seen : ℕ → Bool) (xs : List ℕ) (b : ℕ) → Walked R M seen xs b → seen b ≡ true → (i : ℕ) × (i < length (reverse xs)) × (get_or (reverse xs) i 0 ≡ b)
  met_back seen xs b v h =
      let m = v.met b h in
      let l = m.1 in
      let back : length xs - 1 - (length xs - 1 - m.0) ≡ m.0 = omega arith in
      (length xs - 1 - m.0, omega (arith, length-reverse xs), get_or-reverse xs (length xs - 1 - m.0) 0 (omega arith) ∙ ap (λ (j : ℕ). get_or xs j 0) back ∙ m.2)

  -- where b has been met, the way back from the last to b is a ring
  pub walked_ring : (seen : ℕ → Bool) (xs : List ℕ) (b end : ℕ) → Walked R M seen xs b → end < length xs → get_or (reverse xs) end 0 ≡ b
      → Ring R M (take (end + 1) (reverse xs)) 0 (length (take (end + 1) (reverse xs)))
  walked_ring seen xs b end v h e =
      let long : length (reverse xs) ≡ length xs = length-reverse xs in
      let count : length (take (end + 1) (reverse xs)) ≡ end + 1 = length-take-le (end + 1) (reverse xs) (omega arith) in
      let at : (i : ℕ) → i < end + 1 → get_or (take (end + 1) (reverse xs)) (0 + i) 0 ≡ get_or xs (length xs - 1 - i) 0 =
      λ i p. ap (λ (j : ℕ). get_or (take (end + 1) (reverse xs)) j 0) (omega arith) ∙ get_or-take (end + 1) (reverse xs) i 0 p ∙ get_or-reverse xs i 0 (omega arith) in
      let last : get_or (take (end + 1) (reverse xs)) (0 + (end + 1 - 1)) 0 ≡ b =
      ap (λ (j : ℕ). get_or (take (end + 1) (reverse xs)) j 0) (omega arith) ∙ get_or-take (end + 1) (reverse xs) end 0 (omega arith) ∙ e in
      subst (Ring R M (take (end + 1) (reverse xs)) 0) (sym count) (record {
        long = omega arith;
        inside = λ i p. ap M (at i p) ∙ v.inside (length xs - 1 - i) (omega arith);
        once = λ i j p q z.
            let s : length xs - 1 - i ≡ length xs - 1 - j = v.once (length xs - 1 - i) (length xs - 1 - j) (omega arith) (omega arith) (sym (at i p) ∙ z ∙ at j q) in
            omega arith;
        steps = λ i p.
            let s : length xs - 1 - i ≡ length xs - 1 - (i + 1) + 1 = omega arith in
            ap₂ R (at i (omega arith) ∙ ap (λ (j : ℕ). get_or xs j 0) s) (at (i + 1) p) ∙ v.steps (length xs - 1 - (i + 1)) (omega arith);
        closes = ap₂ R last (at 0 (omega arith) ∙ ap (λ (j : ℕ). get_or xs j 0) (omega arith)) ∙ v.next (omega arith);
      })

-- a path that is turned round through its slice
pub turned : (v : ArrayVec ℕ) (ws : List ℕ) → ws ≡ reverse v.items → (with_items v ws).items ≡ reverse v.items
turned v ws e = items-with_items v ws (ap length e ∙ length-reverse v.items) ∙ e

-- ---- room in the arrays

pub room : (left M : ℕ → Bool) (n k : ℕ) → size left 256 + n ≡ size M 256 → k < 256 → left k ≡ true → n < 256
room left M n k e l h =
    let d = size_without left (λ j. left j && not (eqb j k)) k 256 l h (λ j. refl) in
    let b = size_le M 256 in
    omega arith

pub space : (seen : ℕ → Bool) (b : ℕ) → b < 256 → seen b ≡ false → size seen 256 < 256
space seen b l h =
    let d = size_with seen (λ j. seen j || eqb j b) b 256 l h (λ j. refl) in
    let m = size_le (λ j. seen j || eqb j b) 256 in
    omega arith

-- ---- what is put at the front

-- the numbers of xs, one by one, at the front of ys
at_front : (xs ys : List ℕ) → take (length xs) ys ≡ xs → (i : ℕ) → i < length xs → get_or ys i 0 ≡ get_or xs i 0
at_front xs ys e i h = sym (get_or-take (length xs) ys i 0 h) ∙ ap (λ l. get_or l i 0) e

pub ring_put : (R : ℕ → ℕ → Bool) (M left : ℕ → Bool) (xs ys : List ℕ) → Ring R left xs 0 (length xs) → ((k : ℕ) → left k ≡ true → M k ≡ true)
    → take (length xs) ys ≡ xs → Ring R M ys 0 (length xs)
ring_put R M left xs ys v some e =
    let same : (i : ℕ) → i < length xs → get_or ys (0 + i) 0 ≡ get_or xs (0 + i) 0 = λ i h. at_front xs ys e (0 + i) (omega arith) in
    let l = v.long in
    record {
      long = v.long;
      inside = λ i h. ap M (same i h) ∙ some (get_or xs (0 + i) 0) (v.inside i h);
      once = λ i j h k z. v.once i j h k (sym (same i h) ∙ z ∙ same j k);
      steps = λ i h. ap₂ R (same i (omega arith)) (same (i + 1) h) ∙ v.steps i h;
      closes = ap₂ R (same (length xs - 1) (omega arith)) (same 0 (omega arith)) ∙ v.closes;
    }

-- where no number is left, all are in order
pub ordered_put : (R : ℕ → ℕ → Bool) (M left : ℕ → Bool) (xs ys : List ℕ) → Arranged R M left xs (length xs) → ((k : ℕ) → left k ≡ false)
    → take (length xs) ys ≡ xs → Ordered R M ys (length xs)
ordered_put R M left xs ys v none e =
    let same = at_front xs ys e in
    record {
      inside = λ i h. ap M (same i h) ∙ v.inside i h;
      every = λ k h. elim (v.every k h) [ inl p ↦ absurd (both_ways (left k) (none k) p) | inr q ↦ (q.0, q.1, same q.0 q.1 ∙ q.2) ];
      once = λ i j h k z. v.once i j h k (sym (same i h) ∙ z ∙ same j k);
      keeps = λ i j h k r. v.keeps i j h k (sym (ap₂ R (same i h) (same j k)) ∙ r);
    }
