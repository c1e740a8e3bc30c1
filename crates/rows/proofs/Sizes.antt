-- How many numbers below n a test passes.
use Rattle.std.proofs.Common.{◌≡◌, ℕ, zero, suc, ◌+◌, ◌*◌, ◌/◌, ◌%◌, ◌^◌, ◌<◌, ◌≤◌, Bool, true, false, not, ◌&&◌, ◌||◌, eqb, Some, None, Option, OnSome, rules, List, [], ◌∷◌, length, get_or, sym, refl, ap, ◌∙◌, ap₂, inl, inr, add-zero, add-suc, pow-suc, one-add, arith}
use lib.Count.{ones, ones_step}
use Rattle.std.specs.List.{sum_by}
use Rattle.rows.specs.Members.{bit, has}
use Rattle.rows.proofs.Bit.{bit_first, bit_next}
use Rattle.rows.proofs.Rows.{has_at}
use Rattle.rows.specs.Counts.{one_if, size}
use Rattle.rows.specs.Steps.{Next}
use Rattle.std.proofs.lemmas.Bool.{cases_eq, both_ways, eq-eqb, ne_eqb}

one_if_le : (b : Bool) → one_if b ≤ 1
one_if_le true = omega arith
one_if_le false = omega arith

pub size_le : (P : ℕ → Bool) (n : ℕ) → size P n ≤ n
unfolding size
size_le P zero = omega arith
size_le P (suc n) = omega (arith, size_le P n, one_if_le (P n))

pub size_same : (P Q : ℕ → Bool) (n : ℕ) → ((k : ℕ) → k < n → P k ≡ Q k) → size P n ≡ size Q n
unfolding size
size_same P Q zero e = refl
size_same P Q (suc n) e = ap₂ (λ (x : Bool) (y : ℕ). one_if x + y) (e n (omega arith)) (size_same P Q n (λ k h. e k (omega arith)))

-- one number less
pub size_without : (P Q : ℕ → Bool) (b n : ℕ) → b < n → P b ≡ true → ((k : ℕ) → Q k ≡ (P k && not (eqb k b))) → size Q n + 1 ≡ size P n
unfolding size
size_without P Q b zero h p e = absurd (omega arith)
size_without P Q b (suc n) h p e =
    elim (cases_eq n b) [
      | inl r ↦
          let gone : Q n ≡ false = e n ∙ ap₂ (λ (x y : Bool). x && not y) (ap P r ∙ p) (eq-eqb n b r) in
          let there : P n ≡ true = ap P r ∙ p in
          let rest : size Q n ≡ size P n =
          size_same Q P n (λ k l. e k ∙ ap (λ (y : Bool). P k && not y) (ne_eqb k b (λ (z : k ≡ b). omega arith)) ∙ and_true (P k)) in
          let x : one_if (Q n) ≡ 0 = ap one_if gone in
          let y : one_if (P n) ≡ 1 = ap one_if there in
          omega arith
      | inr r ↦
          let same : Q n ≡ P n = e n ∙ ap (λ (y : Bool). P n && not y) (ne_eqb n b r) ∙ and_true (P n) in
          let x : one_if (Q n) ≡ one_if (P n) = ap one_if same in
          omega (arith, size_without P Q b n (omega arith) p e)
    ]
  where
    and_true : (x : Bool) → (x && true) ≡ x
    and_true true = refl
    and_true false = refl

-- a set without its smallest number
pub next_smaller : (P Q : ℕ → Bool) (first : Option ℕ) → Next P first Q → OnSome first (size Q 256 < size P 256)
next_smaller P Q None n = search rules
next_smaller P Q (Some b) n = let d = size_without P Q b 256 n.smallest.0 n.smallest.1 n.rest in search rules

-- one number more
pub size_with : (P Q : ℕ → Bool) (b n : ℕ) → b < n → P b ≡ false → ((k : ℕ) → Q k ≡ (P k || eqb k b)) → size P n + 1 ≡ size Q n
size_with P Q b n h p e = size_without Q P b n h there (λ k. back k)
  where
    or_true : (x : Bool) → (x || true) ≡ true
    or_true true = refl
    or_true false = refl

    there : Q b ≡ true
    there = e b ∙ ap (λ (y : Bool). P b || y) (eq-eqb b b refl) ∙ or_true (P b)

    or_false : (x : Bool) → ((x || false) && true) ≡ x
    or_false true = refl
    or_false false = refl

    back : (k : ℕ) → P k ≡ (Q k && not (eqb k b))
    back k = elim (cases_eq k b) [
      | inl r ↦ ap P r ∙ p ∙ ap₂ (λ (x y : Bool). x && not y) (sym (ap Q r ∙ there)) (sym (eq-eqb k b r))
      | inr r ↦ sym (ap₂ (λ (x y : Bool). x && not y) (e k ∙ ap (λ (y : Bool). P k || y) (ne_eqb k b r)) (ne_eqb k b r) ∙ or_false (P k))
    ]

-- more numbers
abbrev pub Under : (ℕ → Bool) → (ℕ → Bool) → Type 0
Under P Q = (k : ℕ) → P k ≡ true → Q k ≡ true

one_if_mono : (x y : Bool) → (x ≡ true → y ≡ true) → (one_if x ≤ one_if y) × (one_if x ≡ one_if y → x ≡ y)
one_if_mono true true h = (omega arith, λ _. refl)
one_if_mono true false h = absurd (both_ways false refl (h refl))
one_if_mono false true h = (omega arith, λ (e : ◌≡◌ {A = ℕ} 0 1). absurd (omega arith))
one_if_mono false false h = (omega arith, λ _. refl)

pub size_mono : (P Q : ℕ → Bool) (n : ℕ) → Under P Q → size P n ≤ size Q n
unfolding size
size_mono P Q zero h = omega arith
size_mono P Q (suc n) h = omega (arith, size_mono P Q n h, (one_if_mono (P n) (Q n) (h n)).0)

-- as many numbers: the same
pub size_full : (P Q : ℕ → Bool) (n : ℕ) → Under P Q → size P n ≡ size Q n → (k : ℕ) → k < n → P k ≡ Q k
unfolding size
size_full P Q zero h e k l = absurd (omega arith)
size_full P Q (suc n) h e k l =
    let m = one_if_mono (P n) (Q n) (h n) in
    let low = size_mono P Q n h in
    let head : one_if (P n) ≡ one_if (Q n) = omega (arith, m.0) in
    elim (cases_eq k n) [
      | inl r ↦ ap P r ∙ m.1 head ∙ ap Q (sym r)
      | inr r ↦ size_full P Q n h (omega arith) k (omega arith)
    ]

pub size_none : (P : ℕ → Bool) (n : ℕ) → ((k : ℕ) → P k ≡ false) → size P n ≡ 0
unfolding size
size_none P zero e = refl
size_none P (suc n) e = omega (arith, size_none P n e, ap one_if (e n))

-- ---- the numbers in two parts

pub size_split : (P : ℕ → Bool) (m d : ℕ) → size P (m + d) ≡ size P m + size (λ i. P (m + i)) d
unfolding size
size_split P m zero = ap (size P) (add-zero m) ∙ omega arith
size_split P m (suc d) = ap (size P) (add-suc m d) ∙ omega (arith, size_split P m d)

-- as many as the digits of a word that are 1
pub size_bits : (d w : ℕ) → w < 2 ^ d → size (bit w) d ≡ ones w
unfolding size ones
size_bits zero w h = ap ones (let z : 0 ≡ w = omega arith in z)
size_bits (suc d) w h =
    let e = pow-suc 2 d in
    let two = size_split (bit w) 1 d in
    let low : one_if (bit w 0) ≡ w % 2 = ap one_if (bit_first w) ∙ digit (w % 2) (omega arith) in
    let high : size (λ i. bit w (1 + i)) d ≡ ones (w / 2) = size_same (λ i. bit w (1 + i)) (bit (w / 2)) d (λ i l. ap (bit w) (one-add i) ∙ bit_next w i) ∙ size_bits d (w / 2) (omega arith) in
    let step = ones_step w in
    ap (size (bit w)) (sym (one-add d)) ∙ two ∙ omega arith
  where
    digit : (x : ℕ) → x < 2 → one_if (eqb x 1) ≡ x
    digit zero l = refl
    digit (suc zero) l = refl
    digit (suc (suc x)) l = absurd (omega arith)

-- the members of four words
four_parts : (ws : List ℕ) → ((q : ℕ) → get_or ws q 0 < 2 ^ 64) → size (has ws) 256 ≡ ones (get_or ws 0 0) + ones (get_or ws 1 0) + ones (get_or ws 2 0) + ones (get_or ws 3 0)
unfolding has ones size
four_parts ws fit = size_split (has ws) 192 64 ∙ ap₂ ◌+◌ (size_split (has ws) 128 64 ∙ ap₂ ◌+◌ (size_split (has ws) 64 64 ∙ ap₂ ◌+◌ (part 0 (λ k l. has_at ws 0 k l)) (part 1 (λ k l. has_at ws 1 k l))) (part 2 (λ k l. has_at ws 2 k l))) (part 3 (λ k l. has_at ws 3 k l))
  where
    part : (q : ℕ) → ((k : ℕ) → k < 64 → has ws (64 * q + k) ≡ bit (get_or ws q 0) k) → size (λ k. has ws (64 * q + k)) 64 ≡ ones (get_or ws q 0)
    part q e = size_same (λ k. has ws (64 * q + k)) (bit (get_or ws q 0)) 64 e ∙ size_bits 64 (get_or ws q 0) (fit q)

pub size_words : (ws : List ℕ) → length ws ≡ 4 → ((q : ℕ) → get_or ws q 0 < 2 ^ 64) → sum_by ones ws ≡ size (has ws) 256
size_words [] l fit = absurd (omega arith)
size_words (a ∷ []) l fit = absurd (omega arith)
size_words (a ∷ b ∷ []) l fit = absurd (omega arith)
size_words (a ∷ b ∷ c ∷ []) l fit = absurd (omega arith)
size_words (a ∷ b ∷ c ∷ d ∷ []) l fit = let e = four_parts (a ∷ b ∷ c ∷ d ∷ []) fit in omega arith
size_words (a ∷ b ∷ c ∷ d ∷ e ∷ ws) l fit = absurd (omega arith)
