-- What the operations on words do to each bit.
use Rattle.std.proofs.Common.{◌≡◌, ℕ, zero, suc, ◌-◌, ◌/◌, ◌%◌, ◌^◌, ◌<◌, Bool, true, false, not, ◌&&◌, ◌||◌, eqb, ltb, Some, None, sym, refl, ap, ◌∙◌, pow-suc, div-one, arith, lit<}
use lib.Dec.{eqb-suc-suc, eqb-suc-zero}
use lib.Bits.{bit_and, bit_or, and_mask}
use lib.Count.{count_trailing_zeros, under}
use Rattle.std.proofs.lemmas.Nat.{and_shr, or_shr, and_mod, or_mod, mod_below, pow_pos, shr-shr}
use Rattle.std.proofs.lemmas.Bool.Decides.{nat_tests}
use Rattle.std.proofs.lemmas.Bool.{eq-eqb, le-ltb, lt-ltb}
use Rattle.rows.specs.Members.{bit}
use Rattle.rows.specs.Steps.{NextBit}

-- ---- one bit lower

pub bit_first : (w : ℕ) → bit w 0 ≡ eqb (w % 2) 1
unfolding bit
bit_first w = ap (λ (x : ℕ). eqb (x % 2) 1) (div-one w)

pub bit_next : (w i : ℕ) → bit w (suc i) ≡ bit (w / 2) i
unfolding bit
bit_next w i = ap (λ (x : ℕ). eqb (x % 2) 1) (ap (λ (x : ℕ). w / 2 ^ x) (omega arith) ∙ sym (shr-shr w 1 i))

-- ---- no bit

pub bit_none : (i : ℕ) → bit 0 i ≡ false
bit_none zero = bit_first 0
bit_none (suc i) = bit_next 0 i ∙ bit_none i

-- ---- two words

or_digits : (x y : ℕ) → x < 2 → y < 2 → eqb (bit_or x y) 1 ≡ (eqb x 1 || eqb y 1)
or_digits zero zero p q = refl
or_digits zero (suc zero) p q = refl
or_digits zero (suc (suc y)) p q = absurd (omega arith)
or_digits (suc zero) zero p q = refl
or_digits (suc zero) (suc zero) p q = refl
or_digits (suc zero) (suc (suc y)) p q = absurd (omega arith)
or_digits (suc (suc x)) y p q = absurd (omega arith)

and_digits : (x y : ℕ) → x < 2 → y < 2 → eqb (bit_and x y) 1 ≡ (eqb x 1 && eqb y 1)
and_digits zero zero p q = refl
and_digits zero (suc zero) p q = refl
and_digits zero (suc (suc y)) p q = absurd (omega arith)
and_digits (suc zero) zero p q = refl
and_digits (suc zero) (suc zero) p q = refl
and_digits (suc zero) (suc (suc y)) p q = absurd (omega arith)
and_digits (suc (suc x)) y p q = absurd (omega arith)

pub bit-or : (a b i : ℕ) → bit (bit_or a b) i ≡ (bit a i || bit b i)
unfolding bit
bit-or a b i =
    ap (λ (x : ℕ). eqb x 1) (ap (λ (x : ℕ). x % 2) (or_shr a b i) ∙ or_mod (a / 2 ^ i) (b / 2 ^ i) 1)
    ∙ or_digits (a / 2 ^ i % 2) (b / 2 ^ i % 2) (mod_below (a / 2 ^ i) 2 (lit< tt)) (mod_below (b / 2 ^ i) 2 (lit< tt))

pub bit-and : (a b i : ℕ) → bit (bit_and a b) i ≡ (bit a i && bit b i)
unfolding bit
bit-and a b i =
    ap (λ (x : ℕ). eqb x 1) (ap (λ (x : ℕ). x % 2) (and_shr a b i) ∙ and_mod (a / 2 ^ i) (b / 2 ^ i) 1)
    ∙ and_digits (a / 2 ^ i % 2) (b / 2 ^ i % 2) (mod_below (a / 2 ^ i) 2 (lit< tt)) (mod_below (b / 2 ^ i) 2 (lit< tt))

-- the other bits of a word of k bits
pub bit_not : (k w i : ℕ) → w < 2 ^ k → i < k → bit (2 ^ k - 1 - w) i ≡ not (bit w i)
bit_not zero w i p q = absurd (omega arith)
bit_not (suc k) w zero p q =
    let e = pow-suc 2 k in
    let h = pow_pos k in
    bit_first (2 ^ suc k - 1 - w) ∙ grind (arith, nat_tests) ∙ ap not (sym (bit_first w))
bit_not (suc k) w (suc i) p q =
    let e = pow-suc 2 k in
    let half : (2 ^ suc k - 1 - w) / 2 ≡ 2 ^ k - 1 - w / 2 = omega arith in
    bit_next (2 ^ suc k - 1 - w) i ∙ ap (λ (x : ℕ). bit x i) half ∙ bit_not k (w / 2) i (omega arith) (omega arith) ∙ ap not (sym (bit_next w i))

-- ---- one bit

pub bit_one : (j i : ℕ) → bit (2 ^ j) i ≡ eqb i j
bit_one zero zero = bit_first 1
bit_one zero (suc i) = bit_next 1 i ∙ bit_none i ∙ sym (eqb-suc-zero i)
bit_one (suc j) zero =
    let e = pow-suc 2 j in
    bit_first (2 ^ suc j) ∙ grind (arith, nat_tests)
bit_one (suc j) (suc i) =
    let e = pow-suc 2 j in
    let half : 2 ^ suc j / 2 ≡ 2 ^ j = omega arith in
    bit_next (2 ^ suc j) i ∙ ap (λ (x : ℕ). bit x i) half ∙ bit_one j i ∙ sym (eqb-suc-suc i j)

-- ---- a word is its bits

pub same_bits : (k w v : ℕ) → w < 2 ^ k → v < 2 ^ k → ((i : ℕ) → i < k → bit w i ≡ bit v i) → w ≡ v
same_bits zero w v p q e = omega arith
same_bits (suc k) w v p q e =
    let d = pow-suc 2 k in
    let high : w / 2 ≡ v / 2 = same_bits k (w / 2) (v / 2) (omega arith) (omega arith) (λ i h. sym (bit_next w i) ∙ e (suc i) (omega arith) ∙ bit_next v i) in
    let low : eqb (w % 2) 1 ≡ eqb (v % 2) 1 = sym (bit_first w) ∙ e 0 (omega arith) ∙ bit_first v in
    let same : w % 2 ≡ v % 2 = grind (arith, nat_tests) in
    omega arith

-- ---- the lowest bit that is set

abbrev pub Lowest : ℕ → ℕ → ℕ → Type 0
Lowest k w t = (t < k) × (bit w t ≡ true) × ((i : ℕ) → i < t → bit w i ≡ false)

lowest_step : (k w d : ℕ) → w < 2 ^ suc k → w % 2 ≡ d → 0 < w → (0 < w / 2 → Lowest k (w / 2) (count_trailing_zeros k (w / 2)))
    → Lowest (suc k) w (under d (count_trailing_zeros k (w / 2)))
lowest_step k w zero q e p rest =
    let r = rest (omega arith) in
    let below : (i : ℕ) → i < suc (count_trailing_zeros k (w / 2)) → bit w i ≡ false =
    elim [ zero ↦ λ h. bit_first w ∙ ap (λ (x : ℕ). eqb x 1) e | suc i ↦ λ h. bit_next w i ∙ r.2 i (omega arith) ] in
    (omega arith, bit_next w (count_trailing_zeros k (w / 2)) ∙ r.1, below)
lowest_step k w (suc zero) q e p rest = (omega arith, bit_first w ∙ ap (λ (x : ℕ). eqb x 1) e, λ i h. absurd (omega arith))
lowest_step k w (suc (suc d)) q e p rest = absurd (omega arith)

pub lowest_set : (k w : ℕ) → 0 < w → w < 2 ^ k → Lowest k w (count_trailing_zeros k w)
unfolding count_trailing_zeros
lowest_set zero w p q = absurd (omega arith)
lowest_set (suc k) w p q =
    let e = pow-suc 2 k in lowest_step k w (w % 2) q refl p (λ h. lowest_set k (w / 2) h (omega arith))

clear_step : (k w d : ℕ) → w < 2 ^ suc k → w % 2 ≡ d → 0 < w
    → (0 < w / 2 → (i : ℕ) → bit (bit_and (w / 2) (w / 2 - 1)) i ≡ (bit (w / 2) i && not (eqb i (count_trailing_zeros k (w / 2)))))
    → (i : ℕ) → (bit w i && bit (w - 1) i) ≡ (bit w i && not (eqb i (under d (count_trailing_zeros k (w / 2)))))
clear_step k w zero q e p rest zero =
    let low : bit w 0 ≡ false = bit_first w ∙ ap (λ (x : ℕ). eqb x 1) e in
    ap (λ x. x && bit (w - 1) 0) low ∙ ap (λ x. x && not (eqb 0 (suc (count_trailing_zeros k (w / 2))))) (sym low)
clear_step k w zero q e p rest (suc i) =
    let half : (w - 1) / 2 ≡ w / 2 - 1 = omega arith in
    let t : ℕ = count_trailing_zeros k (w / 2) in
    ap (λ x. bit w (suc i) && x) (bit_next (w - 1) i ∙ ap (λ (x : ℕ). bit x i) half) ∙ ap (λ x. x && bit (w / 2 - 1) i) (bit_next w i)
    ∙ sym (bit-and (w / 2) (w / 2 - 1) i) ∙ rest (omega arith) i
    ∙ ap (λ x. x && not (eqb i t)) (sym (bit_next w i)) ∙ ap (λ x. bit w (suc i) && not x) (sym (eqb-suc-suc i t))
clear_step k w (suc zero) q e p rest zero =
    let less : bit (w - 1) 0 ≡ false = bit_first (w - 1) ∙ grind (arith, nat_tests) in
    ap (λ x. bit w 0 && x) less
clear_step k w (suc zero) q e p rest (suc i) =
    let half : (w - 1) / 2 ≡ w / 2 = omega arith in
    ap (λ x. bit w (suc i) && x) (bit_next (w - 1) i ∙ ap (λ (x : ℕ). bit x i) half ∙ sym (bit_next w i)) ∙ same_twice (bit w (suc i))
    ∙ ap (λ x. bit w (suc i) && not x) (sym (eqb-suc-zero i))
  where
    same_twice : (x : Bool) → (x && x) ≡ (x && not false)
    same_twice true = refl
    same_twice false = refl
clear_step k w (suc (suc d)) q e p rest i = absurd (omega arith)

-- a word without its lowest bit
pub lowest_cleared : (k w : ℕ) → 0 < w → w < 2 ^ k → (i : ℕ) → bit (bit_and w (w - 1)) i ≡ (bit w i && not (eqb i (count_trailing_zeros k w)))
unfolding count_trailing_zeros
lowest_cleared zero w p q i = absurd (omega arith)
lowest_cleared (suc k) w p q i =
    let e = pow-suc 2 k in bit-and w (w - 1) i ∙ clear_step k w (w % 2) q refl p (λ h. lowest_cleared k (w / 2) h (omega arith)) i

-- ---- the bits of a word, one after the other

pub no_bit : (w : ℕ) → w ≡ 0 → NextBit w None w
no_bit w e = record { next = record { smallest = λ i. ap (λ (x : ℕ). bit x i) e ∙ bit_none i; rest = λ i. refl }; low = tt }

pub next_bit : (w : ℕ) → (w ≡ 0 → ⊥) → w < 2 ^ 64 → NextBit w (Some (count_trailing_zeros 64 w)) (bit_and w (w - 1))
next_bit w ne fit =
    let t = lowest_set 64 w (omega arith) fit in
    let l = t.0 in
    record { next = record { smallest = (omega arith, t.1, t.2); rest = lowest_cleared 64 w (omega arith) fit }; low = l }

-- ---- the test that the code makes

pub bit_test : (w i : ℕ) → eqb (bit_and (w / 2 ^ i) 1) 1 ≡ bit w i
unfolding bit
bit_test w i = ap (λ (x : ℕ). eqb x 1) (and_mask (w / 2 ^ i) 1)

-- ---- the lowest bits

pub bit_ones : (m i : ℕ) → bit (2 ^ m - 1) i ≡ ltb i m
bit_ones zero i = bit_none i ∙ sym (le-ltb i 0 (omega arith))
bit_ones (suc m) zero =
    let e = pow-suc 2 m in
    let h = pow_pos m in
    bit_first (2 ^ suc m - 1) ∙ eq-eqb ((2 ^ suc m - 1) % 2) 1 (omega arith) ∙ sym (lt-ltb 0 (suc m) (omega arith))
bit_ones (suc m) (suc i) =
    let e = pow-suc 2 m in
    let half : (2 ^ suc m - 1) / 2 ≡ 2 ^ m - 1 = omega arith in
    bit_next (2 ^ suc m - 1) i ∙ ap (λ (x : ℕ). bit x i) half ∙ bit_ones m i ∙ grind (arith, nat_tests)
