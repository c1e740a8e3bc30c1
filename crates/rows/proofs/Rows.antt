-- What the operations on rows and tables do to each member.
use Rattle.std.proofs.Common.{◌≡◌, ℕ, ◌+◌, ◌-◌, ◌*◌, ◌/◌, ◌%◌, ◌^◌, ◌<◌, ◌≤◌, min, Bool, true, false, not, ◌&&◌, ◌||◌, eqb, ltb, List, [], ◌∷◌, length, get_or, set, replicate, Some, None, subst, sym, refl, ap, ◌∙◌, ◌⊎◌, inl, inr, arith}
use lib.Bits.{bit_and, bit_or}
use lib.Count.{count_trailing_zeros}
use Rattle.std.proofs.lemmas.Nat.{one_shl, pow_below}
use Rattle.std.proofs.lemmas.List.{get_or-set_same, get_or-set_other, get_or_past, length-set, length-replicate, get_or-replicate, ext_get_or}
use Rattle.std.proofs.lemmas.Bool.Decides.{nat_tests}
use Rattle.std.proofs.lemmas.Bool.{cases_eq, cases_lt, both_ways, ne_eqb, le-ltb}
use Rattle.rows.specs.Members.{bit, has, row_of}
use Rattle.rows.specs.Steps.{Next}
use Rattle.rows.proofs.Bit.{bit_none, bit-or, bit-and, bit_not, bit_one, same_bits, lowest_set, lowest_cleared}

-- ---- one word of a row

pub has_word : (ws : List ℕ) (q k : ℕ) → k / 64 ≡ q → has ws k ≡ bit (get_or ws q 0) (k % 64)
unfolding has
has_word ws q k e = ap (λ (x : ℕ). bit (get_or ws x 0) (k % 64)) e

-- past the words there is no member
pub has_past : (ws : List ℕ) (n k : ℕ) → length ws ≡ n → n * 64 ≤ k → has ws k ≡ false
unfolding has
has_past ws n k l h = ap (λ (x : ℕ). bit x (k % 64)) (get_or_past ws (k / 64) 0 (omega arith)) ∙ bit_none (k % 64)

-- so a member of four words is below 256
pub has_below : (ws : List ℕ) (k : ℕ) → length ws ≡ 4 → has ws k ≡ true → k < 256
has_below ws k l h = elim (cases_lt k 256) [ inl p ↦ p | inr p ↦ absurd (both_ways (has ws k) (has_past ws 4 k l (omega arith)) h) ]

-- words of zeros have no member
none_in : (ws : List ℕ) (n : ℕ) → ((q : ℕ) → q < n → get_or ws q 0 ≡ 0) → (k : ℕ) → k < 64 * n → has ws k ≡ false
none_in ws n zeros k h = has_word ws (k / 64) k refl ∙ ap (λ (x : ℕ). bit x (k % 64)) (zeros (k / 64) (omega arith)) ∙ bit_none (k % 64)

zero_at : (n i : ℕ) → ◌≡◌ {A = ℕ} (get_or (replicate n 0) i 0) 0
zero_at n i = elim (cases_lt i n) [ inl h ↦ get_or-replicate n i 0 0 h | inr h ↦ get_or_past (replicate n 0) i 0 (omega (arith, length-replicate {A = ℕ} n 0)) ]

pub has_nothing : (k : ℕ) → has (0 ∷ 0 ∷ 0 ∷ 0 ∷ []) k ≡ false
has_nothing k = none_in (replicate 4 0) (k / 64 + 1) (λ q _. zero_at 4 q) k (omega arith)

-- ---- an operation on two rows, word by word

module _ (xs ys zs : List ℕ) (l : length xs ≡ 4) (m : length ys ≡ 4) (n : length zs ≡ 4) where
  pub has_zip : (g : Bool → Bool → Bool) → g false false ≡ false
      → ((q i : ℕ) → q < 4 → i < 64 → bit (get_or zs q 0) i ≡ g (bit (get_or xs q 0) i) (bit (get_or ys q 0) i)) → (k : ℕ) → has zs k ≡ g (has xs k) (has ys k)
  unfolding has
  has_zip g none words k =
      let low : k % 64 < 64 = omega arith in
      elim (cases_lt (k / 64) 4) [
        | inl h ↦ words (k / 64) (k % 64) h low
        | inr h ↦
            let a = has_past zs 4 k n (omega arith) in
            let b = has_past xs 4 k l (omega arith) in
            let c = has_past ys 4 k m (omega arith) in
            cc
      ]

  pub has_union : ((q : ℕ) → q < 4 → get_or zs q 0 ≡ bit_or (get_or xs q 0) (get_or ys q 0)) → (k : ℕ) → has zs k ≡ (has xs k || has ys k)
  has_union e = has_zip (λ x y. x || y) refl (λ q i h _. ap (λ w. bit w i) (e q h) ∙ bit-or (get_or xs q 0) (get_or ys q 0) i)

  pub has_intersection : ((q : ℕ) → q < 4 → get_or zs q 0 ≡ bit_and (get_or xs q 0) (get_or ys q 0)) → (k : ℕ) → has zs k ≡ (has xs k && has ys k)
  has_intersection e = has_zip (λ x y. x && y) refl (λ q i h _. ap (λ w. bit w i) (e q h) ∙ bit-and (get_or xs q 0) (get_or ys q 0) i)

  pub has_difference : ((q : ℕ) → get_or ys q 0 < 2 ^ 64) → ((q : ℕ) → q < 4 → get_or zs q 0 ≡ bit_and (get_or xs q 0) (2 ^ 64 - 1 - get_or ys q 0))
      → (k : ℕ) → has zs k ≡ (has xs k && not (has ys k))
  has_difference fit e =
      has_zip (λ x y. x && not y) refl
      (λ q i h low. ap (λ w. bit w i) (e q h) ∙ bit-and (get_or xs q 0) (2 ^ 64 - 1 - get_or ys q 0) i ∙ ap (λ x. bit (get_or xs q 0) i && x) (bit_not 64 (get_or ys q 0) i (fit q) low))

-- ---- one member more, and one less

or_false : (x : Bool) → (x || false) ≡ x
or_false true = refl
or_false false = refl

and_true : (x : Bool) → (x && true) ≡ x
and_true true = refl
and_true false = refl

-- a word with one bit more
pub bit_added : (w b : ℕ) → b < 64 → (i : ℕ) → bit (bit_or w ((1 * 2 ^ b) % 2 ^ 64)) i ≡ (bit w i || eqb i b)
bit_added w b h i =
    bit-or w ((1 * 2 ^ b) % 2 ^ 64) i ∙ ap (λ (x : ℕ). bit w i || bit x i) (one_shl b 64 h) ∙ ap (λ x. bit w i || x) (bit_one b i)

module _ (ws : List ℕ) (b : ℕ) (l : length ws ≡ 4) (h : b < 256) (k : ℕ) where
  pub has_with : has (set ws (b / 64) (bit_or (get_or ws (b / 64) 0) ((1 * 2 ^ (b % 64)) % 2 ^ 64))) k ≡ (has ws k || eqb k b)
  unfolding has
  has_with =
      let w : ℕ = bit_or (get_or ws (b / 64) 0) ((1 * 2 ^ (b % 64)) % 2 ^ 64) in
      elim (cases_eq (k / 64) (b / 64)) [
        | inl e ↦
            let s = get_or-set_same ws (b / 64) w 0 (omega arith) in
            let o = bit-or (get_or ws (b / 64) 0) ((1 * 2 ^ (b % 64)) % 2 ^ 64) (k % 64) in
            let p = one_shl (b % 64) 64 (omega arith) in
            let t = bit_one (b % 64) (k % 64) in
            let u : eqb (k % 64) (b % 64) ≡ eqb k b = grind (arith, nat_tests) in
            cc
        | inr ne ↦
            let s = get_or-set_other ws (b / 64) (k / 64) w 0 ne in
            let u : eqb k b ≡ false = grind (arith, nat_tests) in
            let o = or_false (bit (get_or ws (k / 64) 0) (k % 64)) in
            cc
      ]

  pub has_without : has (set ws (b / 64) (bit_and (get_or ws (b / 64) 0) (2 ^ 64 - 1 - (1 * 2 ^ (b % 64)) % 2 ^ 64))) k ≡ (has ws k && not (eqb k b))
  unfolding has
  has_without =
      let w : ℕ = bit_and (get_or ws (b / 64) 0) (2 ^ 64 - 1 - (1 * 2 ^ (b % 64)) % 2 ^ 64) in
      elim (cases_eq (k / 64) (b / 64)) [
        | inl e ↦
            let s = get_or-set_same ws (b / 64) w 0 (omega arith) in
            let o = bit-and (get_or ws (b / 64) 0) (2 ^ 64 - 1 - (1 * 2 ^ (b % 64)) % 2 ^ 64) (k % 64) in
            let p = one_shl (b % 64) 64 (omega arith) in
            let n = bit_not 64 (2 ^ (b % 64)) (k % 64) (pow_below (b % 64) 64 (omega arith)) (omega arith) in
            let t = bit_one (b % 64) (k % 64) in
            let u : eqb (k % 64) (b % 64) ≡ eqb k b = grind (arith, nat_tests) in
            cc
        | inr ne ↦
            let s = get_or-set_other ws (b / 64) (k / 64) w 0 ne in
            let u : eqb k b ≡ false = grind (arith, nat_tests) in
            let o = and_true (bit (get_or ws (k / 64) 0) (k % 64)) in
            cc
      ]

-- ---- a row is its members

-- member 64 * q + i is bit i of word q
pub has_at : (ws : List ℕ) (q i : ℕ) → i < 64 → has ws (64 * q + i) ≡ bit (get_or ws q 0) i
unfolding has
has_at ws q i h =
    let d : (64 * q + i) / 64 ≡ q = omega arith in
    let m : (64 * q + i) % 64 ≡ i = omega arith in
    cc

pub same_rows : (xs ys : List ℕ) → length xs ≡ length ys → ((q : ℕ) → get_or xs q 0 < 2 ^ 64) → ((q : ℕ) → get_or ys q 0 < 2 ^ 64)
    → ((k : ℕ) → has xs k ≡ has ys k) → xs ≡ ys
same_rows xs ys l f g e =
    ext_get_or 0 xs ys l
    (λ q _. same_bits 64 (get_or xs q 0) (get_or ys q 0) (f q) (g q) (λ i h. sym (has_at xs q i h) ∙ e (64 * q + i) ∙ has_at ys q i h))

-- a number of the words up to q is of those before, or a bit of word q
pub in_word : (ws : List ℕ) (q k : ℕ) (says : Bool) → k < 64 * (q + 1) → has ws k ≡ says
    → (k < 64 * q) ⊎ ((b : ℕ) × (b < 64) × (64 * q + b ≡ k) × (bit (get_or ws q 0) b ≡ says))
in_word ws q k says h e = elim (cases_lt k (64 * q)) [
  | inl l ↦ inl l
  | inr r ↦ inr (k % 64, omega arith, omega arith, sym (has_word ws q k (omega arith)) ∙ e)
]

-- after word q is written, the words before are as they were, and its members are the bits of what was written
pub set_before : (ws : List ℕ) (q v k : ℕ) → k < 64 * q → has (set ws q v) k ≡ has ws k
unfolding has
set_before ws q v k h = ap (λ (x : ℕ). bit x (k % 64)) (get_or-set_other ws q (k / 64) v 0 (λ e. omega arith))

pub set_at : (ws : List ℕ) (q v b : ℕ) → q < length ws → b < 64 → has (set ws q v) (64 * q + b) ≡ bit v b
set_at ws q v b l h = has_at (set ws q v) q b h ∙ ap (λ (x : ℕ). bit x b) (get_or-set_same ws q v 0 l)

-- ---- the smallest member

pub none_more : (ws : List ℕ) (q : ℕ) → ((k : ℕ) → k < 64 * q → has ws k ≡ false) → get_or ws q 0 ≡ 0 → (k : ℕ) → k < 64 * (q + 1) → has ws k ≡ false
none_more ws q low e k h =
    elim (cases_lt k (64 * q)) [
      | inl p ↦ low k p
      | inr p ↦ has_word ws q k (omega arith) ∙ ap (λ (x : ℕ). bit x (k % 64)) e ∙ bit_none (k % 64)
    ]

module _ (start ws : List ℕ) (q : ℕ) (e : ws ≡ start) (long : length ws ≡ 4) (low : (k : ℕ) → k < 64 * q → has ws k ≡ false) where
  pub none_taken : 4 ≤ q → Next (has start) None (has ws)
  none_taken r = subst (λ l. Next (has l) None (has ws)) e (record {
    smallest = λ k. elim (cases_lt k 256) [ inl p ↦ low k (omega arith) | inr p ↦ has_past ws 4 k long (omega arith) ];
    rest = λ k. refl;
  })

  module _ (h : q < 4) (fit : get_or ws q 0 < 2 ^ 64) (ne : get_or ws q 0 ≡ 0 → ⊥) where
    abbrev lowest : ℕ
    lowest = count_trailing_zeros 64 (get_or ws q 0)

    -- the words without the lowest bit of word q
    abbrev left : List ℕ
    left = set ws q (bit_and (get_or ws q 0) (get_or ws q 0 - 1))

    without_lowest : (k : ℕ) → has left k ≡ (has ws k && not (eqb k (64 * q + lowest)))
    unfolding has
    without_lowest k =
        let t = (lowest_set 64 (get_or ws q 0) (omega arith) fit).0 in
        elim (cases_eq (k / 64) q) [
          | inl d ↦
              let s = get_or-set_same ws q (bit_and (get_or ws q 0) (get_or ws q 0 - 1)) 0 (omega arith) in
              let c = lowest_cleared 64 (get_or ws q 0) (omega arith) fit (k % 64) in
              let u : eqb (k % 64) lowest ≡ eqb k (64 * q + lowest) = grind (arith, nat_tests) in
              cc
          | inr ne ↦
              let s = get_or-set_other ws q (k / 64) (bit_and (get_or ws q 0) (get_or ws q 0 - 1)) 0 ne in
              let u : eqb k (64 * q + lowest) ≡ false = grind (arith, nat_tests) in
              let o = and_true (bit (get_or ws (k / 64) 0) (k % 64)) in
              cc
        ]

    pub first_taken : Next (has start) (Some (64 * q + lowest)) (has left)
    first_taken =
        let t = lowest_set 64 (get_or ws q 0) (omega arith) fit in
        let l = t.0 in
        subst (λ l. Next (has l) (Some (64 * q + lowest)) (has left)) e (record {
          smallest = (
            omega arith,
            has_at ws q lowest l ∙ t.1,
            λ k r. elim (cases_lt k (64 * q)) [
              | inl p ↦ low k p
              | inr p ↦ let d : k / 64 ≡ q = omega arith in has_word ws q k d ∙ t.2 (k % 64) (omega arith)
            ],
          );
          rest = without_lowest;
        })

-- ---- the rows of a table after a write

pub four_words : (ws : List ℕ) → length ws ≡ 4 → get_or ws 0 0 ∷ get_or ws 1 0 ∷ get_or ws 2 0 ∷ get_or ws 3 0 ∷ [] ≡ ws
four_words [] l = absurd (omega arith)
four_words (a ∷ []) l = absurd (omega arith)
four_words (a ∷ b ∷ []) l = absurd (omega arith)
four_words (a ∷ b ∷ c ∷ []) l = absurd (omega arith)
four_words (a ∷ b ∷ c ∷ d ∷ []) l = refl
four_words (a ∷ b ∷ c ∷ d ∷ e ∷ ws) l = absurd (omega arith)

module _ (t : List ℕ) (p a b c d : ℕ) where
  abbrev pub put_four : List ℕ
  put_four = set (set (set (set t p a) (p + 1) b) (p + 2) c) (p + 3) d

  pub put_others : (x : ℕ) → (x ≡ p → ⊥) → (x ≡ p + 1 → ⊥) → (x ≡ p + 2 → ⊥) → (x ≡ p + 3 → ⊥) → get_or put_four x 0 ≡ get_or t x 0
  put_others x h i j k = simp get_or-set_other

  pub put_at : p + 3 < length t → (get_or put_four p 0 ≡ a) × (get_or put_four (p + 1) 0 ≡ b) × (get_or put_four (p + 2) 0 ≡ c) × (get_or put_four (p + 3) 0 ≡ d)
  put_at h = (
    get_or-set_other _ (p + 3) p d 0 (omega arith) ∙ get_or-set_other _ (p + 2) p c 0 (omega arith) ∙ get_or-set_other _ (p + 1) p b 0 (omega arith)
        ∙ get_or-set_same t p a 0 (omega arith),
    get_or-set_other _ (p + 3) (p + 1) d 0 (omega arith) ∙ get_or-set_other _ (p + 2) (p + 1) c 0 (omega arith)
        ∙ get_or-set_same _ (p + 1) b 0 (omega (arith, length-set t p a)),
    get_or-set_other _ (p + 3) (p + 2) d 0 (omega arith) ∙ get_or-set_same _ (p + 2) c 0 (omega (arith, length-set t p a, length-set (set t p a) (p + 1) b)),
    get_or-set_same _ (p + 3) d 0 (omega (arith, length-set t p a, length-set (set t p a) (p + 1) b, length-set (set (set t p a) (p + 1) b) (p + 2) c)),
  )

module _ (t : List ℕ) (a : ℕ) (ws : List ℕ) (l : length ws ≡ 4) where
  abbrev pub with_row : List ℕ
  with_row = put_four t (4 * a) (get_or ws 0 0) (get_or ws 1 0) (get_or ws 2 0) (get_or ws 3 0)

  pub row_here : 4 * a + 3 < length t → row_of with_row a ≡ ws
  row_here h =
      let q = put_at t (4 * a) (get_or ws 0 0) (get_or ws 1 0) (get_or ws 2 0) (get_or ws 3 0) h in
      let i = q.0 in
      let j = q.1 in
      let k = q.2 in
      let m = q.3 in
      let e = four_words ws l in
      cc

  pub row_other : (c : ℕ) → (c ≡ a → ⊥) → row_of with_row c ≡ row_of t c
  row_other c ne =
      let o = put_others t (4 * a) (get_or ws 0 0) (get_or ws 1 0) (get_or ws 2 0) (get_or ws 3 0) in
      let i = o (4 * c) (λ e. omega arith) (λ e. omega arith) (λ e. omega arith) (λ e. omega arith) in
      let j = o (4 * c + 1) (λ e. omega arith) (λ e. omega arith) (λ e. omega arith) (λ e. omega arith) in
      let k = o (4 * c + 2) (λ e. omega arith) (λ e. omega arith) (λ e. omega arith) (λ e. omega arith) in
      let m = o (4 * c + 3) (λ e. omega arith) (λ e. omega arith) (λ e. omega arith) (λ e. omega arith) in
      cc

-- ---- numbers above 255

pub has_without_past : (ws : List ℕ) (b k : ℕ) → length ws ≡ 4 → 256 ≤ b → has ws k ≡ (has ws k && not (eqb k b))
has_without_past ws b k l h = elim (cases_eq k b) [
  | inl e ↦ let n = has_past ws 4 k l (omega arith) in n ∙ sym (ap (λ x. x && not (eqb k b)) n)
  | inr ne ↦ sym (ap (λ x. has ws k && not x) (ne_eqb k b ne) ∙ and_true (has ws k))
]

-- past the words of a table no row has a member
pub row_past : (t : List ℕ) (a : ℕ) → length t ≡ 1024 → 256 ≤ a → (k : ℕ) → has (row_of t a) k ≡ false
row_past t a l h k =
    let p = get_or_past t (4 * a) 0 (omega arith) in
    let q = get_or_past t (4 * a + 1) 0 (omega arith) in
    let r = get_or_past t (4 * a + 2) 0 (omega arith) in
    let s = get_or_past t (4 * a + 3) 0 (omega arith) in
    (λ i. has (p i ∷ q i ∷ r i ∷ s i ∷ []) k) ∙ has_nothing k

-- ---- the numbers below n

pub has_below_n : (n : ℕ) (ws : List ℕ) → length ws ≡ 4 → ((q : ℕ) → q < 4 → (i : ℕ) → i < 64 → bit (get_or ws q 0) i ≡ ltb i (n - 64 * q)) → (k : ℕ) → has ws k ≡ ltb k (min n 256)
unfolding has
has_below_n n ws l e k = elim (cases_lt (k / 64) 4) [
  | inl h ↦ e (k / 64) h (k % 64) (omega arith) ∙ grind (arith, nat_tests)
  | inr h ↦ has_past ws 4 k l (omega arith) ∙ sym (le-ltb k (min n 256) (omega arith))
]

-- ---- a table of zeros

pub table_nothing : (n a k : ℕ) → has (row_of (replicate n 0) a) k ≡ false
table_nothing n a k = (λ i. has (zero_at n (4 * a) i ∷ zero_at n (4 * a + 1) i ∷ zero_at n (4 * a + 2) i ∷ zero_at n (4 * a + 3) i ∷ []) k) ∙ has_nothing k
