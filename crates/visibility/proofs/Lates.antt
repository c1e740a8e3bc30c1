-- The later operations of a station without the first of them, one after the other.
use Rattle.std.proofs.Common.{◌≡◌, ℕ, zero, suc, ◌+◌, ◌-◌, ◌<◌, ◌≤◌, Bool, true, not, eqb, List, Some, None, Option, Decides, sym, ap, ◌∙◌, inl, inr, arith}
use Rattle.std.proofs.lemmas.Bool.{cases_Bool, cases_eq, cases_lt, both_ways, and_parts, and_from, ne_eqb, eq-eqb}
use Rattle.rows.specs.Counts.{one_if, size}
use Rattle.rows.specs.Steps.{Next}
use Rattle.rows.proofs.Sizes.{size_split}
use Rattle.visibility.specs.declared.outline.Shape.{Shape}
use Rattle.visibility.specs.Shapes.{before}
use Rattle.visibility.specs.Visible.{LateDemand}

module _ (P : ℕ → Bool) where
  counted : (b : ℕ) → P b ≡ true → size P (suc b) ≡ size P b + 1
  unfolding size
  counted b e = omega (arith, ap one_if e)

  size_up : (m n : ℕ) → m ≤ n → size P m ≤ size P n
  size_up m n h = let e = ap (size P) (let z : n ≡ m + (n - m) = omega arith in z) ∙ size_split P m (n - m) in omega arith

  -- one of those that are counted has as many up to it
  one_counted : (n i : ℕ) → 1 ≤ i → i ≤ size P n → (k : ℕ) × (k < n) × (P k ≡ true) × (i ≤ size P (suc k))
  unfolding size
  one_counted zero i some h = absurd (omega arith)
  one_counted (suc n) i some h = elim (cases_Bool (P n)) [
    | inl e ↦ (n, omega arith, e, h)
    | inr e ↦ let r = one_counted n i some (omega (arith, ap one_if e)) in (r.0, omega (arith, r.1), r.2, r.3)
  ]

module _ (f : List Shape) (a i : ℕ) (some : 1 ≤ i) (left : ℕ → Bool) (is : (b : ℕ) → Decides (left b) (LateDemand i f a b)) where
  -- one place further, without the first of them
  pub late_next : (first : Option ℕ) (rest : ℕ → Bool) → Next left first rest → (b : ℕ) → Decides (rest b) (LateDemand (i + 1) f a b)
  late_next None rest n b = (
    λ h. absurd (both_ways (left b) (n.smallest b) (sym (n.rest b) ∙ h)),
    λ d. absurd (both_ways (left b) (n.smallest b) ((is b).1 (d.0, omega (arith, d.1)))),
  )
  late_next (Some m) rest n b =
      let first = (is m).0 n.smallest.1 in
      let one = counted (before f a) m first.0 in
      let low : size (before f a) m < i = elim (cases_lt (size (before f a) m) i) [
        | inl h ↦ h
        | inr h ↦ let k = one_counted (before f a) m i some h in absurd (both_ways (left k.0) (n.smallest.2 k.0 k.1) ((is k.0).1 (k.2, k.3)))
      ] in (
        λ h.
            let p = and_parts (left b) (not (eqb b m)) (sym (n.rest b) ∙ h) in
            let d = (is b).0 p.0 in
            elim (cases_lt m b) [
              | inl l ↦ (d.0, omega (arith, first.1, size_up (before f a) (suc m) b (omega arith), counted (before f a) b d.0))
              | inr l ↦ elim (cases_eq b m) [
                | inl z ↦ absurd (both_ways (not (eqb b m)) (ap not (eq-eqb b m z)) p.1)
                | inr z ↦ absurd (both_ways (left b) (n.smallest.2 b (omega arith)) p.0)
              ]
            ],
        λ d. n.rest b ∙ and_from (left b) (not (eqb b m)) ((is b).1 (d.0, omega (arith, d.1)))
            (ap not (ne_eqb b m (λ z. let e = ap (λ x. size (before f a) (suc x)) z in omega (arith, d.1)))),
      )

-- the first of them has come one place
pub late_first : (f : List Shape) (a : ℕ) (left : ℕ → Bool) → ((b : ℕ) → left b ≡ before f a b) → (b : ℕ) → Decides (left b) (LateDemand 1 f a b)
late_first f a left e b = (λ h. let d = sym (e b) ∙ h in (d, omega (arith, counted (before f a) b d)), λ d. e b ∙ d.0)
