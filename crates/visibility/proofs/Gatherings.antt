-- One read more in a table of sources.
use Rattle.std.proofs.Common.{◌≡◌, ℕ, Bool, true, false, not, ◌⊎◌, ◌&&◌, eqb, List, length, Some, Decides, sym, refl, ap, ap₂, ◌∙◌, subst, inl, inr}
use Rattle.std.proofs.lemmas.Bool.{cases_Bool, cases_eq, both_ways, and_parts, and_left, and_from, eq-eqb, ne_eqb}
use Rattle.recording.specs.declared.operation.Operation.{Operation}
use Rattle.recording.specs.Operations.{SourceOf}
use Rattle.rows.specs.Members.{related}
use Rattle.rows.specs.Steps.{Next}
use Rattle.visibility.specs.Visible.{SourceTable}

-- the reads of a set that are not among those that are left
abbrev pub Gone : (ℕ → Bool) → (ℕ → Bool) → ℕ → Type 0
Gone reads left r = (reads r ≡ true) × (left r ≡ false)

module _ (ops : List Operation) (reads left rest : ℕ → Bool) (k : ℕ) (t u : List ℕ) (some : (r : ℕ) → left r ≡ true → reads r ≡ true) (n : Next left (Some k) rest)
    (v : SourceTable ops (Gone reads left) t) (long : length u ≡ 1024)
    (added : (w r : ℕ) → Decides (related u w r) ((related t w r ≡ true) ⊎ ((r ≡ k) × SourceOf ops w r))) where
  rest_left : (r : ℕ) → rest r ≡ true → left r ≡ true
  rest_left r h = (and_parts (left r) (not (eqb r k)) (sym (n.rest r) ∙ h)).0

  gone_on : (r : ℕ) → left r ≡ false → rest r ≡ false
  gone_on r h = n.rest r ∙ and_left (left r) (not (eqb r k)) h

  gone_here : rest k ≡ false
  gone_here = n.rest k ∙ ap₂ (λ (x y : Bool). x && not y) n.smallest.1 (eq-eqb k k refl)

  gone_before : (r : ℕ) → ¬ (r ≡ k) → rest r ≡ false → left r ≡ false
  gone_before r z h = elim (cases_Bool (left r)) [
    | inl e ↦ absurd (both_ways (rest r) h (n.rest r ∙ and_from (left r) (not (eqb r k)) e (ap not (ne_eqb r k z))))
    | inr e ↦ e
  ]

  pub gathered_more : SourceTable ops (Gone reads rest) u × ((r : ℕ) → rest r ≡ true → reads r ≡ true)
  gathered_more = (
    record {
      long = long;
      sound = λ w r h. elim ((added w r).0 h) [
        | inl p ↦ let s = v.sound w r p in ((s.0.0, gone_on r s.0.1), s.1)
        | inr p ↦ (subst (Gone reads rest) (sym p.0) (some k n.smallest.1, gone_here), p.1)
      ];
      whole = λ w r p s. elim (cases_eq r k) [
        | inl z ↦ (added w r).1 (inr (z, s))
        | inr z ↦ (added w r).1 (inl (v.whole w r (p.0, gone_before r z p.1) s))
      ];
    },
    λ r h. some r (rest_left r h),
  )
