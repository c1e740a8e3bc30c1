-- A row that is filled number by number with what passes a test.
use Rattle.std.proofs.Common.{◌≡◌, ℕ, ◌+◌, ◌<◌, ◌≤◌, Bool, true, false, ◌||◌, eqb, Decides, sym, refl, ap, ◌∙◌, subst, inl, inr, arith}
use Rattle.std.proofs.lemmas.Bool.{cases_eq, both_ways, eq-eqb, ne_eqb}

or_no : (x : Bool) → (x || false) ≡ x
or_no true = refl
or_no false = refl

or_yes : (x : Bool) → (x || true) ≡ true
or_yes true = refl
or_yes false = refl

-- the numbers below n are asked for, and no other is in the row
pub record Filled (D : ℕ → Type 0) (row : ℕ → Bool) (n : ℕ) : Type 0 where
  pub below : (k : ℕ) → k < n → Decides (row k) (D k)
  pub above : (k : ℕ) → n ≤ k → row k ≡ false

module _ (D : ℕ → Type 0) (row : ℕ → Bool) (b : ℕ) (v : Filled D row b) where
  pub filled_with : (more : ℕ → Bool) → ((k : ℕ) → more k ≡ (row k || eqb k b)) → D b → Filled D more (b + 1)
  filled_with more e d = record {
    below = λ k h. elim (cases_eq k b) [
      | inl z ↦ (λ _. subst D (sym z) d, λ _. e k ∙ ap (λ x. row k || x) (eq-eqb k b z) ∙ or_yes (row k))
      | inr z ↦
          let same : more k ≡ row k = e k ∙ ap (λ x. row k || x) (ne_eqb k b z) ∙ or_no (row k) in
          let w = v.below k (omega arith) in
          (λ h. w.0 (sym same ∙ h), λ d. same ∙ w.1 d)
    ];
    above = λ k h. e k ∙ ap (λ x. row k || x) (ne_eqb k b (λ z. omega arith)) ∙ or_no (row k) ∙ v.above k (omega arith);
  }

  pub filled_without : ¬ D b → Filled D row (b + 1)
  filled_without n = record {
    below = λ k h. elim (cases_eq k b) [
      | inl z ↦ (λ h. absurd (both_ways (row k) (v.above k (omega arith)) h), λ d. absurd (n (subst D z d)))
      | inr z ↦ v.below k (omega arith)
    ];
    above = λ k h. v.above k (omega arith);
  }
