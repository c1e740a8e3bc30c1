-- What is reached by steps of a relation.
use Rattle.std.proofs.Common.{◌≡◌, ℕ, ◌<◌, Bool, true, false, not, ◌&&◌, ◌||◌, ◌⊎◌, Decides, sym, ◌∙◌, inl, inr, true≢false, arith}
use Rattle.std.proofs.lemmas.Bool.{cases_Bool, cases_eq, both_ways, and_parts, and_from, not_from_false, not-true, or_cases, or_left, or_right}
use Rattle.rows.specs.Counts.{size}
use Rattle.rows.proofs.Sizes.{Under, size_mono, size_full}
use Rattle.relation.specs.Orders.{Image}
use Rattle.relation.specs.Steps.{Steps, one, more}
use Rattle.relation.proofs.Extending.{steps_join}

-- something is new: there are more
pub new_more : (P Q : ℕ → Bool) → Under P Q → ((k : ℕ) → Q k ≡ true → k < 256) → ¬ ((k : ℕ) → Q k ≡ P k) → size P 256 < size Q 256
new_more P Q u below new = elim (cases_eq (size P 256) (size Q 256)) [
  | inl e ↦ absurd (new (λ k. elim (cases_Bool (Q k)) [
    | inl t ↦ sym (size_full P Q 256 u e k (below k t))
    | inr f ↦ elim (cases_Bool (P k)) [
      | inl p ↦ absurd (true≢false (sym (u k p) ∙ f))
      | inr n ↦ f ∙ sym n
    ]
  ]))
  | inr n ↦ let l = size_mono P Q 256 u in omega arith
]

-- what steps lead to, and what one step more leads to from there, which is new
pub record Reached (R : ℕ → ℕ → Bool) (a : ℕ) (P N : ℕ → Bool) : Type 0 where
  pub first : (b : ℕ) → R a b ≡ true → (P b ≡ true) ⊎ (N b ≡ true)
  pub onward : (x b : ℕ) → P x ≡ true → R x b ≡ true → (P b ≡ true) ⊎ (N b ≡ true)
  pub sound : (b : ℕ) → P b ≡ true → Steps (λ x y. R x y ≡ true) a b
  pub next : (b : ℕ) → N b ≡ true → Steps (λ x y. R x y ≡ true) a b
  pub new : (b : ℕ) → N b ≡ true → P b ≡ false

module _ (R : ℕ → ℕ → Bool) (a : ℕ) where
  pub reached_none : (P N : ℕ → Bool) → ((k : ℕ) → P k ≡ false) → ((k : ℕ) → N k ≡ R a k) → Reached R a P N
  reached_none P N none row = record {
    first = λ b r. inr (row b ∙ r);
    onward = λ x b p. absurd (both_ways (P x) (none x) p);
    sound = λ b p. absurd (both_ways (P b) (none b) p);
    next = λ b n. one (sym (row b) ∙ n);
    new = λ b _. none b;
  }

  module _ (P N Q I M : ℕ → Bool) (v : Reached R a P N) (union : (k : ℕ) → Q k ≡ (P k || N k)) (image : Image R N I) (new : (k : ℕ) → M k ≡ (I k && not (Q k))) where
    either : (b : ℕ) → (P b ≡ true) ⊎ (N b ≡ true) → Q b ≡ true
    either b = elim [ inl p ↦ union b ∙ or_left (P b) (N b) p | inr n ↦ union b ∙ or_right (P b) (N b) n ]

    -- what is in the image is reached, or it is new
    imaged : (b : ℕ) → I b ≡ true → (Q b ≡ true) ⊎ (M b ≡ true)
    imaged b i = elim (cases_Bool (Q b)) [
      | inl q ↦ inl q
      | inr q ↦ inr (new b ∙ and_from (I b) (not (Q b)) i (not_from_false (Q b) q))
    ]

    pub reached_more : Reached R a Q M
    reached_more = record {
      first = λ b r. inl (either b (v.first b r));
      onward = λ x b q r. elim (or_cases (P x) (N x) (sym (union x) ∙ q)) [
        | inl p ↦ inl (either b (v.onward x b p r))
        | inr n ↦ imaged b (image.whole x b n r)
      ];
      sound = λ b q. elim (or_cases (P b) (N b) (sym (union b) ∙ q)) [ inl p ↦ v.sound b p | inr n ↦ v.next b n ];
      next = λ b m. let i = image.sound b (and_parts (I b) (not (Q b)) (sym (new b) ∙ m)).0 in steps_join (v.next i.0 i.1) (one i.2);
      new = λ b m. not-true (Q b) (and_parts (I b) (not (Q b)) (sym (new b) ∙ m)).1;
    }

    -- as something is new, more is reached
    pub reached_grows : ((k : ℕ) → Q k ≡ true → k < 256) → ¬ ((k : ℕ) → N k ≡ false) → size P 256 < size Q 256
    reached_grows below some = new_more P Q (λ k p. either k (inl p)) below (λ same. some (λ k. elim (cases_Bool (N k)) [
      | inl n ↦ absurd (both_ways (P k) (v.new k n) (sym (same k) ∙ either k (inr n)))
      | inr n ↦ n
    ]))

  -- nothing is new: all is reached
  module _ (P N : ℕ → Bool) (v : Reached R a P N) (none : (k : ℕ) → N k ≡ false) where
    old : (b : ℕ) → (P b ≡ true) ⊎ (N b ≡ true) → P b ≡ true
    old b = elim [ inl p ↦ p | inr n ↦ absurd (both_ways (N b) (none b) n) ]

    from : (x b : ℕ) → P x ≡ true → Steps (λ x y. R x y ≡ true) x b → P b ≡ true
    from x b p (one r) = old b (v.onward x b p r)
    from x b p (more {b = y} r s) = from y b (old y (v.onward x y p r)) s

    all : (b : ℕ) → Steps (λ x y. R x y ≡ true) a b → P b ≡ true
    all b (one r) = old b (v.first b r)
    all b (more {b = y} r s) = from y b (old y (v.first y r)) s

    pub reached_all : (b : ℕ) → Decides (P b) (Steps (λ x y. R x y ≡ true) a b)
    reached_all b = (v.sound b, all b)

-- ── One set that grows ──

-- all that one step leads to, and nothing that no steps lead to
pub record Begun (R : ℕ → ℕ → Bool) (a : ℕ) (P : ℕ → Bool) : Type 0 where
  pub first : (b : ℕ) → R a b ≡ true → P b ≡ true
  pub sound : (b : ℕ) → P b ≡ true → Steps (λ x y. R x y ≡ true) a b

module _ (R : ℕ → ℕ → Bool) (a : ℕ) (P I Q : ℕ → Bool) (d : Begun R a P) (image : Image R P I) (union : (k : ℕ) → Q k ≡ (P k || I k)) where
  pub reached_under : Under P Q
  reached_under k h = union k ∙ or_left (P k) (I k) h

  pub reached_on : Begun R a Q
  reached_on = record {
    first = λ b r. reached_under b (d.first b r);
    sound = λ b h. elim (or_cases (P b) (I b) (sym (union b) ∙ h)) [
      | inl p ↦ d.sound b p
      | inr i ↦ let m = image.sound b i in steps_join (d.sound m.0 m.1) (one m.2)
    ];
  }

  -- nothing is new: all is reached
  module _ (same : (k : ℕ) → Q k ≡ P k) where
    onward : (x b : ℕ) → P x ≡ true → Steps (λ x y. R x y ≡ true) x b → P b ≡ true
    onward x b p (one r) = sym (same b) ∙ union b ∙ or_right (P b) (I b) (image.whole x b p r)
    onward x b p (more {b = y} r s) = onward y b (sym (same y) ∙ union y ∙ or_right (P y) (I y) (image.whole x y p r)) s

    every : (b : ℕ) → Steps (λ x y. R x y ≡ true) a b → P b ≡ true
    every b (one r) = d.first b r
    every b (more {b = y} r s) = onward y b (d.first y r) s

    pub begun_all : (b : ℕ) → Decides (P b) (Steps (λ x y. R x y ≡ true) a b)
    begun_all b = (d.sound b, every b)
