-- Cycles: an order has none, a ring is one, and one of a union uses a pair of each part that has none alone.
use Rattle.std.proofs.Common.{◌≡◌, ℕ, zero, suc, ◌+◌, ◌-◌, ◌<◌, Bool, true, ◌⊎◌, List, get_or, sym, refl, subst, subst₂, inl, inr, arith}
use Rattle.relation.specs.Orders.{Ordered, Ring}
use Rattle.relation.specs.Steps.{Steps, one, more, Acyclic, Among, Extension, ExtensionTheorem, UnionTheorem}
use Rattle.relation.proofs.Extending.{steps_join, steps_precede, precedes_irrefl, dec_true, extend}

-- ── Orders by places ──

module _ (R : ℕ → ℕ → Bool) (M : ℕ → Bool) (xs : List ℕ) (n : ℕ) (o : Ordered R M xs n) where
  rises : {a b : ℕ} → Steps (Among M R) a b → (i j : ℕ) → i < n → j < n → get_or xs i 0 ≡ a → get_or xs j 0 ≡ b → i < j
  rises (one r) i j hi hj ei ej = o.keeps i j hi hj (subst₂ (λ x y. R x y ≡ true) (sym ei) (sym ej) r.2)
  rises (more {b = b} r s) i j hi hj ei ej =
      let p = o.every b r.1 in
      let up = o.keeps i p.0 hi p.1 (subst₂ (λ x y. R x y ≡ true) (sym ei) (sym p.2) r.2) in
      let on = rises s p.0 j p.1 hj p.2 ej in
      omega arith

  member_of : {a b : ℕ} → Steps (Among M R) a b → M a ≡ true
  member_of (one r) = r.0
  member_of (more r s) = r.0

  pub ordered_acyclic : Acyclic (Among M R)
  ordered_acyclic a s =
      let p = o.every a (member_of s) in
      let up = rises s p.0 p.0 p.1 p.1 p.2 p.2 in
      omega arith

-- ── Rings ──

module _ (R : ℕ → ℕ → Bool) (M : ℕ → Bool) (xs : List ℕ) (at n : ℕ) (r : Ring R M xs at n) where
  step : (i : ℕ) → i + 1 < n → Among M R (get_or xs (at + i) 0) (get_or xs (at + (i + 1)) 0)
  step i h = (r.inside i (omega arith), r.inside (i + 1) h, r.steps i h)

  reach : (i : ℕ) → i + 1 < n → Steps (Among M R) (get_or xs (at + 0) 0) (get_or xs (at + (i + 1)) 0)
  reach zero h = one (step 0 h)
  reach (suc i) h =
      let e : i + 1 ≡ suc i = omega arith in
      steps_join (reach i (omega arith)) (one (subst (λ k. Among M R (get_or xs (at + k) 0) (get_or xs (at + (suc i + 1)) 0)) (sym e) (step (suc i) h)))

  close : Among M R (get_or xs (at + (n - 1)) 0) (get_or xs (at + 0) 0)
  close = let l = r.long in (r.inside (n - 1) (omega arith), r.inside 0 (omega arith), r.closes)

  around : (m : ℕ) → n ≡ suc m → Steps (Among M R) (get_or xs (at + 0) 0) (get_or xs (at + 0) 0)
  around zero e = one (subst (λ k. Among M R (get_or xs (at + k) 0) (get_or xs (at + 0) 0)) (let z : n - 1 ≡ 0 = omega arith in z) close)
  around (suc m) e =
      let z : n - 1 ≡ m + 1 = omega arith in
      steps_join (reach m (omega arith)) (one (subst (λ k. Among M R (get_or xs (at + k) 0) (get_or xs (at + 0) 0)) z close))

  pub ring_cycle : ¬ Acyclic (Among M R)
  ring_cycle c = let l = r.long in c (get_or xs (at + 0) 0) (around (n - 1) (omega arith))

-- ── Orders as lists ──

dec_among : (M : ℕ → Bool) (R : ℕ → ℕ → Bool) (a b : ℕ) → Dec (Among M R a b)
dec_among M R a b = go (dec_true (M a)) (dec_true (M b)) (dec_true (R a b))
  where
    go : Dec (M a ≡ true) → Dec (M b ≡ true) → Dec (R a b ≡ true) → Dec (Among M R a b)
    go (yes p) (yes q) (yes r) = yes (p, q, r)
    go (no n) q r = no (λ h. n h.0)
    go (yes p) (no n) r = no (λ h. n h.1)
    go (yes p) (yes q) (no n) = no (λ h. n h.2)

pub extension_theorem : ExtensionTheorem
extension_theorem n M R low = (there, back)
  where
    there : Acyclic (Among M R) → (l : List ℕ) × Extension (λ a. M a ≡ true) (Among M R) l
    there c =
        let x = extend (λ a. M a ≡ true) (λ a. dec_true (M a)) n (Among M R) (dec_among M R) c in (
          x.order,
          record {
            lists = record { once = x.lists.once; holds = λ a h. x.lists.holds a (low a h, h); only = λ a h. (x.lists.only a h).1 };
            keeps = λ a b p q r. x.keeps a b (x.lists.holds a (low a p, p)) (x.lists.holds b (low b q, q)) r;
          },
        )

    back : ((l : List ℕ) × Extension (λ a. M a ≡ true) (Among M R) l) → Acyclic (Among M R)
    back e a s = precedes_irrefl e.0 a e.1.lists.once (steps_precede e.0 e.1.lists.once (λ x y r. e.1.keeps x y r.0 r.1 r) s)

-- ── Cycles of a union ──

module _ (R S : ℕ → ℕ → Bool) where
  abbrev Both : ℕ → ℕ → Type 0
  Both x y = (R x y ≡ true) ⊎ (S x y ≡ true)

  -- no step, or some
  abbrev Leads : ℕ → ℕ → Type 0
  Leads a b = (a ≡ b) ⊎ Steps Both a b

  -- steps of the union are steps of R, or use a pair of S
  abbrev Uses : ℕ → ℕ → Type 0
  Uses a b = Steps (λ x y. R x y ≡ true) a b ⊎ ((x y : ℕ) × (S x y ≡ true) × Leads a x × Leads y b)

  uses : {a b : ℕ} → Steps Both a b → Uses a b
  uses (one (inl r)) = inl (one r)
  uses (one {a = a} {b = b} (inr s)) = inr (a, b, s, inl refl, inl refl)
  uses (more {a = a} {b = b} {c = c} (inr s) t) = inr (a, b, s, inl refl, inr t)
  uses (more {a = a} {b = b} {c = c} (inl r) t) = go (uses t)
    where
      go : Uses b c → Uses a c
      go (inl u) = inl (more r u)
      go (inr u) = inr (u.0, u.1, u.2, inr (front u.3), u.4)
        where
          front : Leads b u.0 → Steps Both a u.0
          front (inl e) = one (subst (Both a) e (inl r))
          front (inr s) = more (inl r) s

  leads_join : (a b c : ℕ) → Leads a b → Leads b c → Leads a c
  leads_join a b c (inl e) l = subst (λ z. Leads z c) (sym e) l
  leads_join a b c (inr s) (inl e) = inr (subst (Steps Both a) e s)
  leads_join a b c (inr s) (inr t) = inr (steps_join s t)

pub union_theorem : UnionTheorem
union_theorem R S a c s = go (uses R S s)
  where
    go : Uses R S a a → (x y : ℕ) × (S x y ≡ true) × ((y ≡ x) ⊎ Steps (Both R S) y x)
    go (inl u) = absurd (c a u)
    go (inr u) = (u.0, u.1, u.2, leads_join R S u.1 a u.0 u.4 u.3)
