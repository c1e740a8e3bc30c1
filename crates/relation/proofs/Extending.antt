-- Decisions, and an order that extends a relation without cycles.
use Rattle.std.proofs.Common.{◌≡◌, ℕ, zero, suc, ◌<◌, Bool, true, ◌≢◌, ◌⊎◌, List, [], ◌∷◌, sym, refl, subst, inl, inr, ⊎_elim, arith}
use mathlib.Core.Bool.{Bool-discrete}
use native.Mathlib.Decide.{ℕ_discrete}
use Rattle.relation.specs.Steps.{Holds, Once, Precedes, Lists, Steps, one, more, Acyclic}

-- ── Decisions ──

pub dec_or : {P Q : Type 0} → Dec P → Dec Q → Dec (P ⊎ Q)
dec_or (yes p) e = yes (inl p)
dec_or (no n) (yes q) = yes (inr q)
dec_or (no n) (no m) = no (⊎_elim n m)

pub dec_true : (b : Bool) → Dec (b ≡ true)
dec_true b = Bool-discrete b true

-- is there a number below n with P?
pub dec_below : (P : ℕ → Type 0) → ((a : ℕ) → Dec (P a)) → (n : ℕ) → Dec ((a : ℕ) × (a < n) × P a)
dec_below P d zero = no (λ h. let l : h.0 < 0 = h.1 in omega arith)
dec_below P d (suc k) = here (d k) (dec_below P d k)
  where
    here : Dec (P k) → Dec ((a : ℕ) × (a < k) × P a) → Dec ((a : ℕ) × (a < suc k) × P a)
    here (yes p) e = yes (k, omega arith, p)
    here (no n) (yes h) = yes (h.0, (let l : h.0 < k = h.1 in omega arith), h.2)
    here (no n) (no m) = no (λ h. none h (ℕ_discrete h.0 k))
      where
        none : (h : (a : ℕ) × (a < suc k) × P a) → Dec (h.0 ≡ k) → ⊥
        none h (yes e) = n (subst P e h.2)
        none h (no o) = m (h.0, (let l : h.0 < suc k = h.1 in omega arith), h.2)

-- ── Steps ──

pub steps_join : {R : ℕ → ℕ → Type 0} {a b c : ℕ} → Steps R a b → Steps R b c → Steps R a c
steps_join (one r) t = more r t
steps_join (more r s) t = more r (steps_join s t)

pub steps_wider : {R S : ℕ → ℕ → Type 0} {a b : ℕ} → ((x y : ℕ) → R x y → Steps S x y) → Steps R a b → Steps S a b
steps_wider f (one {a = a} {b = b} r) = f a b r
steps_wider f (more {a = a} {b = b} r s) = steps_join (f a b r) (steps_wider f s)

-- ── Orders ──

pub precedes_left : (l : List ℕ) (a b : ℕ) → Precedes l a b → Holds l a
precedes_left [] a b p = absurd p
precedes_left (x ∷ l) a b (inl p) = inl p.0
precedes_left (x ∷ l) a b (inr p) = inr (precedes_left l a b p)

pub precedes_right : (l : List ℕ) (a b : ℕ) → Precedes l a b → Holds l b
precedes_right [] a b p = absurd p
precedes_right (x ∷ l) a b (inl p) = inr p.1
precedes_right (x ∷ l) a b (inr p) = inr (precedes_right l a b p)

pub precedes_trans : (l : List ℕ) (a b c : ℕ) → Once l → Precedes l a b → Precedes l b c → Precedes l a c
precedes_trans [] a b c o p q = absurd p
precedes_trans (x ∷ l) a b c o (inl p) (inl q) = absurd (o.0 (subst (Holds l) (sym q.0) p.1))
precedes_trans (x ∷ l) a b c o (inl p) (inr q) = inl (p.0, precedes_right l b c q)
precedes_trans (x ∷ l) a b c o (inr p) (inl q) = absurd (o.0 (subst (Holds l) (sym q.0) (precedes_right l a b p)))
precedes_trans (x ∷ l) a b c o (inr p) (inr q) = inr (precedes_trans l a b c o.1 p q)

-- nothing stands before the first
pub first_first : (x : ℕ) (l : List ℕ) (a : ℕ) → Once (x ∷ l) → Precedes (x ∷ l) a x → ⊥
first_first x l a o (inl p) = o.0 p.1
first_first x l a o (inr p) = o.0 (precedes_right l a x p)

pub precedes_irrefl : (l : List ℕ) (a : ℕ) → Once l → Precedes l a a → ⊥
precedes_irrefl [] a o p = p
precedes_irrefl (x ∷ l) a o (inl p) = o.0 (subst (Holds l) (sym p.0) p.1)
precedes_irrefl (x ∷ l) a o (inr p) = precedes_irrefl l a o.1 p

pub precedes_asym : (l : List ℕ) (a b : ℕ) → Once l → Precedes l a b → Precedes l b a → ⊥
precedes_asym l a b o p q = precedes_irrefl l a o (precedes_trans l a b a o p q)

pub steps_precede : {R : ℕ → ℕ → Type 0} (l : List ℕ) {a b : ℕ} → Once l → ((x y : ℕ) → R x y → Precedes l x y) → Steps R a b → Precedes l a b
steps_precede l o f (one {a = a} {b = b} r) = f a b r
steps_precede l o f (more {a = a} {b = b} {c = c} r s) = precedes_trans l a b c o (f a b r) (steps_precede l o f s)

-- two members stand one before the other
pub precedes_either : (l : List ℕ) (a b : ℕ) → Holds l a → Holds l b → a ≢ b → Precedes l a b ⊎ Precedes l b a
precedes_either [] a b h k n = absurd h
precedes_either (x ∷ l) a b (inl e) (inl f) n = absurd (n (omega arith))
precedes_either (x ∷ l) a b (inl e) (inr k) n = inl (inl (e, k))
precedes_either (x ∷ l) a b (inr h) (inl f) n = inr (inl (f, h))
precedes_either (x ∷ l) a b (inr h) (inr k) n = ⊎_elim (λ p. inl (inr p)) (λ p. inr (inr p)) (precedes_either l a b h k n)

-- ── An order that extends a relation ──

-- l with k put in between what R has before k and what it has after k
pub record Placed (R : ℕ → ℕ → Type 0) (k : ℕ) (l m : List ℕ) : Type 0 where
  pub onto : (a : ℕ) → Holds m a → (a ≡ k) ⊎ Holds l a
  pub has : Holds m k
  pub holds : (a : ℕ) → Holds l a → Holds m a
  pub keeps : (a b : ℕ) → Precedes l a b → Precedes m a b
  pub before : (b : ℕ) → Holds l b → R k b → Precedes m k b
  pub after : (a : ℕ) → Holds l a → R a k → Precedes m a k
  pub once : Once m

abbrev Fits : (ℕ → ℕ → Type 0) → ℕ → List ℕ → Type 0
Fits R k l = (a s : ℕ) → Holds l a → Holds l s → R a k → R k s → Precedes l a s

module _ (R : ℕ → ℕ → Type 0) (d : (a b : ℕ) → Dec (R a b)) (k : ℕ) where
  in_front : (s : ℕ) (l : List ℕ) → R k s → Once (s ∷ l) → (¬ Holds (s ∷ l) k) → Fits R k (s ∷ l) → Placed R k (s ∷ l) (k ∷ s ∷ l)
  in_front s l r o n f = record {
    onto = λ a h. ⊎_elim (λ e. inl (sym e)) inr h;
    has = inl refl;
    holds = λ a h. inr h;
    keeps = λ a b p. inr p;
    before = λ b h q. inl (refl, h);
    after = λ a h q. absurd (first_first s l a o (f a s h (inl refl) q r));
    once = (n, o);
  }

  behind : (s : ℕ) (l m : List ℕ) → (¬ R k s) → Once (s ∷ l) → (¬ Holds (s ∷ l) k) → Placed R k l m → Placed R k (s ∷ l) (s ∷ m)
  behind s l m r o n p = record {
    onto = λ a h. ⊎_elim (λ e. inr (inl e)) (λ g. ⊎_elim inl (λ z. inr (inr z)) (p.onto a g)) h;
    has = inr p.has;
    holds = λ a h. ⊎_elim inl (λ g. inr (p.holds a g)) h;
    keeps = λ a b h. ⊎_elim (λ g. inl (g.0, p.holds b g.1)) (λ g. inr (p.keeps a b g)) h;
    before = λ b h q. ⊎_elim (λ e. absurd (r (subst (R k) (sym e) q))) (λ g. inr (p.before b g q)) h;
    after = λ a h q. ⊎_elim (λ e. inl (e, p.has)) (λ g. inr (p.after a g q)) h;
    once = (λ h. ⊎_elim (λ e. n (inl e)) o.0 (p.onto s h), p.once);
  }

  place : (l : List ℕ) → Once l → (¬ Holds l k) → Fits R k l → (m : List ℕ) × Placed R k l m
  place [] o n f = (
    k ∷ [],
    record {
      onto = λ a h. ⊎_elim (λ e. inl (sym e)) absurd h;
      has = inl refl;
      holds = λ a h. absurd h;
      keeps = λ a b p. absurd p;
      before = λ b h q. absurd h;
      after = λ a h q. absurd h;
      once = (λ h. h, tt);
    },
  )
  place (s ∷ l) o n f = go (d k s) (place l o.1 (λ h. n (inr h)) fits)
    where
      fits : Fits R k l
      fits a t h g q r = ⊎_elim (λ e. absurd (o.0 (subst (Holds l) (sym e.0) h))) (λ p. p) (f a t (inr h) (inr g) q r)

      go : Dec (R k s) → ((m : List ℕ) × Placed R k l m) → (m : List ℕ) × Placed R k (s ∷ l) m
      go (yes r) p = (k ∷ s ∷ l, in_front s l r o n f)
      go (no r) p = (s ∷ p.0, behind s l p.0 r o n p.1)

pub record Extended (n : ℕ) (P : ℕ → Type 0) (R : ℕ → ℕ → Type 0) : Type 0 where
  pub order : List ℕ
  pub lists : Lists (λ a. (a < n) × P a) order
  pub keeps : (a b : ℕ) → Holds order a → Holds order b → R a b → Precedes order a b

abbrev Around : (ℕ → ℕ → Type 0) → ℕ → ℕ → ℕ → Type 0
Around R k a b = R a b ⊎ (R a k × R k b)

module _ (P : ℕ → Type 0) (m : (a : ℕ) → Dec (P a)) where
  -- the number k is not listed
  skip : (k : ℕ) (R : ℕ → ℕ → Type 0) → (¬ P k) → Extended k P R → Extended (suc k) P R
  skip k R n x = record {
    order = x.order;
    lists = record {
      once = x.lists.once;
      holds = λ a h. x.lists.holds a (below a h (ℕ_discrete a k), h.1);
      only = λ a h. let g = x.lists.only a h in ((let l : a < k = g.0 in omega arith), g.1);
    };
    keeps = x.keeps;
  }
    where
      below : (a : ℕ) → ((a < suc k) × P a) → Dec (a ≡ k) → a < k
      below a h (yes e) = absurd (n (subst P e h.1))
      below a h (no o) = let l : a < suc k = h.0 in omega arith

  put : (k : ℕ) (R : ℕ → ℕ → Type 0) → P k → Acyclic R → (x : Extended k P (Around R k)) → (m : List ℕ) → Placed R k x.order m → Extended (suc k) P R
  put k R here c x m p = record {
    order = m;
    lists = record {
      once = p.once;
      holds = λ a h. held a h (ℕ_discrete a k);
      only = λ a h. ⊎_elim (λ e. (omega arith, subst P (sym e) here)) (λ g. let z = x.lists.only a g in ((let l : a < k = z.0 in omega arith), z.1)) (p.onto a h);
    };
    keeps = λ a b h g r. ordered a b r (p.onto a h) (p.onto b g);
  }
    where
      held : (a : ℕ) → ((a < suc k) × P a) → Dec (a ≡ k) → Holds m a
      held a h (yes e) = subst (Holds m) (sym e) p.has
      held a h (no o) = p.holds a (x.lists.holds a ((let l : a < suc k = h.0 in omega arith), h.1))

      ordered : (a b : ℕ) → R a b → (a ≡ k) ⊎ Holds x.order a → (b ≡ k) ⊎ Holds x.order b → Precedes m a b
      ordered a b r (inl e) (inl f) = absurd (c k (one (subst (λ z. R z k) e (subst (R a) f r))))
      ordered a b r (inl e) (inr g) = subst (λ z. Precedes m z b) (sym e) (p.before b g (subst (λ z. R z b) e r))
      ordered a b r (inr h) (inl f) = subst (Precedes m a) (sym f) (p.after a h (subst (R a) f r))
      ordered a b r (inr h) (inr g) = p.keeps a b (x.keeps a b h g (inl r))

  dec_around : (R : ℕ → ℕ → Type 0) → ((a b : ℕ) → Dec (R a b)) → (k a b : ℕ) → Dec (Around R k a b)
  dec_around R d k a b = dec_or (d a b) (dec_both (d a k) (d k b))
    where
      dec_both : {A B : Type 0} → Dec A → Dec B → Dec (A × B)
      dec_both (yes p) (yes q) = yes (p, q)
      dec_both (yes p) (no n) = no (λ z. n z.1)
      dec_both (no n) e = no (λ z. n z.0)

  around_acyclic : (R : ℕ → ℕ → Type 0) (k : ℕ) → Acyclic R → Acyclic (Around R k)
  around_acyclic R k c a s = c a (steps_wider (λ x y. ⊎_elim one (λ z. more z.0 (one z.1))) s)

  -- an order of the numbers below n with P that keeps R
  pub extend : (n : ℕ) (R : ℕ → ℕ → Type 0) → ((a b : ℕ) → Dec (R a b)) → Acyclic R → Extended n P R
  extend zero R d c = record {
    order = [];
    lists = record { once = tt; holds = λ a h. (let l : a < 0 = h.0 in omega arith); only = λ a h. absurd h };
    keeps = λ a b h g r. absurd h;
  }
  extend (suc k) R d c = go (m k) (extend k R d c) (extend k (Around R k) (dec_around R d k) (around_acyclic R k c))
    where
      go : Dec (P k) → Extended k P R → Extended k P (Around R k) → Extended (suc k) P R
      go (no n) x y = skip k R n x
      go (yes h) x y = put k R h c y spot.0 spot.1
        where
          spot : (m : List ℕ) × Placed R k y.order m
          spot =
              place R d k y.order y.lists.once
              (λ z. let g = y.lists.only k z in let l : k < k = g.0 in omega arith)
              (λ a s p q r t. y.keeps a s p q (inr (r, t)))
