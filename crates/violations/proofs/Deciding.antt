-- A recording is explained, with an order for each read or with one for all, exactly when there is no violation.
use Rattle.std.proofs.Common.{◌≡◌, ℕ, ◌<◌, ◌≢◌, ◌⊎◌, List, length, sym, refl, ◌∙◌, subst, inl, inr, ⊎_elim, arith}
use native.Mathlib.Decide.{ℕ_discrete}
use Rattle.recording.specs.declared.operation.Operation.{Operation}
use Rattle.recording.specs.Lawful.{Apart}
use Rattle.recording.specs.Operations.{at, IsWrite, IsRead, SourceOf}
use Rattle.relation.specs.Steps.{Once, Precedes, Lists, Steps, one, more, Acyclic}
use Rattle.relation.proofs.Extending.{dec_or, steps_join, steps_wider, steps_precede, precedes_asym, precedes_irrefl, Extended, extend}
use Rattle.visibility.specs.Growth.{Rel, Inside}
use Rattle.visibility.specs.Visible.{IsLeast}
use Rattle.violations.specs.Explained.{Demand, Valid, In, SeesOf, ReadsLast, Reads, Writes, Ordering, Visibility, LawfulFor, OwnExplains, SharedExplains}
use Rattle.violations.specs.Violations.{ThinAir, InitialRead, Rival, BadRead, Conflict, Arbitration, OwnClean, SharedClean}
use Rattle.violations.proofs.Decisions.{find_source, dec_writes, dec_rival, dec_write}

-- ── Sources ──

-- a read has one source
pub one_source : (ops : List Operation) → Apart ops → (a b r : ℕ) → SourceOf ops a r → SourceOf ops b r → a ≡ b
one_source ops apart a b r s t =
    apart a b (record { first = s.gives.is_write; second = t.gives.is_write; register = s.gives.register ∙ sym t.gives.register; value = s.gives.value ∙ sym t.gives.value })

-- ── What is seen ──

-- what is seen by one relation, seen by another
pub sees_by : {ops : List Operation} {R S : ℕ → ℕ → Type 0} {r w : ℕ} → SeesOf ops R r w → S w r → SeesOf ops S r w
sees_by s h = record { is_write = s.is_write; register = s.register; seen = h }

pub sees_source : {ops : List Operation} {R : ℕ → ℕ → Type 0} {r w : ℕ} → SourceOf ops w r → R w r → SeesOf ops R r w
sees_source s h = record { is_write = s.gives.is_write; register = s.gives.register; seen = h }

-- the write that explains a read gives it its value
last_gives : {ops : List Operation} {R : ℕ → ℕ → Type 0} {o : List ℕ} {r : ℕ} → IsRead ops r → (g : ReadsLast ops R o r) → SourceOf ops g.last r
last_gives h g = record { is_read = h; gives = record { is_write = g.sees.is_write; register = g.sees.register; value = g.value } }

-- a list of the numbers below n with P, where all with P are below n
pub lists_all : {P : ℕ → Type 0} {n : ℕ} {o : List ℕ} → ((a : ℕ) → P a → a < n) → Lists (λ a. (a < n) × P a) o → Lists P o
lists_all i l = record { once = l.once; holds = λ a h. l.holds a (i a h, h); only = λ a h. (l.only a h).1 }

-- ── An explained recording has no violation ──

module _ (ops : List Operation) (valid : Valid ops) where
  module _ (R : ℕ → ℕ → Type 0) (o : List ℕ) where
    -- the write that explains a read is its source
    pub last_is_source : (w r : ℕ) (g : ReadsLast ops R o r) → SourceOf ops w r → g.last ≡ w
    last_is_source w r g s = one_source ops valid.apart g.last w r (last_gives s.is_read g) s

    -- a read that has a source does not read 0
    pub source_nonzero : (w r : ℕ) → SourceOf ops w r → (at ops r).value ≢ 0
    source_nonzero w r s z = let h = valid.nonzero w s.gives.is_write in omega (arith, s.gives.value)

    pub reads_source : (w r : ℕ) → Reads ops R o r → SourceOf ops w r → R w r
    reads_source w r (inl z) s = absurd (source_nonzero w r s z.value)
    reads_source w r (inr g) s = subst (λ x. R x r) (last_is_source w r g s) g.sees.seen

    pub reads_order : (x w r : ℕ) → Reads ops R o r → SourceOf ops w r → SeesOf ops R r x → x ≢ w → Precedes o x w
    reads_order x w r (inl z) s h n = absurd (source_nonzero w r s z.value)
    reads_order x w r (inr g) s h n = let e = last_is_source w r g s in subst (Precedes o x) e (g.others x h (λ q. n (q ∙ e)))

    pub reads_air : (r : ℕ) → Reads ops R o r → ¬ ThinAir ops r
    reads_air r (inl z) t = t.other z.value
    reads_air r (inr g) t = t.unwritten g.last (last_gives t.is_read g)

    pub reads_init : (w r : ℕ) → Reads ops R o r → (at ops r).value ≡ 0 → ¬ SeesOf ops R r w
    reads_init w r (inl z) e s = z.none w s
    reads_init w r (inr g) e s = g.other e

  wider_sees : (u v : Rel) (r w : ℕ) → Inside u v → SeesOf ops (In u) r w → SeesOf ops (In v) r w
  wider_sees u v r w i s = sees_by s (i w r s.seen)

  wider_writes : (u v : Rel) → Inside u v → (a b : ℕ) → Writes ops u a b → Writes ops v a b
  wider_writes u v i a b h = (h.0, h.1, i a b h.2)

  module _ (D : Demand) (V : Rel) (L : IsLeast D ops V) where
    module _ (v : Rel) (e : OwnExplains D ops v) where
      within_own : Inside V v
      within_own = L.least v (λ w r s. let x = e.orders r s.is_read in reads_source (In v) x.0 w r x.1.reads s) e.visibility.closed

      pub own_clean : OwnClean ops V
      own_clean = record {
        thinair = λ r t. let x = e.orders r t.is_read in reads_air (In v) x.0 r x.1.reads t;
        badvisibility = λ a s. e.visibility.acyclic a (steps_wider (λ x y h. one (within_own x y h)) s);
        badinitread = λ r w t. let x = e.orders r t.initial_read.is_read in reads_init (In v) x.0 w r x.1.reads t.initial_read.value (wider_sees V v r w within_own t.sees);
        badread = λ r w x t. late r w x t (e.orders r t.rival.source.is_read);
      }
        where
          late : (r w x : ℕ) → BadRead ops V r w x → ((o : List ℕ) × LawfulFor ops v r o) → ⊥
          late r w x t y =
              let o = y.1.ordering in
              precedes_asym y.0 x w o.all.once (reads_order (In v) y.0 x w r y.1.reads t.rival.source (wider_sees V v r x within_own t.rival.sees) t.rival.other)
              (steps_precede y.0 o.all.once (λ a b h. o.keeps a b (wider_writes V v within_own a b h)) t.steps)

    module _ (v : Rel) (o : List ℕ) (e : SharedExplains D ops v o) where
      shared_own : OwnExplains D ops v
      shared_own = record { visibility = e.visibility; orders = λ r h. (o, record { ordering = e.lawful.ordering; reads = e.lawful.reads r h }) }

      pub shared_clean : SharedClean ops V
      shared_clean = record { own = own_clean v shared_own; badarb = λ a s. precedes_irrefl o a once (steps_precede o once step s) }
        where
          once : Once o
          once = e.lawful.ordering.all.once

          i : Inside V v
          i = within_own v shared_own

          step : (a b : ℕ) → Arbitration ops V a b → Precedes o a b
          step a b (inl h) = e.lawful.ordering.keeps a b (wider_writes V v i a b h)
          step a b (inr c) =
              let q = c.1 in reads_order (In v) o a b c.0 (e.lawful.reads c.0 q.source.is_read) q.source (wider_sees V v c.0 a i q.sees) q.other

-- ── A recording without violations is explained ──

-- the steps of R, and a step to w from each number in X
abbrev Toward : (ℕ → ℕ → Type 0) → (ℕ → Type 0) → ℕ → ℕ → ℕ → Type 0
Toward R X w a b = R a b ⊎ ((b ≡ w) × X a)

-- a cycle that is not of R alone gives a way of R from w into X
module _ (R : ℕ → ℕ → Type 0) (X : ℕ → Type 0) (w : ℕ) where
  -- up to the first step to w
  turn : {a b : ℕ} → Steps (Toward R X w) a b → Steps R a b ⊎ ((x : ℕ) × X x × ((a ≡ x) ⊎ Steps R a x) × ((w ≡ b) ⊎ Steps (Toward R X w) w b))
  turn (one (inl r)) = inl (one r)
  turn (one {a = a} (inr t)) = inr (a, t.1, inl refl, inl (sym t.0))
  turn (more (inl r) s) = ⊎_elim (λ q. inl (more r q)) (λ q. inr (q.0, q.1, inr (⊎_elim (λ e. subst (Steps R _) e (one r)) (λ p. more r p) q.2), q.3)) (turn s)
  turn (more {a = a} {c = c} (inr t) s) = inr (a, t.1, inl refl, inr (subst (λ z. Steps (Toward R X w) z c) t.0 s))

  module _ (apart : ¬ X w) (c : Acyclic R) (none : (x : ℕ) → X x → ¬ Steps R w x) where
    reach : (x : ℕ) → X x → ((w ≡ x) ⊎ Steps R w x) → ⊥
    reach x h (inl e) = apart (subst X (sym e) h)
    reach x h (inr s) = none x h s

    from : {b : ℕ} → Steps (Toward R X w) w b → Steps R w b
    from s = ⊎_elim (λ q. q) (λ q. absurd (reach q.0 q.1 q.2)) (turn s)

    toward_acyclic : Acyclic (Toward R X w)
    toward_acyclic a s = ⊎_elim (c a) (λ q. back q.0 q.1 q.2 q.3) (turn s)
      where
        back : (x : ℕ) → X x → ((a ≡ x) ⊎ Steps R a x) → ((w ≡ a) ⊎ Steps (Toward R X w) w a) → ⊥
        back x h g (inl e) = reach x h (subst (λ z. (z ≡ x) ⊎ Steps R z x) (sym e) g)
        back x h (inl e) (inr t) = none x h (subst (Steps R w) e (from t))
        back x h (inr p) (inr t) = none x h (steps_join (from t) p)

module _ (ops : List Operation) (valid : Valid ops) (V : Rel) (c : OwnClean ops V) where
  writes_acyclic : Acyclic (Writes ops V)
  writes_acyclic a s = c.badvisibility a (steps_wider (λ x y h. one h.2) s)

  -- V between writes, and what has to come before r's source for its sake
  abbrev pub Forced : ℕ → ℕ → ℕ → Type 0
  Forced r a b = Writes ops V a b ⊎ Rival ops V r b a

  pub forced_acyclic : (r : ℕ) → Acyclic (Forced r)
  forced_acyclic r a s = go (find_source ops r)
    where
      go : Dec ((w : ℕ) × SourceOf ops w r) → ⊥
      go (no n) = writes_acyclic a (steps_wider (λ x y. ⊎_elim one (λ k. absurd (n (y, k.source)))) s)
      go (yes z) =
          let w = z.0 in
          toward_acyclic (Writes ops V) (Rival ops V r w) w (λ k. k.other refl) writes_acyclic (λ x k t. c.badread r w x (record { rival = k; steps = t })) a
          (steps_wider (λ x y. ⊎_elim (λ h. one (inl h)) (λ k. let e = one_source ops valid.apart y w r k.source z.1 in one (inr (e, subst (λ q. Rival ops V r q x) e k)))) s)

  -- a read has a source, or reads its register's first value
  read_cases : (r : ℕ) → IsRead ops r → ((w : ℕ) × SourceOf ops w r) ⊎ InitialRead ops r
  read_cases r h = go (find_source ops r) (ℕ_discrete (at ops r).value 0)
    where
      go : Dec ((w : ℕ) × SourceOf ops w r) → Dec ((at ops r).value ≡ 0) → ((w : ℕ) × SourceOf ops w r) ⊎ InitialRead ops r
      go (yes s) d = inl s
      go (no n) (yes z) = inr (record { is_read = h; value = z })
      go (no n) (no z) = absurd (c.thinair r (record { is_read = h; other = z; unwritten = λ w s. n (w, s) }))

module _ (ops : List Operation) (valid : Valid ops) (D : Demand) (V : Rel) (L : IsLeast D ops V) (c : OwnClean ops V) where
  sound : Visibility D ops V
  sound = record { within = L.within; acyclic = c.badvisibility; closed = L.closed }

  -- an order that keeps this is lawful for r
  pub lawful_read : (o : List ℕ) (r : ℕ) → IsRead ops r → Ordering ops V o → ((w x : ℕ) → Rival ops V r w x → Precedes o x w) → LawfulFor ops V r o
  lawful_read o r h g f = record { ordering = g; reads = go (read_cases ops valid V c r h) }
    where
      go : ((w : ℕ) × SourceOf ops w r) ⊎ InitialRead ops r → Reads ops (In V) o r
      go (inr i) = inl (record { value = i.value; none = λ w s. c.badinitread r w (record { initial_read = i; sees = s }) })
      go (inl s) = inr (record {
        other = source_nonzero ops valid (In V) o s.0 r s.1;
        last = s.0;
        sees = sees_source s.1 (L.sources s.0 r s.1);
        value = s.1.gives.value;
        others = λ x k n. f s.0 x (record { source = s.1; sees = k; other = n });
      })

  pub own_explains : OwnExplains D ops V
  own_explains = record { visibility = sound; orders = λ r h. explain r h (extend (IsWrite ops) (dec_write ops) (length ops) (Forced ops valid V c r) (λ a b. dec_or (dec_writes ops V a b) (dec_rival ops V r b a)) (forced_acyclic ops valid V c r)) }
    where
      explain : (r : ℕ) → IsRead ops r → Extended (length ops) (IsWrite ops) (Forced ops valid V c r) → (o : List ℕ) × LawfulFor ops V r o
      explain r h x = (
        x.order,
        lawful_read x.order r h (record { all = all; keeps = λ a b k. x.keeps a b (all.holds a k.0) (all.holds b k.1) (inl k) }) (λ w y k. x.keeps y w (all.holds y k.sees.is_write) (all.holds w k.source.gives.is_write) (inr k)),
      )
        where
          all : Lists (IsWrite ops) x.order
          all = lists_all (λ a k. k.inside) x.lists

  -- one order that keeps all of this is lawful for every read
  pub shared_explains : (o : List ℕ) → Ordering ops V o → ((x w : ℕ) → Conflict ops V x w → Precedes o x w) → SharedExplains D ops V o
  shared_explains o g f = record { visibility = sound; lawful = record { ordering = g; reads = λ r h. (lawful_read o r h g (λ w x k. f x w (r, k))).reads } }
