-- A recording is explained by sessions exactly when there is no violation.
use Rattle.std.proofs.Common.{◌≡◌, ℕ, zero, suc, ◌+◌, ◌<◌, ◌≤◌, true, not, ◌&&◌, ◌||◌, ltb, ◌≢◌, ◌⊎◌, Decides, List, [], ◌∷◌, map, length, sym, refl, ap, ◌∙◌, subst, inl, inr, ⊎_elim, arith}
use mathlib.Core.Logic.Dec
use mathlib.Core.Bool.{decide, decide_iff}
use native.Mathlib.Decide.{ℕ_discrete, dec_lt}
use Rattle.std.proofs.lemmas.List.{length-map, get_or-map}
use Rattle.std.proofs.lemmas.Bool.Decides.{Decides-and, Decides-or, Decides-not}
use Rattle.std.proofs.lemmas.Bool.{and_from, cases_order, lt-ltb, eq-eqb}
use Rattle.recording.specs.declared.operation.Operation.{Operation}
use Rattle.recording.specs.Operations.{at, write_of, IsRead, SourceOf}
use Rattle.relation.specs.Steps.{Holds, Precedes, Lists, Steps, one, more, Acyclic}
use Rattle.relation.proofs.Extending.{dec_true, dec_or, dec_below, precedes_left, precedes_right, precedes_trans, precedes_asym, precedes_irrefl, extend}
use Rattle.visibility.proofs.Stations.{before_below, before_first}
use Rattle.visibility.specs.Growth.{Rel, Inside}
use Rattle.visibility.specs.Shapes.{shape, shape_at, no_shape, before}
use Rattle.visibility.specs.Visible.{Asked, CausalDemand, IsLeast}
use Rattle.violations.specs.Explained.{Valid, In, Reads, Writes}
use Rattle.violations.specs.Violations.{Rival, BadRead, OwnClean}
use Rattle.violations.proofs.Deciding.{sees_by, sees_source, lists_all, reads_source, reads_order, reads_air, reads_init}
use Rattle.violations.proofs.Decisions.{dec_read, find_source}
use Rattle.sessions.specs.Listings.{Transitive, CausalOrder, Past, StationRead, Listing, SessionExplains}
use Rattle.sessions.specs.Happening.{Last, Happens, HappensBefore, HbInitRead, CyclicHb}

-- ── Station order ──

module _ (ops : List Operation) where
  shape_length : length (map shape ops) ≡ length ops
  shape_length = length-map ops shape

  station_at : (a : ℕ) → a < length ops → (shape_at (map shape ops) a).station ≡ (at ops a).station
  station_at a h = ap (λ s. s.station) (get_or-map shape ops a (write_of 0 0 0) no_shape h)

  pub station_before : (a b : ℕ) → a < b → b < length ops → (at ops a).station ≡ (at ops b).station → before (map shape ops) a b ≡ true
  station_before a b l h s =
      let n = shape_length in
      and_from (ltb a b) _ (lt-ltb a b l)
      (and_from (ltb b (length (map shape ops))) _ (lt-ltb b (length (map shape ops)) (omega arith)) (eq-eqb _ _ (station_at a (omega arith) ∙ s ∙ sym (station_at b h))))

  -- no read of a station is after its last operation
  up_to_last : (o r : ℕ) → Last ops o → StationRead ops o r → r ≤ o
  up_to_last o r last h = go (dec_lt o r)
    where
      go : Dec (o < r) → r ≤ o
      go (yes q) = absurd (last.end r q h.is_read.inside h.station)
      go (no q) = omega arith

-- ── Decisions ──

dec_holds : (l : List ℕ) (a : ℕ) → Dec (Holds l a)
dec_holds [] a = no (λ h. h)
dec_holds (x ∷ l) a = dec_or (ℕ_discrete x a) (dec_holds l a)

dec_precedes : (l : List ℕ) (a b : ℕ) → Dec (Precedes l a b)
dec_precedes [] a b = no (λ h. h)
dec_precedes (x ∷ l) a b = dec_or (Dec.and (ℕ_discrete x a) (dec_holds l b)) (dec_precedes l a b)

-- ── An explained recording has no violation ──

-- the order of a listing, as a relation
abbrev placed : List ℕ → Rel
placed l a b = decide (dec_precedes l a b)

module _ (ops : List Operation) (valid : Valid ops) (V : Rel) (L : IsLeast CausalDemand ops V) (co : Rel) (e : SessionExplains ops co) where
  co_closed : (a b : ℕ) → Asked CausalDemand (map shape ops) co a b → In co a b
  co_closed a b q = ⊎_elim (e.order.stations a b) (λ s. e.order.transitive a s.0 b s.1 s.2) q.demanded

  own_reads : (r : ℕ) → IsRead ops r → (l : List ℕ) → Listing ops co r l → Reads ops (Precedes l) l r
  own_reads r h l x = x.reads r (record { is_read = h; station = refl }) (omega arith)

  co_sources : (w r : ℕ) → SourceOf ops w r → In co w r
  co_sources w r s = go (e.listings r s.is_read.inside)
    where
      go : ((l : List ℕ) × Listing ops co r l) → In co w r
      go x =
          let p : Precedes x.0 w r = reads_source ops valid (Precedes x.0) x.0 w r (own_reads r s.is_read x.0 x.1) s in
          ⊎_elim (λ q. absurd (precedes_irrefl x.0 r x.1.lists.once (subst (λ z. Precedes x.0 z r) q p))) (λ q. q) (x.1.lists.only w (precedes_left x.0 w r p))

  pub within_co : Inside V co
  within_co = L.least co co_sources co_closed

  -- what is seen stands before, in the listing of who sees it
  stands : (r x : ℕ) (l : List ℕ) → Listing ops co r l → In co x r → Precedes l x r
  stands r x l k h = k.keeps x r (inr h) (inl refl) h

  steps_co : {a b : ℕ} → Steps (In V) a b → In co a b
  steps_co (one {a = a} {b = b} h) = within_co a b h
  steps_co (more {a = a} {b = b} {c = c} h s) = e.order.transitive a b c (within_co a b h) (steps_co s)

  writes_co : {a b : ℕ} → Steps (Writes ops V) a b → In co a b
  writes_co (one {a = a} {b = b} h) = within_co a b h.2
  writes_co (more {a = a} {b = b} {c = c} h s) = e.order.transitive a b c (within_co a b h.2) (writes_co s)

  pub session_own_clean : OwnClean ops V
  session_own_clean = record {
    thinair = λ r t. let x = e.listings r t.is_read.inside in reads_air ops valid (Precedes x.0) x.0 r (own_reads r t.is_read x.0 x.1) t;
    badvisibility = λ a s. e.order.irreflexive a (steps_co s);
    badinitread = λ r w t.
        let x = e.listings r t.initial_read.is_read.inside in
        reads_init ops valid (Precedes x.0) x.0 w r (own_reads r t.initial_read.is_read x.0 x.1) t.initial_read.value
        (sees_by t.sees (stands r w x.0 x.1 (within_co w r t.sees.seen)));
    badread = λ r w x t. late r w x t (e.listings r t.rival.source.is_read.inside);
  }
    where
      late : (r w x : ℕ) → BadRead ops V r w x → ((l : List ℕ) × Listing ops co r l) → ⊥
      late r w x t z =
          let seen = within_co x r t.rival.sees.seen in
          precedes_asym z.0 x w z.1.lists.once
          (reads_order ops valid (Precedes z.0) z.0 x w r (own_reads r t.rival.source.is_read z.0 z.1) t.rival.source
          (sees_by t.rival.sees (stands r x z.0 z.1 seen)) t.rival.other)
          (z.1.keeps w x (inr (co_sources w r t.rival.source)) (inr seen) (writes_co t.steps))

  module _ (o : ℕ) (last : Last ops o) (l : List ℕ) (x : Listing ops co o l) where
    -- each read of the station has its value by the last operation's listing
    gives : (r : ℕ) → StationRead ops o r → Reads ops (Precedes l) l r
    gives r h = x.reads r h (up_to_last ops o r last h)

    -- what stands before a read stands before its source
    rival_order : (u : Rel) (r w y : ℕ) → StationRead ops o r → Rival ops u r w y → Precedes l y r → Precedes l y w
    rival_order u r w y k v p = reads_order ops valid (Precedes l) l y w r (gives r k) v.source (sees_by v.sees p) v.other

    to : (a b : ℕ) → In (placed l) a b → Precedes l a b
    to a b = (decide_iff (dec_precedes l a b)).0

    of : (a b : ℕ) → Precedes l a b → In (placed l) a b
    of a b = (decide_iff (dec_precedes l a b)).1

    past_co : (a : ℕ) → Past V o a → Past co o a
    past_co a h = ⊎_elim inl (λ q. inr (within_co a o q)) h

    placed_happens : Happens ops V o (placed l)
    placed_happens = record {
      transitive = λ a b c h k. of a c (precedes_trans l a b c x.lists.once (to a b h) (to b c k));
      past = λ a b h k v. of a b (x.keeps a b (past_co a h) (past_co b k) (within_co a b v));
      derived = λ r w y k v. of y w (rival_order (placed l) r w y k v (to y r v.sees.seen));
    }

    module _ (H : Rel) (I : HappensBefore ops V o H) where
      ordered : (a b : ℕ) → In H a b → Precedes l a b
      ordered a b h = to a b (I.least (placed l) placed_happens a b h)

      pub no_init : (r y : ℕ) → ¬ HbInitRead ops o H r y
      no_init r y t = reads_init ops valid (Precedes l) l y r (gives r t.own) t.value (sees_by t.sees (ordered y r t.sees.seen))

      pub no_cyclic : (r w y : ℕ) → ¬ CyclicHb ops o H r w y
      no_cyclic r w y t = precedes_asym l y w x.lists.once (rival_order H r w y t.own t.rival (ordered y r t.rival.sees.seen)) (ordered w y t.after)

-- ── A recording without violations is explained ──

-- the last operation of o's station
module _ (ops : List Operation) where
  abbrev EndOf : ℕ → Type 0
  EndOf o = (z : ℕ) × Last ops z × ((at ops o).station ≡ (at ops z).station) × (o ≤ z)

  find_end : (k o : ℕ) → o < length ops → length ops ≤ k + o → EndOf o
  find_end zero o h g = absurd (omega arith)
  find_end (suc k) o h g = go (dec_below Later (λ b. Dec.and (dec_lt o b) (ℕ_discrete (at ops b).station (at ops o).station)) (length ops)) (λ b i j. find_end k b i j)
    where
      Later : ℕ → Type 0
      Later b = (o < b) × ((at ops b).station ≡ (at ops o).station)

      go : Dec ((b : ℕ) × (b < length ops) × Later b) → ((b : ℕ) → b < length ops → length ops ≤ k + b → EndOf b) → EndOf o
      go (no n) next = (o, record { inside = h; end = λ b q i s. n (b, i, (q, s)) }, refl, omega arith)
      go (yes t) next =
          let l : o < t.0 = t.2.0 in
          let z = next t.0 t.1 (omega arith) in
          (z.0, z.1, sym t.2.1 ∙ z.2, omega (arith, z.3))

module _ (ops : List Operation) (V : Rel) (L : IsLeast CausalDemand ops V) (own : OwnClean ops V) where
  trans : Transitive V
  trans a b c h k =
      let n = shape_length ops in
      let p = L.within a b h in
      let q = L.within b c k in
      L.closed a c (record { first = omega (arith, p.0); second = omega (arith, q.1); demanded = inr (b, h, k) })

  irrefl : (a : ℕ) → ¬ In V a a
  irrefl a h = own.badvisibility a (one h)

  station : (a b : ℕ) → before (map shape ops) a b ≡ true → In V a b
  station a b h =
      let below = before_below (map shape ops) a b h in
      let first = before_first (map shape ops) a b h in
      L.closed a b (record { first = omega arith; second = below; demanded = inl h })

  pub causal_order : CausalOrder ops V
  causal_order = record { within = L.within; transitive = trans; irreflexive = irrefl; stations = station }

  past_trans : (o z a : ℕ) → Past V z o → Past V o a → Past V z a
  past_trans o z a h (inl q) = subst (Past V z) (sym q) h
  past_trans o z a (inl p) (inr q) = inr (subst (In V a) p q)
  past_trans o z a (inr p) (inr q) = inr (trans a o z q p)

  -- an earlier operation of o's station is in o's past
  station_past : (o a : ℕ) → o < length ops → a ≤ o → (at ops a).station ≡ (at ops o).station → Past V o a
  station_past o a h g s = go (dec_lt a o)
    where
      go : Dec (a < o) → Past V o a
      go (yes q) = inr (station a o (station_before ops a o q h s))
      go (no q) = inl (omega arith)

  module _ (z : ℕ) (last : Last ops z) (H : Rel) (I : HappensBefore ops V z H) (cyclic : (r w x : ℕ) → ¬ CyclicHb ops z H r w x) where
    -- what H holds and does not hold the other way round, or V holds
    abbrev strict : Rel
    strict a b = H a b && (V a b || not (H b a))

    strict_decides : (a b : ℕ) → Decides (strict a b) (In H a b × (In V a b ⊎ (¬ In H b a)))
    strict_decides a b =
        let one : Decides (V a b || not (H b a)) (In V a b ⊎ (¬ In H b a)) = Decides-or (V a b) (not (H b a)) (λ h. h, λ h. h) (Decides-not (H b a) (λ h. h, λ h. h)) in
        Decides-and (H a b) (V a b || not (H b a)) (λ h. h, λ h. h) one

    h_trans : Transitive H
    h_trans = I.happens.transitive

    strict_happens : Happens ops V z strict
    strict_happens = record {
      transitive = λ a b c h k. join a b c ((strict_decides a b).0 h) ((strict_decides b c).0 k);
      past = λ a b h k v. (strict_decides a b).1 (I.happens.past a b h k v, inl v);
      derived = λ r w x k v.
          let held : Rival ops H r w x = record { source = v.source; sees = sees_by v.sees ((strict_decides x r).0 v.sees.seen).0; other = v.other } in
          (strict_decides x w).1 (I.happens.derived r w x k held, inr (λ q. cyclic r w x (record { own = k; rival = held; after = q })));
    }
      where
        join : (a b c : ℕ) → In H a b × (In V a b ⊎ (¬ In H b a)) → In H b c × (In V b c ⊎ (¬ In H c b)) → In strict a c
        join a b c h k = (strict_decides a c).1 (h_trans a b c h.0 k.0, how h.1 k.1)
          where
            how : In V a b ⊎ (¬ In H b a) → In V b c ⊎ (¬ In H c b) → In V a c ⊎ (¬ In H c a)
            how (inl p) (inl q) = inl (trans a b c p q)
            how (inl p) (inr q) = inr (λ t. q (h_trans c a b t h.0))
            how (inr p) (inl q) = inr (λ t. p (h_trans b c a k.0 t))
            how (inr p) (inr q) = inr (λ t. p (h_trans b c a k.0 t))

    pub h_irrefl : (a : ℕ) → ¬ In H a a
    h_irrefl a h = ⊎_elim (irrefl a) (λ n. n h) ((strict_decides a a).0 (I.least strict strict_happens a a h)).1

    -- a is put before b: H says so, or a is a read of the station, and H does not have b before it
    abbrev pub Put : ℕ → ℕ → Type 0
    Put a b = In H a b ⊎ (StationRead ops z a × ((b ≢ a) × (¬ In H b a)))

    read_past : (a : ℕ) → StationRead ops z a → Past V z a
    read_past a h = station_past z a last.inside (up_to_last ops z a last h) h.station

    reads_rise : (a b : ℕ) → StationRead ops z a → StationRead ops z b → a < b → In H a b
    reads_rise a b h k l = I.happens.past a b (read_past a h) (read_past b k) (station a b (station_before ops a b l k.is_read.inside (h.station ∙ sym k.station)))

    abbrev After : ℕ → ℕ → Type 0
    After c b = (b ≢ c) × (¬ In H b c)

    after_put : (c b d : ℕ) → StationRead ops z c → After c b → Put b d → After c d
    after_put c b d h n (inl q) = (λ t. n.1 (subst (In H b) t q), λ t. n.1 (h_trans b d c q t))
    after_put c b d h n (inr q) = (λ t. q.1.1 (subst (λ y. In H y b) (sym t) up), λ t. q.1.1 (h_trans d c b t up))
      where
        up : In H c b
        up = ⊎_elim (λ t. absurd (n.0 (sym t))) (⊎_elim (reads_rise c b h q.0) (λ t. absurd (n.1 (reads_rise b c q.0 h t)))) (cases_order c b)

    after_steps : (c : ℕ) {b d : ℕ} → StationRead ops z c → After c b → Steps Put b d → After c d
    after_steps c h n (one {a = a} {b = b} p) = after_put c a b h n p
    after_steps c h n (more {a = a} {b = b} p s) = after_steps c h (after_put c a b h n p) s

    -- H alone, or past a read that the rest comes after
    split : {a b : ℕ} → Steps Put a b → In H a b ⊎ ((c : ℕ) × StationRead ops z c × ((a ≡ c) ⊎ Steps Put a c) × After c b)
    split (one (inl q)) = inl q
    split (one {a = a} (inr q)) = inr (a, q.0, inl refl, q.1)
    split (more {a = a} {b = b} {c = d} (inl q) s) =
        ⊎_elim (λ p. inl (h_trans a b d q p))
        (λ p. inr (p.0, p.1, inr (⊎_elim (λ t. subst (Steps Put a) t (one (inl q))) (λ t. more (inl q) t) p.2), p.3)) (split s)
    split (more {a = a} (inr q) s) = inr (a, q.0, inl refl, after_steps a q.0 q.1 s)

    pub put_acyclic : Acyclic Put
    put_acyclic a s = ⊎_elim (h_irrefl a) (λ p. back p.0 p.1 p.2 p.3) (split s)
      where
        back : (c : ℕ) → StationRead ops z c → ((a ≡ c) ⊎ Steps Put a c) → After c a → ⊥
        back c h (inl t) n = n.0 t
        back c h (inr t) n = (after_steps c h n t).0 refl

    -- a list of o and its past that keeps this is a listing, for z and for each earlier operation o of its station
    module _ (init : (r x : ℕ) → ¬ HbInitRead ops z H r x) (o : ℕ) (h : o < length ops) (le : o ≤ z) (same : (at ops o).station ≡ (at ops z).station)
        (l : List ℕ) (listed : Lists (Past V o) l) (put : (a b : ℕ) → Past V o a → Past V o b → Put a b → Precedes l a b) where
      under : Past V z o
      under = station_past z o last.inside le same

      v_in_h : (a b : ℕ) → Past V o a → Past V o b → In V a b → In H a b
      v_in_h a b p q r = I.happens.past a b (past_trans o z a under p) (past_trans o z b under q) r

      -- what stands before a read is before it in H
      before_read : (r y : ℕ) → StationRead ops z r → Precedes l y r → In H y r
      before_read r y k p = go (dec_true (H y r))
        where
          go : Dec (In H y r) → In H y r
          go (yes q) = q
          go (no n) =
              absurd (precedes_asym l y r listed.once p
              (put r y (listed.only r (precedes_right l y r p)) (listed.only y (precedes_left l y r p))
              (inr (k, ((λ t. precedes_irrefl l r listed.once (subst (λ w. Precedes l w r) t p)), n)))))

      module _ (valid : Valid ops) where
        reads_right : (r : ℕ) → StationRead ops o r → r ≤ o → Reads ops (Precedes l) l r
        reads_right r k g = go (ℕ_discrete (at ops r).value 0) (find_source ops r)
          where
            kz : StationRead ops z r
            kz = record { is_read = k.is_read; station = k.station ∙ same }

            r_past : Past V o r
            r_past = station_past o r h g k.station

            go : Dec ((at ops r).value ≡ 0) → Dec ((w : ℕ) × SourceOf ops w r) → Reads ops (Precedes l) l r
            go (yes e) d = inl (record { value = e; none = λ w s. init r w (record { own = kz; value = e; sees = sees_by s (before_read r w kz s.seen) }) })
            go (no e) (no n) = absurd (own.thinair r (record { is_read = k.is_read; other = e; unwritten = λ w s. n (w, s) }))
            go (no e) (yes s) = inr (record {
              other = e;
              last = s.0;
              sees = sees_source s.1 (put s.0 r w_past r_past (inl (v_in_h s.0 r w_past r_past wr)));
              value = s.1.gives.value;
              others = λ y t n. put y s.0 (listed.only y (precedes_left l y r t.seen)) w_past
                  (inl (I.happens.derived r s.0 y kz (record { source = s.1; sees = sees_by t (before_read r y kz t.seen); other = n })));
            })
              where
                wr : In V s.0 r
                wr = L.sources s.0 r s.1

                w_past : Past V o s.0
                w_past = past_trans r o s.0 r_past (inr wr)

        pub listing : Listing ops V o l
        listing = record { lists = listed; keeps = λ a b p q r. put a b p q (inl (v_in_h a b p q r)); reads = reads_right }

    pub dec_put : (a b : ℕ) → Dec (Put a b)
    dec_put a b =
        dec_or (dec_true (H a b)) (Dec.and (Dec.of_iff {P = IsRead ops a × ((at ops a).station ≡ (at ops z).station)} (λ q. record { is_read = q.0; station = q.1 }, λ q. (q.is_read, q.station))
        (Dec.and (dec_read ops a) (ℕ_discrete (at ops a).station (at ops z).station))) (Dec.and (Dec.not (ℕ_discrete b a)) (Dec.not (dec_true (H b a)))))

-- what has happened before what for o, of which neither violation 6 nor 7 holds
abbrev pub Cleared : List Operation → Rel → ℕ → Type 0
Cleared ops V o = (H : Rel) × HappensBefore ops V o H × ((r x : ℕ) → ¬ HbInitRead ops o H r x) × ((r w x : ℕ) → ¬ CyclicHb ops o H r w x)

-- so at each station: the recording is explained, by V
module _ (ops : List Operation) (valid : Valid ops) (V : Rel) (L : IsLeast CausalDemand ops V) (own : OwnClean ops V) (clear : (o : ℕ) → Last ops o → Cleared ops V o) where
  pub session_explains : SessionExplains ops V
  session_explains = record { order = causal_order ops V L own; listings = λ o h. go o h (find_end ops (length ops) o h (omega arith)) }
    where
      go : (o : ℕ) → o < length ops → EndOf ops o → (l : List ℕ) × Listing ops V o l
      go o h e =
          let z = e.0 in
          let last = e.1 in
          let c = clear z last in
          let x = extend (Past V o) (λ a. dec_or (ℕ_discrete a o) (dec_true (V a o))) (length ops) (Put ops V L own z last c.0 c.1 c.3) (dec_put ops V L own z last c.0 c.1 c.3)
          (put_acyclic ops V L own z last c.0 c.1 c.3) in
          let inside : (a : ℕ) → Past V o a → a < length ops = λ a p. ⊎_elim (λ q. subst (λ y. y < length ops) (sym q) h) (λ q. (L.within a o q).0) p in
          let listed : Lists (Past V o) x.order = lists_all inside x.lists in (
            x.order,
            listing ops V L own z last c.0 c.1 c.3 c.2 o h e.3 e.2 x.order listed (λ a b p q r. x.keeps a b (listed.holds a p) (listed.holds b q) r) valid,
          )
