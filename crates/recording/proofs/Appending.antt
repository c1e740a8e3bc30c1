-- What one more operation at the end of the list keeps.
use Rattle.std.proofs.Common.{◌≡◌, ℕ, suc, ◌+◌, ◌<◌, ◌≤◌, true, false, cond, eqb, ◌⊎◌, List, [], ◌∷◌, ◌++◌, length, set, Some, None, Option, sym, refl, ap, ◌∙◌, subst, inl, inr, ⊎_elim, append_assoc, append-nil, arith, get_or-set_other, get_or-set_same}
use lib.Seq.{get_or-append_seam}
use Rattle.std.proofs.lemmas.List.{length_push, get_or_append_left}
use Rattle.std.proofs.lemmas.Bool.{eqb-true, eqb-false, eq-eqb, ne_eqb, cases_Bool, cases_eq, cases_lt, cond-true, cond-false}
use Rattle.std.proofs.lemmas.List.Sums.{sum_by_push}
use Rattle.recording.specs.declared.operation.Kind.TheVariants.{Write}
use Rattle.recording.specs.declared.operation.Operation.{Operation}
use Rattle.recording.specs.declared.stations.Entry.{Entry}
use Rattle.recording.specs.Operations.{write_of, at, Twins}
use Rattle.recording.specs.Lawful.{InRange, NonZero, Apart}
use Rattle.recording.specs.Stations.{entry_at, tally, last_from, entry_of, Kept, LastOf}
use Rattle.recording.specs.Telling.{Allowed}
use Rattle.recording.proofs.Operations.{not_written}

module _ (ops : List Operation) (x : Operation) where
  pub at_old : (i : ℕ) → i < length ops → at (ops ++ x ∷ []) i ≡ at ops i
  at_old i h = get_or_append_left ops (x ∷ []) (write_of 0 0 0) i h

  pub at_new : (i : ℕ) → i ≡ length ops → at (ops ++ x ∷ []) i ≡ x
  at_new i e = ap (at (ops ++ x ∷ [])) e ∙ get_or-append_seam ops x [] (write_of 0 0 0)

  -- a place in the longer list is an old one, or the last
  pub either : (i : ℕ) → i < length (ops ++ x ∷ []) → (i < length ops) ⊎ (i ≡ length ops)
  either i h = ⊎_elim inl (λ g. inr (omega (arith, length_push ops x))) (cases_lt i (length ops))

  -- what holds of each operation, and of the new one, holds of each in the longer list
  each_more : (P : Operation → Type 0) → ((i : ℕ) → i < length ops → P (at ops i)) → P x → (i : ℕ) → i < length (ops ++ x ∷ []) → P (at (ops ++ x ∷ []) i)
  each_more P old new i h = ⊎_elim (λ o. subst P (sym (at_old i o)) (old i o)) (λ e. subst P (sym (at_new i e)) new) (either i h)

  old_twins : (a b : ℕ) → Twins (ops ++ x ∷ []) a b → a < length ops → b < length ops → Twins ops a b
  old_twins a b t old_a old_b = record {
    first = record { inside = old_a; kind = cc (at_old a old_a) };
    second = record { inside = old_b; kind = cc (at_old b old_b) };
    register = cc (at_old a old_a, at_old b old_b);
    value = cc (at_old a old_a, at_old b old_b);
  }

  turned : (a b : ℕ) → Twins (ops ++ x ∷ []) a b → Twins (ops ++ x ∷ []) b a
  turned a b t = record { first = t.second; second = t.first; register = sym t.register; value = sym t.value }

  module _ (S : ℕ) (allowed : Allowed (record { stations = S; operations = ops }) x) where
    pub in_range_more : InRange S ops → InRange S (ops ++ x ∷ [])
    in_range_more range =
        each_more (λ y. (y.station < S) × (y.register ≤ 63) × (y.value ≤ 524287)) range (allowed.station, allowed.register, allowed.value)

    pub nonzero_more : NonZero ops → NonZero (ops ++ x ∷ [])
    nonzero_more nonzero i w =
        each_more (λ y. y.kind ≡ Write → 1 ≤ y.value) (λ j inside kind. nonzero j (record { inside = inside; kind = kind })) allowed.nonzero i w.inside w.kind

    -- the new operation is no twin of an old one
    no_twin : (a b : ℕ) → Twins (ops ++ x ∷ []) a b → a < length ops → b ≡ length ops → ⊥
    no_twin a b t old_a new_b =
        let write : x.kind ≡ Write = cc (at_new b new_b) in
        not_written ops x.register x.value (allowed.fresh write) a (record {
          is_write = record { inside = old_a; kind = cc (at_old a old_a) };
          register = cc (at_old a old_a, at_new b new_b);
          value = cc (at_old a old_a, at_new b new_b);
        })

    pub apart_more : Apart ops → Apart (ops ++ x ∷ [])
    apart_more apart a b t =
        ⊎_elim
        (λ old_a. ⊎_elim (λ old_b. apart a b (old_twins a b t old_a old_b)) (λ new_b. absurd (no_twin a b t old_a new_b)) (either b t.second.inside))
        (λ new_a. ⊎_elim (λ old_b. absurd (no_twin b a (turned a b t) old_b new_a)) (λ new_b. new_a ∙ sym new_b) (either b t.second.inside))
        (either a t.first.inside)

pub tally_more : (ops : List Operation) (x : Operation) (s : ℕ) → tally (ops ++ x ∷ []) s ≡ tally ops s + cond (eqb x.station s) 1 0
tally_more ops x s = sum_by_push (λ y. cond (eqb y.station s) 1 0) ops x

pub last_more : (so_far : Option ℕ) (i : ℕ) (ops : List Operation) (x : Operation) (s : ℕ)
    → last_from so_far i (ops ++ x ∷ []) s ≡ cond (eqb x.station s) (Some (i + length ops)) (last_from so_far i ops s)
unfolding last_from
last_more so_far i [] x s = ap (λ n. cond (eqb x.station s) (Some n) so_far) (omega arith)
last_more so_far i (y ∷ ops) x s = last_more (cond (eqb y.station s) (Some i) so_far) (suc i) ops x s ∙ ap (λ n. cond (eqb x.station s) (Some n) (last_from (cond (eqb y.station s) (Some i) so_far) (suc i) ops s)) (omega arith)

-- the entry of the new operation's station, and those of the others
pub kept_more : (ops : List Operation) (x : Operation) (es : List Entry) → length es ≡ 16 → x.station < 16 → Kept ops es
    → Kept (ops ++ x ∷ []) (set es x.station (record { count = (entry_at es x.station).count + 1; last = Some (length ops) }))
kept_more ops x es long low kept s h = ⊎_elim here there (cases_eq s x.station)
  where
    new : Entry
    new = record { count = (entry_at es x.station).count + 1; last = Some (length ops) }

    Right : Entry → Type 0
    Right e = (e.count ≡ tally (ops ++ x ∷ []) s) × (e.last ≡ last_from None 0 (ops ++ x ∷ []) s)

    here : s ≡ x.station → Right (entry_at (set es x.station new) s)
    here e =
        let t : eqb x.station s ≡ true = eq-eqb _ _ (sym e) in
        let k : (entry_at es x.station).count ≡ tally ops s = subst (λ z. (entry_at es z).count ≡ tally ops s) e (kept s h).0 in
        subst Right (sym (ap (entry_at (set es x.station new)) e ∙ get_or-set_same es x.station new _ (omega arith))) (
          omega (arith, tally_more ops x s, cond-true {A = ℕ} (eqb x.station s) 1 0 t),
          sym (last_more None 0 ops x s ∙ cond-true (eqb x.station s) (Some (0 + length ops)) (last_from None 0 ops s) t ∙ ap Some (omega arith)),
        )

    there : (s ≡ x.station → ⊥) → Right (entry_at (set es x.station new) s)
    there n =
        let t : eqb x.station s ≡ false = ne_eqb _ _ (λ e. n (sym e)) in
        subst Right (sym (get_or-set_other es x.station s new _ n)) (
          omega (arith, (kept s h).0, tally_more ops x s, cond-false {A = ℕ} (eqb x.station s) 1 0 t),
          (kept s h).1 ∙ sym (last_more None 0 ops x s ∙ cond-false (eqb x.station s) (Some (0 + length ops)) (last_from None 0 ops s) t),
        )

last_here : (ops : List Operation) (x : Operation) (s : ℕ) → x.station ≡ s → LastOf (ops ++ x ∷ []) s (Some (length ops))
last_here ops x s e = (
  omega (arith, length_push ops x),
  ap (λ y. y.station) (at_new ops x (length ops) refl) ∙ e,
  λ i more inside. absurd (omega (arith, length_push ops x)),
)

last_there : (ops : List Operation) (x : Operation) (s : ℕ) (o : Option ℕ) → ¬ (x.station ≡ s) → LastOf ops s o → LastOf (ops ++ x ∷ []) s o
last_there ops x s None n none = each_more ops x (λ y. ¬ (y.station ≡ s)) none n
last_there ops x s (Some k) n last = (
  omega (arith, last.0, length_push ops x),
  ap (λ y. y.station) (at_old ops x k last.0) ∙ last.1,
  λ i more h.
      ⊎_elim (λ o e. last.2 i more o (ap (λ y. y.station) (sym (at_old ops x i o)) ∙ e)) (λ l e. n (ap (λ y. y.station) (sym (at_new ops x i l)) ∙ e)) (either ops x i h),
)

last_step : (ops : List Operation) (x : Operation) (s : ℕ) (o : Option ℕ) → LastOf ops s o → LastOf (ops ++ x ∷ []) s (cond (eqb x.station s) (Some (length ops)) o)
last_step ops x s o last = ⊎_elim yes' no' (cases_Bool (eqb x.station s))
  where
    yes' : eqb x.station s ≡ true → LastOf (ops ++ x ∷ []) s (cond (eqb x.station s) (Some (length ops)) o)
    yes' e = subst (LastOf (ops ++ x ∷ []) s) (sym (cond-true _ _ _ e)) (last_here ops x s (eqb-true _ _ e))

    no' : eqb x.station s ≡ false → LastOf (ops ++ x ∷ []) s (cond (eqb x.station s) (Some (length ops)) o)
    no' e = subst (LastOf (ops ++ x ∷ []) s) (sym (cond-false _ _ _ e)) (last_there ops x s o (eqb-false _ _ e) last)

last_all : (done rest : List Operation) (s n : ℕ) (o : Option ℕ) → n ≡ length done → LastOf done s o → LastOf (done ++ rest) s (last_from o n rest s)
unfolding last_from
last_all done [] s n o e last = subst (λ l. LastOf l s o) (sym (append-nil done)) last
last_all done (x ∷ rest) s n o e last =
    subst (λ l. LastOf l s (last_from o n (x ∷ rest) s)) (append_assoc done (x ∷ []) rest)
    (last_all (done ++ x ∷ []) rest s (suc n) (cond (eqb x.station s) (Some n) o) (omega (arith, length_push done x))
    (subst (λ k. LastOf (done ++ x ∷ []) s (cond (eqb x.station s) (Some k) o)) (sym e) (last_step done x s o last)))

-- what `last_from` finds is the last one
pub last_of : (ops : List Operation) (s : ℕ) → LastOf ops s (last_from None 0 ops s)
last_of ops s = last_all [] ops s 0 None refl (λ i h. absurd (omega arith))

-- an entry that is kept is the station's
pub entry_is : (ops : List Operation) (es : List Entry) (s : ℕ) → ((entry_at es s).count ≡ (entry_of ops s).count) × ((entry_at es s).last ≡ (entry_of ops s).last) → entry_at es s ≡ entry_of ops s
entry_is ops es s k = λ i. record { count = k.0 i; last = k.1 i }

-- the entry of a station that is there
pub kept_entry : (ops : List Operation) (es : List Entry) (s : ℕ) → Kept ops es → s < 16 → (entry_at es s ≡ entry_of ops s) × LastOf ops s (entry_at es s).last
kept_entry ops es s kept low = let k = kept s low in (entry_is ops es s k, subst (LastOf ops s) (sym k.1) (last_of ops s))
