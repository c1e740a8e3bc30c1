-- A listing, as an order of what an operation sees that the one way to find orders puts.
use Rattle.std.proofs.Common.{◌≡◌, ℕ, ◌<◌, ◌≤◌, Bool, true, false, not, ◌&&◌, ◌||◌, eqb, ltb, ◌⊎◌, List, length, take, Ok, Err, Result, IsOk, Decides, sym, refl, subst, inl, inr, arith}
use Rattle.std.proofs.lemmas.Bool.{and_parts, and_from, or_cases, or_left, or_right, not-true, not_from_false, both_ways, lt-ltb, ne_eqb, eqb-false, cases_Bool}
use Rattle.recording.specs.declared.operation.Operation.{Operation}
use Rattle.relation.specs.declared.order.Obstacle.{Obstacle}
use Rattle.relation.specs.declared.order.Obstacle.TheVariants.{Cycle, NoRoom}
use Rattle.relation.specs.Found.{Found, Exactly}
use Rattle.relation.specs.Steps.{one, Lists}
use Rattle.relation.proofs.Extending.{steps_wider}
use Rattle.visibility.specs.Growth.{Rel}
use Rattle.visibility.specs.Visible.{CausalDemand, IsLeast}
use Rattle.violations.specs.Explained.{Valid}
use Rattle.sessions.specs.Deriving.{PastOperation}
use Rattle.violations.specs.Violations.{OwnClean}
use Rattle.sessions.specs.Happening.{Last, HappensBefore, HbInitRead, CyclicHb}
use Rattle.sessions.specs.Listings.{Past, StationRead, SessionExplains}
use Rattle.sessions.proofs.Sessions.{session_own_clean, no_init, no_cyclic, Put, put_acyclic, listing}
use Rattle.judgement.specs.Ordered.{ListedPast}
use Rattle.judgement.proofs.Fronts.{ordered_lists, ordered_precedes}

module _ (ops : List Operation) (valid : Valid ops) (few : length ops ≤ 256) (V : Rel) (L : IsLeast CausalDemand ops V) (e : SessionExplains ops V) (o : ℕ) (last : Last ops o) (H : Rel) (I : HappensBefore ops V o H)
    (reads M : ℕ → Bool) (dr : (k : ℕ) → Decides (reads k) (StationRead ops o k)) (dm : (k : ℕ) → Decides (M k) (PastOperation ops V o k)) where
  abbrev Kept : Rel
  Kept a b = H a b || (reads a && (ltb b 256 && (not (eqb b a) && not (H b a))))

  own : OwnClean ops V
  own = session_own_clean ops valid V L V e

  cyclic : (r w x : ℕ) → ¬ CyclicHb ops o H r w x
  cyclic = let x = e.listings o last.inside in no_cyclic ops valid V L V e o last x.0 x.1 H I

  init : (r x : ℕ) → ¬ HbInitRead ops o H r x
  init = let x = e.listings o last.inside in no_init ops valid V L V e o last x.0 x.1 H I

  abbrev Puts : ℕ → ℕ → Type 0
  Puts = Put ops V L own o last H I cyclic

  kept_puts : (a b : ℕ) → Kept a b ≡ true → Puts a b
  kept_puts a b h = elim (or_cases (H a b) (reads a && (ltb b 256 && (not (eqb b a) && not (H b a)))) h) [
    | inl p ↦ inl p
    | inr q ↦
        let r = and_parts (reads a) (ltb b 256 && (not (eqb b a) && not (H b a))) q in
        let s = and_parts (ltb b 256) (not (eqb b a) && not (H b a)) r.1 in
        let t = and_parts (not (eqb b a)) (not (H b a)) s.1 in
        inr ((dr a).0 r.0, (eqb-false b a (not-true (eqb b a) t.0), λ k. both_ways (H b a) (not-true (H b a) t.1) k))
  ]

  puts_kept : (a b : ℕ) → b < 256 → Puts a b → Kept a b ≡ true
  puts_kept a b l (inl h) = or_left (H a b) (reads a && (ltb b 256 && (not (eqb b a) && not (H b a)))) h
  puts_kept a b l (inr p) =
      or_right (H a b) (reads a && (ltb b 256 && (not (eqb b a) && not (H b a))))
      (and_from (reads a) (ltb b 256 && (not (eqb b a) && not (H b a))) ((dr a).1 p.0)
      (and_from (ltb b 256) (not (eqb b a) && not (H b a)) (lt-ltb b 256 l)
      (and_from (not (eqb b a)) (not (H b a)) (not_from_false (eqb b a) (ne_eqb b a p.1.0)) (not_from_false (H b a) (unheld (cases_Bool (H b a)))))))
    where
      unheld : (H b a ≡ true) ⊎ (H b a ≡ false) → H b a ≡ false
      unheld (inl q) = absurd (p.1.1 q)
      unheld (inr q) = q

  inside : (a : ℕ) → Past V o a → a < length ops
  inside a (inl q) = subst (λ x. x < length ops) (sym q) last.inside
  inside a (inr v) = (L.within a o v).0

  member : (a : ℕ) → Past V o a → M a ≡ true
  member a p = (dm a).1 (record { inside = inside a p; past = p })

  module _ (before after : List ℕ) (room : length before ≡ 256) where
    -- there is always an order
    pub always_listed : (r : Result ℕ Obstacle) → Found Kept M before after r → Exactly Kept M r → IsOk r
    always_listed (Ok n) f x = refl
    always_listed (Err (Cycle n)) f x = absurd (x (λ a s. put_acyclic ops V L own o last H I cyclic a (steps_wider (λ x y h. one (kept_puts x y h.2)) s)))
    always_listed (Err NoRoom) f x = let h = f.0 in absurd (omega arith)

    -- and it is a listing
    pub listed_past : length after ≡ 256 → (n : ℕ) → Found Kept M before after (Ok n) → ListedPast ops V o n before after
    listed_past long n f =
        let most : n ≤ 256 = f.1 in
        let fits : n ≤ length after = omega arith in
        let lists : Lists (Past V o) (take n after) = ordered_lists after n fits Kept M (Past V o) (λ a h. ((dm a).0 h).past) member f.2 in
        record {
          listing = listing ops V L own o last H I cyclic init o last.inside (omega arith) refl (take n after) lists
              (λ a b p q r. ordered_precedes after n fits Kept M f.2 a b (member a p) (member b q) (puts_kept a b (let l = inside b q in omega arith) r)) valid;
          few = most;
          tail = f.3;
        }
