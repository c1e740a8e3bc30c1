-- What every order has to keep, as a union of two relations between writes.
use Rattle.std.proofs.Common.{◌≡◌, ℕ, ◌≤◌, Bool, true, ◌||◌, ◌⊎◌, List, length, take, Ok, Err, Result, IsOk, Decides, refl, inl, inr, arith}
use Rattle.std.proofs.lemmas.Bool.{or_cases, or_left, or_right}
use Rattle.recording.specs.declared.operation.Operation.{Operation}
use Rattle.recording.specs.Operations.{IsWrite}
use Rattle.relation.specs.declared.order.Obstacle.{Obstacle}
use Rattle.relation.specs.declared.order.Obstacle.TheVariants.{Cycle, NoRoom}
use Rattle.relation.specs.Found.{Found, Exactly}
use Rattle.relation.specs.Orders.{Ordered, Ring}
use Rattle.relation.specs.Steps.{one, Precedes}
use Rattle.relation.proofs.Extending.{steps_wider}
use Rattle.rows.specs.Members.{related}
use Rattle.visibility.specs.Growth.{Rel}
use Rattle.violations.specs.Explained.{Valid, Writes, Ordering}
use Rattle.judgement.specs.declared.verdict.Violation.TheVariants.{BadArb}
use Rattle.judgement.specs.Arbitrated.{Arranged}
use Rattle.judgement.specs.Ordered.{OrderedFor}
use Rattle.judgement.specs.Showing.{Evident}
use Rattle.violations.specs.Tabled.{Tabled}
use Rattle.judgement.specs.Verdicts as verdicts
use Rattle.violations.specs.Violations.{Rival, Conflict, OwnClean}
use Rattle.violations.proofs.Deciding.{forced_acyclic}
use Rattle.judgement.proofs.Fronts.{ring_cycle_of, ordered_lists, ordered_precedes}

-- V between writes, which the test N decides, and the pairs of K, which the test C decides and which are pairs of writes
module _ (ops : List Operation) (V : Rel) (M : ℕ → Bool) (d : (k : ℕ) → Decides (M k) (IsWrite ops k)) (N : Rel) (n : (a b : ℕ) → Decides (N a b) (Writes ops V a b)) (C : Rel) (K : ℕ → ℕ → Type 0) (k : (a b : ℕ) → Decides (C a b) (K a b)) where
  abbrev Kept : Rel
  Kept a b = N a b || C a b

  abbrev pub Both : ℕ → ℕ → Type 0
  Both a b = Writes ops V a b ⊎ K a b

  kept_both : (a b : ℕ) → Kept a b ≡ true → Both a b
  kept_both a b h = elim (or_cases (N a b) (C a b) h) [ inl w ↦ inl ((n a b).0 w) | inr c ↦ inr ((k a b).0 c) ]

  both_kept : (a b : ℕ) → Both a b → Kept a b ≡ true
  both_kept a b (inl w) = or_left (N a b) (C a b) ((n a b).1 w)
  both_kept a b (inr c) = or_right (N a b) (C a b) ((k a b).1 c)

  module _ (xs : List ℕ) (long : ℕ) (fits : long ≤ length xs) where
    pub cycle_kept : Ring Kept M xs 0 long → verdicts.Cycle Both (take long xs)
    cycle_kept r = ring_cycle_of xs long fits Kept M Both (λ a b _ _ h. kept_both a b h) r

    module _ (o : Ordered Kept M xs long) where
      pub order_ordering : Ordering ops V (take long xs)
      order_ordering = record {
        all = ordered_lists xs long fits Kept M (IsWrite ops) (λ a h. (d a).0 h) (λ a w. (d a).1 w) o;
        keeps = λ a b w. ordered_precedes xs long fits Kept M o a b ((d a).1 w.0) ((d b).1 w.1) (both_kept a b (inl w));
      }

      pub order_keeps : (a b : ℕ) → IsWrite ops a → IsWrite ops b → K a b → Precedes (take long xs) a b
      order_keeps a b v w c = ordered_precedes xs long fits Kept M o a b ((d a).1 v) ((d b).1 w) (both_kept a b (inr c))

-- one order for all reads: K is conflict
module _ (ops : List Operation) (V : Rel) (M : ℕ → Bool) (d : (k : ℕ) → Decides (M k) (IsWrite ops k)) (N : Rel) (m : (a b : ℕ) → Decides (N a b) (Writes ops V a b)) (t : List ℕ) (tabled : Tabled ops V (length ops) t) where
  conflict_decides : (a b : ℕ) → Decides (related t a b) (Conflict ops V a b)
  conflict_decides a b = (λ h. let s = tabled.sound a b h in (s.0, s.2), λ c. tabled.whole a b c.0 c.1.source.is_read.inside c.1)

  module _ (before after : List ℕ) (long : length after ≡ 256) where
    module _ (n : ℕ) where
      pub arranged : Found (λ a b. N a b || related t a b) M before after (Ok n) → Arranged ops V n before after
      arranged f =
          let few : n ≤ 256 = f.1 in
          record {
            ordering = order_ordering ops V M d N m (related t) (Conflict ops V) conflict_decides after n (omega arith) f.2;
            conflicts = λ x w c. order_keeps ops V M d N m (related t) (Conflict ops V) conflict_decides after n (omega arith) f.2 x w c.1.sees.is_write c.1.source.gives.is_write c;
            few = few;
            tail = f.3;
          }

      pub cyclic : Found (λ a b. N a b || related t a b) M before after (Err (Cycle n)) → Evident ops V BadArb 0 n before after
      cyclic f =
          let few : n ≤ 256 = f.1 in
          record { shows = (refl, cycle_kept ops V M d N m (related t) (Conflict ops V) conflict_decides after n (omega arith) f.2); few = few; tail = f.3 }

    -- there is always room, so one of the two is found
    pub arbitrated : length before ≡ 256 → (r : Result ℕ Obstacle) → Found (λ a b. N a b || related t a b) M before after r
        → (n : ℕ) × (((r ≡ Ok n) × Arranged ops V n before after) ⊎ ((r ≡ Err (Cycle n)) × Evident ops V BadArb 0 n before after))
    arbitrated room (Ok n) f = (n, inl (refl, arranged n f))
    arbitrated room (Err (Cycle n)) f = (n, inr (refl, cyclic n f))
    arbitrated room (Err NoRoom) f = let h = f.0 in absurd (omega arith)

-- an order for the read r: K is what has to come before its source
module _ (ops : List Operation) (valid : Valid ops) (V : Rel) (clean : OwnClean ops V) (r : ℕ) (M : ℕ → Bool) (d : (k : ℕ) → Decides (M k) (IsWrite ops k)) (N : Rel) (m : (a b : ℕ) → Decides (N a b) (Writes ops V a b)) (C : Rel)
    (k : (a b : ℕ) → Decides (C a b) (Rival ops V r b a)) where
  module _ (before after : List ℕ) (room : length before ≡ 256) where
    -- there is always one
    pub never_stuck : (o : Result ℕ Obstacle) → Found (λ a b. N a b || C a b) M before after o → Exactly (λ a b. N a b || C a b) M o → IsOk o
    never_stuck (Ok n) f e = refl
    never_stuck (Err (Cycle n)) f e = absurd (e (λ a s. forced_acyclic ops valid V clean r a (steps_wider (λ x y h. one (kept_both ops V M d N m C (λ a b. Rival ops V r b a) k x y h.2)) s)))
    never_stuck (Err NoRoom) f e = let h = f.0 in absurd (omega arith)

    pub ordered_for : length after ≡ 256 → (n : ℕ) → Found (λ a b. N a b || C a b) M before after (Ok n) → OrderedFor ops V r n before after
    ordered_for long n f =
        let few : n ≤ 256 = f.1 in
        record {
          ordering = order_ordering ops V M d N m C (λ a b. Rival ops V r b a) k after n (omega arith) f.2;
          rivals = λ w x c. order_keeps ops V M d N m C (λ a b. Rival ops V r b a) k after n (omega arith) f.2 x w c.sees.is_write c.source.gives.is_write c;
          few = few;
          tail = f.3;
        }
