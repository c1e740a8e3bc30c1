-- Orders and cycles at the front of a buffer, as lists.
use Rattle.std.proofs.Common.{◌≡◌, ℕ, zero, suc, ◌+◌, ◌-◌, ◌<◌, ◌≤◌, Bool, true, List, length, get_or, take, Ok, Err, Result, sym, refl, ap, ◌∙◌, subst, subst₂, arith}
use Rattle.std.proofs.lemmas.List.{get_or-take, length-take-le}
use Rattle.relation.specs.declared.order.Obstacle.{Obstacle}
use Rattle.relation.specs.declared.order.Obstacle.TheVariants.{Cycle, NoRoom}
use Rattle.relation.specs.Found.{Found, Exactly}
use Rattle.relation.specs.Orders.{Ordered, Ring}
use Rattle.relation.specs.Steps.{Steps, one, Acyclic, Among, Once, Precedes, Lists}
use Rattle.relation.proofs.Extending.{steps_join, steps_wider}
use Rattle.relation.proofs.Places.{places_theorem}
use Rattle.judgement.specs.Verdicts as verdicts

-- a cycle is a cycle
module _ (R : ℕ → ℕ → Type 0) (l : List ℕ) (c : verdicts.Cycle R l) where
  onward : (i : ℕ) → i + 1 < length l → Steps R (get_or l 0 0) (get_or l (i + 1) 0)
  onward zero h = one (c.steps 0 h)
  onward (suc i) h =
      let e : i + 1 ≡ suc i = omega arith in
      steps_join (onward i (omega arith)) (one (subst (λ k. R (get_or l k 0) (get_or l (suc i + 1) 0)) (sym e) (c.steps (suc i) h)))

  around : (m : ℕ) → length l ≡ suc m → Steps R (get_or l 0 0) (get_or l 0 0)
  around zero e = one (subst (λ k. R (get_or l k 0) (get_or l 0 0)) (let z : length l - 1 ≡ 0 = omega arith in z) c.closes)
  around (suc m) e =
      let z : length l - 1 ≡ m + 1 = omega arith in
      steps_join (onward m (omega arith)) (one (subst (λ k. R (get_or l k 0) (get_or l 0 0)) z c.closes))

  pub cycle_not_acyclic : ¬ Acyclic R
  cycle_not_acyclic a = let s = c.some in a (get_or l 0 0) (around (length l - 1) (omega arith))

module _ (xs : List ℕ) (n : ℕ) (fits : n ≤ length xs) where
  long : length (take n xs) ≡ n
  long = length-take-le n xs fits

  front : (i : ℕ) → i < n → get_or xs i 0 ≡ get_or (take n xs) i 0
  front i h = sym (get_or-take n xs i 0 h)

  front_once : ((i j : ℕ) → i < n → j < n → get_or xs i 0 ≡ get_or xs j 0 → i ≡ j) → Once (take n xs)
  front_once f =
      (places_theorem.once (take n xs)).1
      (λ i j h k e. let l = long in f i j (omega arith) (omega arith) (front i (omega arith) ∙ e ∙ sym (front j (omega arith))))

  module _ (R : ℕ → ℕ → Bool) (M : ℕ → Bool) where
    -- what stands in a ring, as a cycle of a relation that holds wherever R does
    pub ring_cycle_of : (S : ℕ → ℕ → Type 0) → ((a b : ℕ) → M a ≡ true → M b ≡ true → R a b ≡ true → S a b) → Ring R M xs 0 n → verdicts.Cycle S (take n xs)
    ring_cycle_of S f r =
        let l = long in
        let some = r.long in
        let place : (i : ℕ) → i < n → get_or xs (0 + i) 0 ≡ get_or (take n xs) i 0 = λ i h. ap (λ (k : ℕ). get_or xs k 0) (omega arith) ∙ front i h in
        record {
          some = omega arith;
          once = front_once (λ i j h k e. r.once i j h k (ap (λ (k : ℕ). get_or xs k 0) (omega arith) ∙ e ∙ ap (λ (k : ℕ). get_or xs k 0) (omega arith)));
          steps = λ i h. subst₂ S (place i (omega arith)) (place (i + 1) (omega arith))
              (f _ _ (r.inside i (omega arith)) (r.inside (i + 1) (omega arith)) (r.steps i (omega arith)));
          closes = subst₂ S (place (n - 1) (omega arith) ∙ ap (λ (k : ℕ). get_or (take n xs) k 0) (omega arith)) (place 0 (omega arith)) (f _ _ (r.inside (n - 1) (omega arith)) (r.inside 0 (omega arith)) r.closes);
        }

    -- what stands in order, as a list of the numbers with P
    pub ordered_lists : (P : ℕ → Type 0) → ((a : ℕ) → M a ≡ true → P a) → ((a : ℕ) → P a → M a ≡ true) → Ordered R M xs n → Lists P (take n xs)
    ordered_lists P f g o =
        let l = long in
        record {
          once = front_once o.once;
          holds = λ a h. let p = o.every a (g a h) in (places_theorem.holds (take n xs) a).1 (p.0, (let k = p.1 in omega arith), sym (front p.0 p.1) ∙ p.2);
          only = λ a h. let p = (places_theorem.holds (take n xs) a).0 h in let k = p.1 in let e = front p.0 (omega arith) ∙ p.2 in f a (subst (λ x. M x ≡ true) e (o.inside p.0 (omega arith)));
        }

    -- and R a b puts a before b
    pub ordered_precedes : Ordered R M xs n → (a b : ℕ) → M a ≡ true → M b ≡ true → R a b ≡ true → Precedes (take n xs) a b
    ordered_precedes o a b h k r =
        let l = long in
        let p = o.every a h in
        let q = o.every b k in
        let up = o.keeps p.0 q.0 p.1 q.1 (subst₂ (λ x y. R x y ≡ true) (sym p.2) (sym q.2) r) in
        (places_theorem.precedes (take n xs) a b).1
        (p.0, q.0, up, (let z = q.1 in omega arith), sym (front p.0 p.1) ∙ p.2, sym (front q.0 q.1) ∙ q.2)

-- where there is room, and no cycle is found, there is none
pub no_cycle : (R : ℕ → ℕ → Bool) (M : ℕ → Bool) (before after : List ℕ) (r : Result ℕ Obstacle) → Found R M before after r → Exactly R M r → 256 ≤ length before → ((n : ℕ) → ¬ (r ≡ Err (Cycle n))) → Acyclic (Among M R)
no_cycle R M before after (Ok n) f e room k = e
no_cycle R M before after (Err (Cycle n)) f e room k = absurd (k n refl)
no_cycle R M before after (Err NoRoom) f e room k = let l = f.0 in absurd (omega arith)

-- a relation within the numbers below n has no cycle where it has none among them
pub within_acyclic : (R : ℕ → ℕ → Bool) (M : ℕ → Bool) → ((a b : ℕ) → R a b ≡ true → (M a ≡ true) × (M b ≡ true)) → Acyclic (Among M R) → Acyclic (λ a b. R a b ≡ true)
within_acyclic R M w c a s = c a (steps_wider (λ x y h. one ((w x y h).0, (w x y h).1, h)) s)
