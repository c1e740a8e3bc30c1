-- The words on lists of numbers, by places.
use Rattle.std.proofs.Common.{◌≡◌, ℕ, zero, suc, ◌<◌, List, [], ◌∷◌, length, get_or, sym, refl, ap, inl, inr, arith}
use Rattle.relation.specs.Steps.{Holds, Once, Precedes, PlacesTheorem}

place_of : (l : List ℕ) (a : ℕ) → Holds l a → (i : ℕ) × (i < length l) × (get_or l i 0 ≡ a)
place_of [] a h = absurd h
place_of (x ∷ l) a (inl e) = (0, omega arith, e)
place_of (x ∷ l) a (inr h) = let p = place_of l a h in (suc p.0, omega (arith, p.1), p.2)

at_place : (l : List ℕ) (a i : ℕ) → i < length l → get_or l i 0 ≡ a → Holds l a
at_place [] a i h e = omega arith
at_place (x ∷ l) a zero h e = inl e
at_place (x ∷ l) a (suc i) h e = inr (at_place l a i (omega arith) e)

places_of : (l : List ℕ) (a b : ℕ) → Precedes l a b → (i j : ℕ) × (i < j) × (j < length l) × (get_or l i 0 ≡ a) × (get_or l j 0 ≡ b)
places_of [] a b h = absurd h
places_of (x ∷ l) a b (inl p) = let q = place_of l b p.1 in (0, suc q.0, omega arith, omega (arith, q.1), p.0, q.2)
places_of (x ∷ l) a b (inr p) = let q = places_of l a b p in (suc q.0, suc q.1, omega (arith, q.2), omega (arith, q.3), q.4, q.5)

at_places : (l : List ℕ) (a b i j : ℕ) → i < j → j < length l → get_or l i 0 ≡ a → get_or l j 0 ≡ b → Precedes l a b
at_places [] a b i j h k e f = absurd (omega arith)
at_places (x ∷ l) a b i zero h k e f = absurd (omega arith)
at_places (x ∷ l) a b zero (suc j) h k e f = inl (e, at_place l b j (omega arith) f)
at_places (x ∷ l) a b (suc i) (suc j) h k e f = inr (at_places l a b i j (omega arith) (omega arith) e f)

once_places : (l : List ℕ) → Once l → (i j : ℕ) → i < length l → j < length l → get_or l i 0 ≡ get_or l j 0 → i ≡ j
once_places [] o i j h k e = omega arith
once_places (x ∷ l) o zero zero h k e = refl
once_places (x ∷ l) o zero (suc j) h k e = absurd (o.0 (at_place l x j (omega arith) (sym e)))
once_places (x ∷ l) o (suc i) zero h k e = absurd (o.0 (at_place l x i (omega arith) e))
once_places (x ∷ l) o (suc i) (suc j) h k e = ap suc (once_places l o.1 i j (omega arith) (omega arith) e)

places_once : (l : List ℕ) → ((i j : ℕ) → i < length l → j < length l → get_or l i 0 ≡ get_or l j 0 → i ≡ j) → Once l
places_once [] f = tt
places_once (x ∷ l) f = (
  λ h. let p = place_of l x h in let z : 0 ≡ suc p.0 = f 0 (suc p.0) (omega arith) (omega (arith, p.1)) (sym p.2) in omega arith,
  places_once l (λ i j h k e. let z : suc i ≡ suc j = f (suc i) (suc j) (omega arith) (omega arith) e in omega arith),
)

pub places_theorem : PlacesTheorem
places_theorem = record {
  holds = λ l a. (place_of l a, λ p. at_place l a p.0 p.1 p.2);
  once = λ l. (once_places l, places_once l);
  precedes = λ l a b. (places_of l a b, λ p. at_places l a b p.0 p.1 p.2 p.3 p.4 p.5);
}
