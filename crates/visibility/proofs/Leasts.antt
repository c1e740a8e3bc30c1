-- What grows from the sources is the least visibility.
use Rattle.std.proofs.Common.{◌≡◌, ℕ, ◌<◌, true, ◌&&◌, ltb, List, map, length, arith}
use lib.ListN.{length-map}
use Rattle.std.proofs.lemmas.Bool.{and_parts, and_from, lt-ltb, ltb-true}
use Rattle.recording.specs.declared.operation.Operation.{Operation}
use Rattle.rows.specs.Members.{related}
use Rattle.visibility.specs.declared.outline.Shape.{Shape}
use Rattle.visibility.specs.Growth.{Rel, Inside, Least}
use Rattle.visibility.specs.Shapes.{shape}
use Rattle.visibility.specs.Visible.{Asked, IsLeast, SourceTable}

module _ (D : List Shape → Rel → ℕ → ℕ → Type 0) (law : (f : List Shape) (u v : Rel) → Inside u v → (a b : ℕ) → D f u a b → D f v a b)
    (ops : List Operation) (t : List ℕ) (Q : Rel) (P : ℕ → Type 0) (all : (r : ℕ) → r < length ops → P r) (s : SourceTable ops P t) (least : Least (Asked D (map shape ops)) (related t) Q) where
  -- Q, between operations only
  cut : Rel
  cut a b = Q a b && (ltb a (length ops) && ltb b (length ops))

  cut_inside : Inside cut Q
  unfolding cut
  cut_inside a b h = (and_parts (Q a b) (ltb a (length ops) && ltb b (length ops)) h).0

  cut_made : (a b : ℕ) → Q a b ≡ true → a < length ops → b < length ops → cut a b ≡ true
  unfolding cut
  cut_made a b h p q = and_from (Q a b) _ h (and_from _ _ (lt-ltb a (length ops) p) (lt-ltb b (length ops) q))

  cut_ends : (a b : ℕ) → cut a b ≡ true → (a < length ops) × (b < length ops)
  unfolding cut
  cut_ends a b h =
      let p = and_parts (ltb a (length ops)) (ltb b (length ops)) (and_parts (Q a b) (ltb a (length ops) && ltb b (length ops)) h).1 in
      (ltb-true a (length ops) p.0, ltb-true b (length ops) p.1)

  long : length (map shape ops) ≡ length ops
  long = length-map ops shape

  inside : Inside Q cut
  inside = least.least cut
      (λ a b h. let e = s.sound a b h in cut_made a b (least.holds a b h) e.1.gives.is_write.inside e.1.is_read.inside)
      (λ a b d. cut_made a b (least.closed a b (record { first = d.first; second = d.second; demanded = law (map shape ops) cut Q cut_inside a b d.demanded })) (omega (arith, d.first, long)) (omega (arith, d.second, long)))

  pub is_least : IsLeast D ops Q
  is_least = record {
    within = λ a b h. cut_ends a b (inside a b h);
    sources = λ w r h. least.holds w r (s.whole w r (all r h.is_read.inside) h);
    closed = least.closed;
    least = λ u hu cu. least.least u (λ a b h. hu a b (s.sound a b h).1) cu;
  }
