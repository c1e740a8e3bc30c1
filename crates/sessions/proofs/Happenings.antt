-- What grows from visibility among what an operation sees is what has happened before what.
use Rattle.std.proofs.Common.{◌≡◌, ℕ, ◌<◌, true, ◌&&◌, ltb, List, map, length, sym, ap, ◌∙◌, subst, inl, inr, ⊎_elim, arith}
use Rattle.std.proofs.lemmas.List.{length-map, get_or-map}
use Rattle.std.proofs.lemmas.Bool.{and_parts, and_from, lt-ltb, ltb-true}
use Rattle.recording.specs.declared.operation.Operation.{Operation}
use Rattle.recording.specs.Operations.{at, write_of}
use Rattle.rows.specs.Members.{related}
use Rattle.visibility.specs.declared.outline.Shape.{Shape}
use Rattle.visibility.specs.Growth.{Rel, Inside, Least}
use Rattle.visibility.specs.Shapes.{shape, shape_at, no_shape}
use Rattle.visibility.specs.Visible.{Asked, SourceTable}
use Rattle.violations.specs.Explained.{In}
use Rattle.violations.specs.Violations.{Rival}
use Rattle.sessions.specs.Deriving.{Derives, HappeningDemand, PastTable}
use Rattle.sessions.specs.Happening.{HappensBefore}
use Rattle.sessions.specs.Listings.{Past, StationRead}

demand_wider : (R : Rel) (f : List Shape) (u v : Rel) → Inside u v → (a b : ℕ) → HappeningDemand R f u a b → HappeningDemand R f v a b
demand_wider R f u v i a b (inl t) = inl (t.0, i a t.0 t.1, i t.0 b t.2)
demand_wider R f u v i a b (inr d) = inr (record { inside = d.inside; is_write = d.is_write; register = d.register; other = d.other; read = d.read; source = d.source; before = i a d.read d.before })

module _ (ops : List Operation) (V : Rel) (o : ℕ) (inside : o < length ops) (within : (a b : ℕ) → V a b ≡ true → (a < length ops) × (b < length ops)) (words t : List ℕ) (readers : SourceTable ops (StationRead ops o) words)
    (past : PastTable ops V o t) (Q : Rel) (least : Least (Asked (HappeningDemand (related words)) (map shape ops)) (related t) Q) where
  shapes : length (map shape ops) ≡ length ops
  shapes = length-map ops shape

  shape_of_at : (a : ℕ) → a < length ops → shape_at (map shape ops) a ≡ shape (at ops a)
  shape_of_at a h = get_or-map shape ops a (write_of 0 0 0) no_shape h

  past_inside : (a : ℕ) → Past V o a → a < length ops
  past_inside a (inl e) = subst (λ x. x < length ops) (sym e) inside
  past_inside a (inr v) = (within a o v).0

  -- Q, between operations only
  abbrev cut : Rel
  cut a b = Q a b && (ltb a (length ops) && ltb b (length ops))

  cut_inside : Inside cut Q
  cut_inside a b h = (and_parts (Q a b) (ltb a (length ops) && ltb b (length ops)) h).0

  cut_made : (a b : ℕ) → Q a b ≡ true → a < length ops → b < length ops → cut a b ≡ true
  cut_made a b h p q = and_from (Q a b) _ h (and_from _ _ (lt-ltb a (length ops) p) (lt-ltb b (length ops) q))

  on_operations : (a b : ℕ) → In Q a b → (a < length ops) × (b < length ops)
  on_operations a b h =
      let c = least.least cut
      (λ x y p. let z = past.sound x y p in cut_made x y (least.holds x y p) z.0.inside z.1.inside)
      (λ x y q. cut_made x y (least.closed x y (record { first = q.first; second = q.second; demanded = demand_wider (related words) (map shape ops) cut Q cut_inside x y q.demanded }))
      (let n = shapes in let l = q.first in omega arith) (let n = shapes in let l = q.second in omega arith)) a b h in
      let z = and_parts (ltb a (length ops)) (ltb b (length ops)) (and_parts (Q a b) (ltb a (length ops) && ltb b (length ops)) c).1 in
      (ltb-true a (length ops) z.0, ltb-true b (length ops) z.1)

  asked : (a b : ℕ) → a < length ops → b < length ops → HappeningDemand (related words) (map shape ops) Q a b → In Q a b
  asked a b h k d = let n = shapes in least.closed a b (record { first = omega arith; second = omega arith; demanded = d })

  derives : (r w x : ℕ) → StationRead ops o r → Rival ops Q r w x → Derives (related words) (map shape ops) Q x w
  derives r w x k v =
      let here = v.sees.is_write.inside in
      let there = v.source.gives.is_write.inside in
      record {
        inside = let n = shapes in omega arith;
        is_write = ap (λ s. s.kind) (shape_of_at x here) ∙ v.sees.is_write.kind;
        register = ap (λ s. s.register) (shape_of_at x here) ∙ v.sees.register ∙ sym v.source.gives.register ∙ sym (ap (λ s. s.register) (shape_of_at w there));
        other = v.other;
        read = r;
        source = readers.whole w r k v.source;
        before = v.sees.seen;
      }

  rivals : (u : Rel) (x w : ℕ) → x < length ops → w < length ops → (d : Derives (related words) (map shape ops) u x w) → StationRead ops o d.read × Rival ops u d.read w x
  rivals u x w h k d =
      let s = readers.sound w d.read d.source in (
        s.0,
        record {
          source = s.1;
          sees = record {
            is_write = record { inside = h; kind = sym (ap (λ s. s.kind) (shape_of_at x h)) ∙ d.is_write };
            register = sym (ap (λ s. s.register) (shape_of_at x h)) ∙ d.register ∙ ap (λ s. s.register) (shape_of_at w k) ∙ s.1.gives.register;
            seen = d.before;
          };
          other = d.other;
        },
      )

  pub happened_before : HappensBefore ops V o Q
  happened_before = record {
    within = on_operations;
    happens = record {
      transitive = λ a b c h k. asked a c (on_operations a b h).0 (on_operations b c k).1 (inl (b, h, k));
      past = λ a b h k v. least.holds a b (past.whole a b (record { inside = past_inside a h; past = h }) (record { inside = past_inside b k; past = k }) v);
      derived = λ r w x k v. asked x w v.sees.is_write.inside v.source.gives.is_write.inside (inr (derives r w x k v));
    };
    least = λ u k. least.least u (λ a b p. let z = past.sound a b p in k.past a b z.0.past z.1.past z.2)
        (λ a b q.
        let n = shapes in
        let first : a < length ops = let l = q.first in omega arith in
        let second : b < length ops = let l = q.second in omega arith in
        ⊎_elim (λ t. k.transitive a t.0 b t.1 t.2) (λ d. let z = rivals u a b first second d in k.derived d.read b a z.0 z.1) q.demanded);
  }
