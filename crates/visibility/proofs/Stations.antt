-- Station order, by the shapes that are kept.
use Rattle.std.proofs.Common.{◌≡◌, ℕ, ◌<◌, true, ◌&&◌, eqb, ltb, List, length}
use Rattle.std.proofs.lemmas.Bool.{and_parts, ltb-true}
use Rattle.visibility.specs.declared.outline.Shape.{Shape}
use Rattle.visibility.specs.Shapes.{shape_at, before}

pub before_below : (f : List Shape) (a b : ℕ) → before f a b ≡ true → b < length f
before_below f a b e =
    let p = and_parts (ltb a b) (ltb b (length f) && eqb (shape_at f a).station (shape_at f b).station) e in
    ltb-true b (length f) (and_parts (ltb b (length f)) (eqb (shape_at f a).station (shape_at f b).station) p.1).0

pub before_first : (f : List Shape) (a b : ℕ) → before f a b ≡ true → a < b
before_first f a b e = ltb-true a b (and_parts (ltb a b) (ltb b (length f) && eqb (shape_at f a).station (shape_at f b).station) e).0
