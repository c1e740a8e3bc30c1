-- A walk under a visibility is one under every visibility that contains it: the law of the term list cites this.
use Rattle.std.specs.Prelude.{ℕ, List, [], ◌∷◌}
use Rattle.visibility.specs.declared.outline.Shape.{Shape}
use Rattle.visibility.specs.declared.terms.Letter.{Letter}
use Rattle.visibility.specs.declared.terms.Letter.TheVariants.{Station, Seen}
use Rattle.visibility.specs.Growth.{Rel, Inside}
use Rattle.visibility.specs.Terms.{Step, Walk}

step_grows : (f : List Shape) (u v : Rel) → Inside u v → (l : Letter) (a b : ℕ) → Step f u l a b → Step f v l a b
step_grows f u v i Station a b s = s
step_grows f u v i Seen a b s = i a b s

pub walk_grows : (f : List Shape) (u v : Rel) → Inside u v → (ls : List Letter) (a b : ℕ) → Walk f u ls a b → Walk f v ls a b
walk_grows f u v i [] a b w = w
walk_grows f u v i (l ∷ ls) a b w = (w.0, step_grows f u v i l a w.0 w.1, walk_grows f u v i ls w.0 b w.2)
