use Rattle.std.proofs.Common.{◌+◌, length, ◌≡◌, ℕ, ◌&&◌, ltb}
use Rattle.rows.specs.Members.{member}
use Rattle.visibility.specs.Shapes.{shapes_of, before}
use Rattle.visibility.proofs.outline.Outline.later.Given as goal

abbrev pub invariant-loop-b : goal.invariant-loop-b
invariant-loop-b l = (k : ℕ) → member l.later k ≡ (ltb k (l.a + 1 + length l.yielded) && before (shapes_of l.self) l.a k)
