use Rattle.std.proofs.Common.{◌≡◌, ℕ, true, not, ◌&&◌, ◌||◌, eqb, length}
use Rattle.rows.specs.Members.{member, related}
use Rattle.violations.proofs.view.View.put_rivals.Given as goal

-- the table holds what it held, and (x, source) for each rival x that is not left
abbrev pub invariant-loop-other : goal.invariant-loop-other
invariant-loop-other l =
    (length l.table ≡ 1024)
    × ((x w : ℕ) → related l.table x w ≡ (related l.fn.table x w || (eqb w l.source && (member l.initial.other-iterator.left x && not (member l.other-iterator.left x)))))
    × ((x : ℕ) → member l.other-iterator.left x ≡ true → member l.initial.other-iterator.left x ≡ true)
    × goal.iterator-loop-other.can_next l.other-iterator
    × goal.iterator-loop-other.is_finite l.other-iterator
