use Rattle.std.proofs.Common.{◌≡◌, ℕ, ◌<◌, true, false, None}
use Rattle.rows.specs.Members.{member}
use Rattle.violations.specs.Views.{operations_of, seen_of}
use Rattle.violations.specs.Violations.{BadInitRead}
use Rattle.violations.proofs.view.View.init_read.Given as goal

-- what is left is of the reads, and none of the reads that are not left sees a write
abbrev pub invariant-reads : goal.invariant-reads
invariant-reads l =
    (l.found ≡ None)
    × ((k : ℕ) → member l.read-iterator.left k ≡ true → member l.fn.reads k ≡ true)
    × ((k w : ℕ) → member l.fn.reads k ≡ true → member l.read-iterator.left k ≡ false → ¬ BadInitRead (operations_of l.self) (seen_of l.self) k w)
    × goal.iterator-reads.can_next l.read-iterator
    × goal.iterator-reads.is_finite l.read-iterator

abbrev pub invariant-loop-write : goal.invariant-loop-write
invariant-loop-write l = (l.found ≡ None) × ((w : ℕ) → w < l.write → ¬ BadInitRead (operations_of l.self) (seen_of l.self) l.read w)
