use Rattle.std.proofs.Common.{◌≡◌, ℕ, true}
use Rattle.recording.specs.Telling.{recorded}
use Rattle.rows.specs.Members.{member}
use Rattle.visibility.specs.Visible.{SourceTable}
use Rattle.visibility.proofs.Gatherings.{Gone}
use Rattle.visibility.proofs.sources.put_sources.Given as goal

abbrev pub invariant-loop-read : goal.invariant-loop-read
invariant-loop-read l =
    SourceTable (recorded l.recording).operations (Gone (member l.fn.reads) (member l.read-iterator.left)) l.table
    × ((r : ℕ) → member l.read-iterator.left r ≡ true → member l.fn.reads r ≡ true)
    × goal.iterator-loop-read.can_next l.read-iterator
    × goal.iterator-loop-read.is_finite l.read-iterator
