use Rattle.std.proofs.Common.{◌≡◌, ℕ, true, not, ◌&&◌, length}
use Rattle.rows.specs.Members.{member, related}
use Rattle.sessions.proofs.station_view.StationView.put_past.Given as goal

-- the table holds what is seen among the past, in all of its rows but those that are left
abbrev pub invariant-loop-a : goal.invariant-loop-a
invariant-loop-a l =
    (length l.table ≡ 1024)
    × ((a b : ℕ) → related l.table a b ≡ ((member l.past a && not (member l.a-iterator.left a)) && (related l.self.view.seen.words.now a b && member l.past b)))
    × ((a : ℕ) → member l.a-iterator.left a ≡ true → member l.past a ≡ true)
    × goal.iterator-loop-a.can_next l.a-iterator
    × goal.iterator-loop-a.is_finite l.a-iterator
