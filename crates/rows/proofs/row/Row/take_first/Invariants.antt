use Rattle.std.proofs.Common.{◌≡◌, ℕ, ◌*◌, ◌<◌, false}
use Rattle.rows.specs.Members.{has}
use Rattle.rows.proofs.row.Row.take_first.Given as goal

abbrev pub invariant-loop-i : goal.invariant-loop-i
invariant-loop-i l = (l.self ≡ l.fn.self) × ((k : ℕ) → k < 64 * l.i → has l.self.words k ≡ false)
