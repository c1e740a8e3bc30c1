use Rattle.std.proofs.Common.{◌≡◌, length}
use Rattle.crosscheck.proofs.ordering.order_of.Given as goal

abbrev pub invariant-loop-place : goal.invariant-loop-place
invariant-loop-place l = length l.writes.items ≡ l.place-end
