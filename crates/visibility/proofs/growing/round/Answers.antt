use Rattle.std.proofs.Common.{arith}
use Rattle.visibility.proofs.Rounds.{grown_next}
use Rattle.visibility.proofs.growing.round.Goals as goal

pub loop-a-preserved : goal.loop-a-preserved
loop-a-preserved g c = grown_next _ _ _ _ _ _ _ _ _ (omega arith) c.loop-a.invariant c.grow_row-changed.ensures
