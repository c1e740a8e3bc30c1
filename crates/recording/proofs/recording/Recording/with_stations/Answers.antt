use Rattle.std.proofs.Common.{None}
use Rattle.recording.specs.Stations.{last_from}
use Rattle.recording.proofs.recording.Recording.with_stations.Goals as goal

-- no operations, and no entry changed
pub invariant_of-result-clause-kept : goal.invariant_of-result-clause-kept
unfolding last_from
invariant_of-result-clause-kept c = rw c.new.ensures (λ s low. let e = c.default.ensures.at s (record { count = 0; last = None }) low in (e.0, e.1))
