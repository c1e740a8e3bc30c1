use Rattle.std.proofs.Common.{ℕ, ◌<◌}
use Rattle.violations.specs.Views.{operations_of, seen_of}
use Rattle.sessions.specs.Happening.{HbInitRead}
use Rattle.sessions.proofs.station_view.StationView.hb_init_read.Given as goal

abbrev pub invariant-loop-read : goal.invariant-loop-read
invariant-loop-read l = (k x : ℕ) → k < l.read → ¬ HbInitRead (operations_of l.self.view) l.self.last (seen_of l.self.view) k x
