use Rattle.std.proofs.Common.{ℕ, ◌<◌}
use Rattle.violations.specs.Views.{operations_of, seen_of}
use Rattle.sessions.specs.Happening.{CyclicHb}
use Rattle.sessions.proofs.station_view.StationView.cyclic_hb.Given as goal

abbrev pub invariant-loop-read : goal.invariant-loop-read
invariant-loop-read l = (k w x : ℕ) → k < l.read → ¬ CyclicHb (operations_of l.self.view) l.self.last (seen_of l.self.view) k w x
