use Rattle.judgement.specs.Passing.{Passed}
use Rattle.violations.specs.Views.{operations_of, seen_of}
use Rattle.judgement.proofs.scene.Scene.pass_stations.Given as goal

abbrev pub invariant-loop-station : goal.invariant-loop-station
invariant-loop-station l = Passed (operations_of l.self.view) (seen_of l.self.view) l.station l.cyclic
