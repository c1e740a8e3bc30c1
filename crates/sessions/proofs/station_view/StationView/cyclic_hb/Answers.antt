use Rattle.std.proofs.Common.{arith}
use Rattle.sessions.proofs.station_view.StationView.cyclic_hb.Goals as goal

pub returns-in-Some : goal.returns-in-Some
returns-in-Some c =
    let f = c.in-Some.ensures in
    (f.0.1, λ k w x h. c.loop-read.invariant k w x (let e = f.0.0 in omega arith), λ w x h p. f.2 w x h (f.0.0, p))
