use Rattle.rows.specs.Members.{related}
use Rattle.violations.specs.Views.{operations_of, seen_of}
use Rattle.sessions.proofs.Happenings.{happened_before}
use Rattle.sessions.proofs.station_view.StationView.put_happened.Goals as goal

pub returns-in-Some-clause-happened : goal.returns-in-Some-clause-happened
returns-in-Some-clause-happened c =
    let view = c.args.self.view in
    let grown = rw c.from.ensures at (c.grow.ensures.least c.put_past.ensures.long) in
    λ g. happened_before (operations_of view) (seen_of view) c.args.self.last g.inside g.within c.of.result.words c.put_past.new.table c.of.ensures c.put_past.ensures (related c.grow.new.table) grown
