use Rattle.std.proofs.Common.{rules, ◌<◌, arith}
use Rattle.recording.proofs.Appending.{kept_entry}
use Rattle.recording.proofs.recording.Recording.entry.Goals as goal

pub returns : goal.returns
returns c =
    let r = c.args.self.now in
    let here = λ (inside : c.args.station < r.stations). kept_entry r.operations.items r.table.entries c.args.station r.kept (omega arith) in
    search (rules, here)
