use Rattle.std.proofs.Common.{eqb, arith}
use Rattle.std.proofs.lemmas.List.Sums.{count_by-le-length}
use Rattle.recording.proofs.Appending.{in_range_more, nonzero_more, apart_more, kept_more}
use Rattle.recording.proofs.recording.Recording.append.Goals as goal

pub note-requires-clause-room : goal.note-requires-clause-room
note-requires-clause-room c =
    let ops = c.args.self.now.operations.items in
    let s = c.args.operation.station in
    omega (arith, (c.args.self.now.kept s (omega arith)).0, count_by-le-length (λ x. eqb x.station s) ops)

pub invariant_of-self-clause-range : goal.invariant_of-self-clause-range
invariant_of-self-clause-range c = rw c.push.ensures.items (in_range_more c.args.self.now.operations.items c.args.operation c.args.self.now.stations c.requires.allowed c.args.self.now.range)

pub invariant_of-self-clause-nonzero : goal.invariant_of-self-clause-nonzero
invariant_of-self-clause-nonzero c = rw c.push.ensures.items (nonzero_more c.args.self.now.operations.items c.args.operation c.args.self.now.stations c.requires.allowed c.args.self.now.nonzero)

pub invariant_of-self-clause-apart : goal.invariant_of-self-clause-apart
invariant_of-self-clause-apart c = rw c.push.ensures.items (apart_more c.args.self.now.operations.items c.args.operation c.args.self.now.stations c.requires.allowed c.args.self.now.apart)

pub invariant_of-self-clause-kept : goal.invariant_of-self-clause-kept
invariant_of-self-clause-kept c =
    let r = c.args.self.now in
    rw (c.push.ensures.items, c.note.ensures.noted, c.len-number.ensures.value)
    (kept_more r.operations.items c.args.operation r.table.entries c.note.ensures.sixteen (omega arith) r.kept)
