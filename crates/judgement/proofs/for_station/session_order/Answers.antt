use Rattle.std.proofs.Common.{◌≡◌, length, rules}
use Rattle.recording.specs.Telling.{recorded}
use Rattle.rows.specs.Members.{related}
use Rattle.judgement.proofs.Sessioning.{listing_given, nothing_given}
use Rattle.judgement.proofs.for_station.session_order.Goals as goal

pub returns-in-Some : goal.returns-in-Some
returns-in-Some c =
    let room : length c.session_verdict.new.evidence ≡ 256 = search rules in
    listing_given (recorded c.args.recording.now).operations c.session_verdict.result (related c.session_verdict.new.seen) c.args.evidence.now c.session_verdict.new.evidence
    c.session_verdict.ensures c.in_ok-grant.ensures room c.args.station c.in-Some.last c.list_past.result c.list_past.new.evidence c.in-Some.ensures c.list_past.ensures

pub returns-in-None : goal.returns-in-None
returns-in-None c =
    let room : length c.session_verdict.new.evidence ≡ 256 = search rules in
    nothing_given (recorded c.args.recording.now).operations c.session_verdict.result (related c.session_verdict.new.seen) c.args.evidence.now c.session_verdict.new.evidence
    c.session_verdict.ensures c.in_ok-grant.ensures room c.args.station c.in-None.ensures
