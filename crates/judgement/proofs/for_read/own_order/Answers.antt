use Rattle.std.proofs.Common.{◌≡◌, length, rules}
use Rattle.recording.specs.Telling.{recorded}
use Rattle.rows.specs.Members.{related}
use Rattle.judgement.proofs.Judging.{order_clean, order_given}
use Rattle.judgement.proofs.Recordings.{valid_of}
use Rattle.judgement.proofs.for_read.own_order.Goals as goal

pub order_writes-requires : goal.order_writes-requires
order_writes-requires g c =
    order_clean (g.R.Rule.demands c.args.rule.now) (g.R.Rule.known c.args.rule.now) (recorded c.args.recording.now).operations (valid_of c.args.recording.now) c.own_verdict.result
    (related c.own_verdict.new.seen) c.args.evidence.now c.own_verdict.new.evidence c.own_verdict.ensures c.in_ok-grant.ensures

pub returns : goal.returns
returns g c =
    let long : length c.own_verdict.new.evidence ≡ 256 = search rules in
    order_given (g.R.Rule.demands c.args.rule.now) (g.R.Rule.known c.args.rule.now) (recorded c.args.recording.now).operations (valid_of c.args.recording.now) c.own_verdict.result
    (related c.own_verdict.new.seen) c.args.evidence.now c.own_verdict.new.evidence c.own_verdict.ensures c.in_ok-grant.ensures
    long c.args.read c.order_writes.result c.order_writes.new.evidence c.requires c.order_writes.ensures
