use Rattle.std.proofs.Common.{◌≡◌, subst, rules}
use Rattle.recording.specs.Telling.{recorded}
use Rattle.rows.specs.Members.{related}
use Rattle.judgement.specs.Ordered.{OrderFound}
use Rattle.judgement.specs.Verdicts.{lent}
use Rattle.judgement.proofs.Judging.{order_answered}
use Rattle.judgement.proofs.for_read.order_for_read.Goals as goal

pub returns : goal.returns
returns g c =
    let D = g.R.Rule.demands c.args.rule.now in
    let label = g.R.Rule.known c.args.rule.now in
    let ops = (recorded c.args.recording.now).operations in
    let V = related c.own_order.new.seen in
    let after = c.own_order.new.evidence in
    let whole : c.in_ok-evidence.evidence.now ≡ c.args.evidence.now = search rules in
    record {
      answered = order_answered D label ops c.args.read (lent c.args.seen.now c.args.working.now c.args.evidence.now) (lent c.own_order.new.seen c.in_ok-ok_or.field-0.now after) (search rules) (search rules)
          c.own_order.result (subst (λ before. OrderFound D label ops c.args.read V before after c.own_order.result) whole c.own_order.ensures);
    }
