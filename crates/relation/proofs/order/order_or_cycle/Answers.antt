use Rattle.std.proofs.Common.{length, sym, ap, ◌∙◌, subst, arith, rules}
use Rattle.rows.specs.Members.{member}
use Rattle.relation.specs.Orders.{Ordered, Ring}
use Rattle.relation.proofs.Cycles.{ordered_acyclic, ring_cycle}
use Rattle.relation.proofs.Loops.{ring_put, ordered_put}
use Rattle.relation.proofs.order.order_or_cycle.Goals as goal

pub returns-in-None : goal.returns-in-None
returns-in-None g c =
    let R = g.R.Relation.holds c.args.relation.now in
    let M = member c.args.members in
    let n = ap length c.deref.ensures.0 in
    let front = c.put_front.ensures.front (omega arith) ∙ c.deref.ensures.0 in
    let order : Ordered R M c.put_front.new.out c.len.result =
    subst (Ordered R M c.put_front.new.out) (sym c.len.ensures.value)
    (ordered_put R M (member c.arrange-order.result.1) c.arrange-order.result.0.items c.put_front.new.out c.arrange-order.ensures.arranged c.in-None.ensures (search rules)) in
    record { found = (omega arith, omega arith, order, λ i h. c.put_front.ensures.tail i (omega arith)); exactly = ordered_acyclic R M _ _ order }

pub returns-in-Some : goal.returns-in-Some
returns-in-Some g c =
    let R = g.R.Relation.holds c.args.relation.now in
    let M = member c.args.members in
    let n = ap length c.deref-in-Some.ensures.0 in
    let front = c.put_front-in-Some.ensures.front (omega arith) ∙ c.deref-in-Some.ensures.0 in
    let ring : Ring R M c.put_front-in-Some.new.out 0 c.len-in-Some.result =
    subst (Ring R M c.put_front-in-Some.new.out 0) (sym c.len-in-Some.ensures.value)
    (ring_put R M (member c.arrange-order.result.1) c.walk-cycle.result.items c.put_front-in-Some.new.out c.walk-cycle.ensures c.arrange-order.ensures.arranged.some (search rules)) in
    record { found = (omega arith, omega arith, ring, λ i h. c.put_front-in-Some.ensures.tail i (omega arith)); exactly = ring_cycle R M _ 0 _ ring }
