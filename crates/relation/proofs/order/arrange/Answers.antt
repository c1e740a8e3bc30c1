use Rattle.std.proofs.Common.{◌<◌, length, sym, subst, arith, rules}
use Rattle.rows.specs.Counts.{size}
use Rattle.rows.specs.Members.{member}
use Rattle.rows.proofs.Sizes.{size_without}
use Rattle.relation.specs.Orders.{Arranged}
use Rattle.relation.proofs.Loops.{room, arranged_more}
use Rattle.relation.proofs.order.arrange.Goals as goal

pub push-requires : goal.push-requires
push-requires g c =
    let f = c.in-Some.ensures in
    let r = room (member c.loop-k.left) (member c.args.members) (length c.loop-k.order.items) c.in-Some.k c.loop-k.invariant.1 f.0 f.1 in
    search rules

pub loop-k-smaller : goal.loop-k-smaller
loop-k-smaller g c =
    let f = c.in-Some.ensures in
    let d = size_without (member c.loop-k.left) (member c.without-left.result) c.in-Some.k 256 f.0 f.1 c.without-left.ensures in
    let l : size (member c.without-left.result) 256 < size (member c.loop-k.left) 256 = omega arith in
    l

pub loop-k-preserved : goal.loop-k-preserved
loop-k-preserved g c =
    let R = g.R.Relation.holds c.args.relation.now in
    let M = member c.args.members in
    let left = member c.without-left.result in
    let f = c.in-Some.ensures in
    let d = size_without (member c.loop-k.left) left c.in-Some.k 256 f.0 f.1 c.without-left.ensures in (
      subst (λ xs. Arranged R M left xs (length xs)) (sym c.push.ensures.items)
          (arranged_more R M (member c.loop-k.left) left c.loop-k.order.items c.in-Some.k c.loop-k.invariant.0 f.1 f.2 c.without-left.ensures),
      omega (arith, c.loop-k.invariant.1, c.push.ensures.len),
    )
