use Rattle.std.proofs.Common.{◌≡◌, ◌&&◌, ◌||◌, eqb, ltb, length, subst, rules}
use Rattle.relation.specs.Found.{Found}
use Rattle.rows.specs.Members.{member, related}
use Rattle.visibility.specs.Growth.{Rel}
use Rattle.violations.specs.Views.{operations_of, seen_of}
use Rattle.judgement.proofs.Arbitrating.{never_stuck, ordered_for}
use Rattle.judgement.proofs.Recordings.{valid_of}
use Rattle.judgement.proofs.for_read.order_writes.Goals as goal

pub unwrap-requires : goal.unwrap-requires
unwrap-requires c =
    let v = c.args.view in
    let t = c.forced.result in
    let m = c.between_writes-between.result in
    let N : Rel = λ a b. member m.mask a && (member m.mask b && related m.relation.words.now a b) in
    never_stuck (operations_of v) (valid_of v.recording.now) (seen_of v) c.requires c.args.read (member m.mask) c.between_writes-between.ensures.writes N c.between_writes-between.ensures.between (λ a b. member t.from a && (ltb t.to 256 && eqb b t.to)) c.forced.ensures
    c.args.evidence.now c.order_or_cycle.new.out (search rules) c.order_or_cycle.result c.order_or_cycle.ensures.found c.order_or_cycle.ensures.exactly

pub returns : goal.returns
returns c =
    let v = c.args.view in
    let t = c.forced.result in
    let m = c.between_writes-between.result in
    let N : Rel = λ a b. member m.mask a && (member m.mask b && related m.relation.words.now a b) in
    let long : length c.order_or_cycle.new.out ≡ 256 = search rules in
    ordered_for (operations_of v) (valid_of v.recording.now) (seen_of v) c.requires c.args.read (member m.mask) c.between_writes-between.ensures.writes N c.between_writes-between.ensures.between (λ a b. member t.from a && (ltb t.to 256 && eqb b t.to)) c.forced.ensures c.args.evidence.now
    c.order_or_cycle.new.out (search rules) long c.unwrap.result
    (subst (Found (λ a b. N a b || (member t.from a && (ltb t.to 256 && eqb b t.to))) (member m.mask) c.args.evidence.now c.order_or_cycle.new.out) c.unwrap.ensures c.order_or_cycle.ensures.found)
