use Rattle.std.proofs.Common.{◌&&◌, ◌||◌, Err, refl, ap, ◌∙◌, subst, rules}
use Rattle.relation.specs.Found.{Found}
use Rattle.rows.specs.Members.{member, related}
use Rattle.visibility.specs.Growth.{Rel}
use Rattle.violations.specs.Views.{operations_of, seen_of}
use Rattle.judgement.proofs.Arbitrating.{arranged, cyclic}
use Rattle.judgement.proofs.scene.Scene.arbitrate.Goals as goal

pub returns-in-Ok : goal.returns-in-Ok
returns-in-Ok c =
    let v = c.args.self.view in
    let m = c.between_writes-between.result in
    let N : Rel = λ a b. member m.mask a && (member m.mask b && related m.relation.words.now a b) in
    arranged (operations_of v) (seen_of v) (member m.mask) c.between_writes-between.ensures.writes N c.between_writes-between.ensures.between c.args.conflicts.words.now c.requires c.args.evidence.now c.order_or_cycle.new.out (search rules) c.in-Ok.count c.in-Ok.ensures.found

pub returns-in-Err-Cycle : goal.returns-in-Err-Cycle
returns-in-Err-Cycle c =
    let v = c.args.self.view in
    let m = c.between_writes-between.result in
    let N : Rel = λ a b. member m.mask a && (member m.mask b && related m.relation.words.now a b) in
    let t = c.args.conflicts.words.now in
    let found = subst (Found (λ a b. N a b || related t a b) (member m.mask) c.args.evidence.now c.order_or_cycle.new.out) (c.in-Err-Cycle.is ∙ ap Err c.in-Err-Cycle.field-0-is) c.order_or_cycle.ensures.found in
    (refl, cyclic (operations_of v) (seen_of v) (member m.mask) c.between_writes-between.ensures.writes N c.between_writes-between.ensures.between t c.requires c.args.evidence.now c.order_or_cycle.new.out (search rules) c.in-Err-Cycle.count found)
