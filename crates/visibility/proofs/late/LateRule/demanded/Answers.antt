use Rattle.std.proofs.Common.{ap, ◌∙◌, arith}
use Rattle.rows.specs.Members.{member}
use Rattle.visibility.specs.Sights.{shapes_in}
use Rattle.visibility.proofs.Lates.{late_first, late_next}
use Rattle.visibility.proofs.late.LateRule.demanded.Goals as goal

pub loop-init : goal.loop-init
loop-init c =
    late_first (shapes_in c.args.sight) c.args.a (member c.members-later.result.left) (λ b. ap (λ r. member r b) c.members-later.ensures ∙ c.later.ensures b)

pub loop-preserved : goal.loop-preserved
loop-preserved c =
    late_next (shapes_in c.args.sight) c.args.a c.loop.counter (omega arith) (member c.loop.later.left) c.loop.invariant _ _ c.next.ensures.steps
