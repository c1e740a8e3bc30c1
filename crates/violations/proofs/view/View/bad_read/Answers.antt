use Rattle.std.proofs.Common.{◌&&◌, rules}
use Rattle.relation.specs.Steps.{Steps}
use Rattle.rows.specs.Members.{member, related}
use Rattle.visibility.specs.Growth.{Rel}
use Rattle.violations.specs.Explained.{Writes}
use Rattle.violations.specs.Views.{operations_of, seen_of}
use Rattle.violations.specs.Violations.{BadRead}
use Rattle.violations.proofs.Between.{decided_steps}
use Rattle.violations.proofs.Seeking.{smallest_rivals}
use Rattle.violations.proofs.view.View.bad_read.Goals as goal

pub returns : goal.returns
returns c =
    let ops = operations_of c.args.self in
    let V = seen_of c.args.self in
    let m = c.between_writes-between.result in
    let N : Rel = λ a b. member m.mask a && (member m.mask b && related m.relation.words.now a b) in
    smallest_rivals (BadRead ops V) _ (Steps (Writes ops V)) _ c.overtaken.result c.overtaken.ensures (λ r w x p s. record { rival = p.1; steps = s }) (λ r w x b. ((search rules, b.rival), b.steps))
    (λ w row s x. decided_steps N (Writes ops V) c.between_writes-between.ensures.between w x (member row x) (search rules))
