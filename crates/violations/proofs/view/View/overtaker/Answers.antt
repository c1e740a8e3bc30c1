use Rattle.std.proofs.Common.{sym, ◌∙◌, min, arith, rules}
use Rattle.std.proofs.lemmas.Bool.{ltb-true}
use Rattle.rows.specs.Members.{member}
use Rattle.violations.specs.Views.{operations_of, seen_of}
use Rattle.violations.specs.Violations.{Rival}
use Rattle.violations.proofs.Seeking.{rival_found}
use Rattle.violations.proofs.view.View.overtaker.Goals as goal

pub returns : goal.returns
returns g c =
    rival_found (Rival (operations_of c.args.self) (seen_of c.args.self) c.args.read c.args.source) (λ row. g.F.Fn.post c.args.after.now (c.args.source, tt) row) c.after.result (member c.difference.result)
    (member c.below.result) _ _ c.in_ok-first.first c.find.result c.find.ensures c.difference.ensures (λ k b. omega (arith, ltb-true k (min c.in_ok-first.first 256) (sym (c.below.ensures k) ∙ b))) c.in_ok-first.ensures.1
    (λ k s. search rules) (λ k s. search rules) c.after.ensures
