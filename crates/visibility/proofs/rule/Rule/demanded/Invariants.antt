use Rattle.rows.specs.Members.{member}
use Rattle.visibility.specs.Sights.{shapes_in, seen_in}
use Rattle.visibility.specs.Visible.{Asked}
use Rattle.visibility.proofs.Below.{Filled}
use Rattle.visibility.proofs.rule.Rule.demanded.Given as goal

abbrev pub invariant-loop-b : goal.invariant-loop-b
invariant-loop-b g l = Filled (Asked (g.Self.Rule.demands l.self) (shapes_in l.sight) (seen_in l.sight) l.a) (member l.demanded) l.b
