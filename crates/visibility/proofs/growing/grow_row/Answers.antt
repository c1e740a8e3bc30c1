use Rattle.std.proofs.Common.{rules}
use Rattle.std.proofs.lemmas.Bool.Decides.{not_from_Decides}
use Rattle.rows.specs.Members.{member}
use Rattle.visibility.specs.Shapes.{shapes_of}
use Rattle.visibility.specs.Visible.{Asked}
use Rattle.visibility.proofs.Rounds.{row_grown}
use Rattle.visibility.proofs.growing.grow_row.Goals as goal

pub returns : goal.returns
returns g c =
    row_grown (Asked (g.R.Rule.demands c.args.rule.now) (shapes_of c.args.outline.now)) c.args.a c.args.table.now (member c.row-old.result)
    (member c.demanded.result) (member c.union-new.result) c.requires (search rules) c.row-old.ensures c.demanded.ensures c.union-new.ensures
    (λ P Q i a b d. record { first = d.first; second = d.second; demanded = g.met.R.Rule.grows c.args.rule.now (shapes_of c.args.outline.now) P Q i a b d.demanded })
    c.put_row.new.table (λ b. c.put_row.ensures.here (search rules) c.requires b) c.put_row.ensures.others (search rules)
    (not_from_Decides c.same.result c.same.ensures c.if-same.false)
