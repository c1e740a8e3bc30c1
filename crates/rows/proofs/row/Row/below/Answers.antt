use Rattle.std.proofs.Common.{rules}
use Rattle.rows.proofs.Rows.{has_below_n}
use Rattle.rows.proofs.row.Row.below.Goals as goal

pub returns : goal.returns
returns c = has_below_n c.args.n c.from_fn.result (search rules) (λ q h i low. let f = c.from_fn.ensures.items.at q 0 h in search (rules, f))
