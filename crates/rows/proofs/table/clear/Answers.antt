use Rattle.std.proofs.Common.{length, ap, ◌∙◌, rules}
use Rattle.rows.specs.Members.{related}
use Rattle.rows.proofs.Rows.{table_nothing}
use Rattle.rows.proofs.table.clear.Goals as goal

pub returns-clause-pairs : goal.returns-clause-pairs
returns-clause-pairs c = λ a b. ap (λ t. related t a b) (search rules) ∙ table_nothing (length c.args.table.now) a b
