use Rattle.std.proofs.Common.{rules}
use Rattle.rows.proofs.Rows.{has_union}
use Rattle.rows.proofs.row.Row.union.Goals as goal

pub returns : goal.returns
returns c = has_union c.args.self.words c.args.other.words c.zip.result.words (search rules) (search rules) (search rules) (λ q h. search rules)
