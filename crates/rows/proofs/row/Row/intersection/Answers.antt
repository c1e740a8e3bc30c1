use Rattle.std.proofs.Common.{rules}
use Rattle.rows.proofs.Rows.{has_intersection}
use Rattle.rows.proofs.row.Row.intersection.Goals as goal

pub returns : goal.returns
returns c = has_intersection c.args.self.words c.args.other.words c.zip.result.words (search rules) (search rules) (search rules) (λ q h. search rules)
