use Rattle.rows.proofs.Rows.{has_nothing}
use Rattle.rows.proofs.row.Row.empty.Goals as goal

pub returns : goal.returns
returns c = has_nothing
