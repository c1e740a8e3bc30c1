use Rattle.std.proofs.Common.{sym, ◌∙◌}
use Rattle.rows.proofs.Rows.{row_past}
use Rattle.rows.proofs.table.Table.row.Goals as goal

pub returns-else-a-lt256 : goal.returns-else-a-lt256
returns-else-a-lt256 c = λ b. c.empty.ensures b ∙ sym (row_past c.args.self.words.now c.args.a c.args.self.full c.if-a-lt256.false b)
