use Rattle.std.proofs.Common.{rules}
use Rattle.rows.proofs.Rows.{has_without, has_without_past}
use Rattle.rows.proofs.row.Row.without.Goals as goal

pub returns-then-b-lt256 : goal.returns-then-b-lt256
returns-then-b-lt256 c = has_without c.args.self.words c.args.b (search rules) c.if-b-lt256.true

pub returns-else-b-lt256 : goal.returns-else-b-lt256
returns-else-b-lt256 c = λ k. has_without_past c.args.self.words c.args.b k (search rules) c.if-b-lt256.false
