use Rattle.std.proofs.Common.{refl, arith, rules}
use Rattle.rows.proofs.Rows.{has_with}
use Rattle.rows.proofs.row.Row.with.Goals as goal

pub returns-then-b-lt256 : goal.returns-then-b-lt256
returns-then-b-lt256 c = record { inside = λ h. has_with c.args.self.words c.args.b (search rules) h; outside = λ h. absurd (omega arith) }

pub returns-else-b-lt256 : goal.returns-else-b-lt256
returns-else-b-lt256 c = record { inside = λ h. absurd (omega arith); outside = λ h. refl }
