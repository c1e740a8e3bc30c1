use Rattle.std.proofs.Common.{◌≤◌, arith, rules}
use lib.Count.{ones}
use Rattle.std.proofs.lemmas.Nat.{ones-le}
use Rattle.rows.proofs.row.ones_in.Goals as goal

pub overflow_cast-result : goal.overflow_cast-result
overflow_cast-result c =
    let few : ones c.args.word ≤ 64 = ones-le 64 c.args.word (omega arith) in
    search rules
