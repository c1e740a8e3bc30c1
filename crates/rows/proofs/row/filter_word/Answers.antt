use Rattle.std.proofs.Common.{rules}
use Rattle.rows.proofs.Bit.{bit_none}
use Rattle.rows.proofs.Rows.{bit_added}
use Rattle.rows.proofs.row.filter_word.Goals as goal

pub loop-b-init : goal.loop-b-init
loop-b-init g c = search (rules, bit_none)

pub loop-b-preserved-then-passes : goal.loop-b-preserved-then-passes
loop-b-preserved-then-passes g c =
    let more = bit_added c.loop-b.passed c.in-Some.b c.in-Some.ensures.steps.low in
    search (rules, more)
