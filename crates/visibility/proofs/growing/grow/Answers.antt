use Rattle.std.proofs.Common.{◌-◌, ◌/◌, ◌%◌, ◌<◌, length, arith}
use Rattle.rows.specs.Members.{related}
use Rattle.rows.proofs.Sizes.{size_le}
use Rattle.visibility.specs.Growth.{filled}
use Rattle.visibility.specs.Shapes.{shapes_of}
use Rattle.visibility.specs.Visible.{Asked}
use Rattle.visibility.proofs.Rounds.{grown_least}
use Rattle.visibility.proofs.growing.grow.Goals as goal

pub loop-table-smaller : goal.loop-table-smaller
loop-table-smaller g c =
    let m = c.round.ensures.more c.loop-table-test.true in
    let b = size_le (λ k. related c.round.new.table (k / 256) (k % 256)) 65536 in
    let l : 65536 - filled c.round.new.table < 65536 - filled c.loop-table.table = omega arith in
    l

pub loop-table-preserved : goal.loop-table-preserved
loop-table-preserved g c =
    let r = c.round.ensures in
    ((λ a b h. r.holds a b (c.loop-table.invariant.0 a b h)), λ S i d. r.within S (c.loop-table.invariant.1 S i d) d)

pub returns-after-loop-table-clause-least : goal.returns-after-loop-table-clause-least
returns-after-loop-table-clause-least g c = λ _.
    let f = shapes_of c.args.outline.now in
    grown_least (Asked (g.R.Rule.demands c.args.rule.now) f) (length f) (λ Q a b d. d.first) c.args.table.now c.loop-table.table c.round.new.table c.round.result
    c.loop-table.invariant.0 c.loop-table.invariant.1 c.round.ensures c.loop-table-test.false
