use Rattle.std.proofs.Common.{get_or, arith, w64, Fits, refl, rules}
use Rattle.rows.proofs.Rows.{none_more, none_taken, first_taken}
use Rattle.rows.proofs.row.Row.first.Goals as goal

pub loop-i-init : goal.loop-i-init
loop-i-init c = λ k h. absurd (omega arith)

pub returns-then-word-ne0 : goal.returns-then-word-ne0
returns-then-word-ne0 c =
    let fit : Fits w64 (get_or c.args.self.words c.loop-i.i 0) = search rules in
    (first_taken c.args.self.words c.args.self.words c.loop-i.i refl (search rules) c.loop-i.invariant c.loop-i-test.true fit.fits c.if-word-ne0.true).smallest

pub loop-i-preserved : goal.loop-i-preserved
loop-i-preserved c = none_more c.args.self.words c.loop-i.i c.loop-i.invariant c.if-word-ne0.false

pub returns : goal.returns
returns c = (none_taken c.args.self.words c.args.self.words c.loop-i.i refl (search rules) c.loop-i.invariant c.loop-i-test.false).smallest
