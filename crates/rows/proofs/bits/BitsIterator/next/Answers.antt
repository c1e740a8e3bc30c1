use Rattle.std.proofs.Common.{rules, w64, Fits}
use lib.Bits.{bit_and}
use lib.Count.{count_trailing_zeros}
use Rattle.std.proofs.Common.{◌-◌, ℕ, Some}
use Rattle.rows.specs.Members.{bit}
use Rattle.rows.proofs.Bit.{no_bit, next_bit}
use Rattle.rows.proofs.Sizes.{next_smaller}
use Rattle.rows.proofs.bits.BitsIterator.next.Goals as goal

pub returns-then-self-eq0-clause-steps : goal.returns-then-self-eq0-clause-steps
returns-then-self-eq0-clause-steps c = no_bit c.args.self.now.left c.if-self-eq0.true

pub returns-clause-steps : goal.returns-clause-steps
returns-clause-steps c =
    let fit : Fits w64 c.args.self.now.left = search rules in next_bit c.args.self.now.left c.if-self-eq0.false fit.fits

-- a word without its lowest bit has one bit less
pub returns-clause-goes : goal.returns-clause-goes
returns-clause-goes c =
    let w : ℕ = c.args.self.now.left in
    let fit : Fits w64 w = search rules in
    let n = next_bit w c.if-self-eq0.false fit.fits in
    let s = next_smaller (bit w) (bit (bit_and w (w - 1))) (Some (count_trailing_zeros 64 w)) n.next in
    search (rules, s)
