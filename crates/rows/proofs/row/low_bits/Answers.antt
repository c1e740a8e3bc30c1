use Rattle.std.proofs.Common.{◌-◌, sym, ap, ◌∙◌, arith}
use Rattle.std.proofs.lemmas.Nat.{one_shl}
use Rattle.std.proofs.lemmas.Bool.{lt-ltb}
use Rattle.rows.specs.Members.{bit}
use Rattle.rows.proofs.Bit.{bit_ones}
use Rattle.rows.proofs.row.low_bits.Goals as goal

pub returns-then-n-lt64 : goal.returns-then-n-lt64
returns-then-n-lt64 c = λ i h. ap (λ x. bit (x - 1) i) (one_shl c.args.n 64 c.if-n-lt64.true) ∙ bit_ones c.args.n i

pub returns-else-n-lt64 : goal.returns-else-n-lt64
returns-else-n-lt64 c = λ i h. bit_ones 64 i ∙ lt-ltb i 64 h ∙ sym (lt-ltb i c.args.n (omega arith))
