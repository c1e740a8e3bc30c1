use Rattle.std.proofs.Common.{◌+◌, ◌-◌, ◌/◌, ◌%◌, ◌^◌, ◌<◌, ap, ◌∙◌, mod-eq_of_lt, one-mul, arith}
use lib.Bits.{bit_and}
use lib.Pow.{pow-lt}
use Rattle.std.proofs.lemmas.Nat.{and_mask}
use Rattle.words.proofs.field.field.Goals as goal

pub returns : goal.returns
returns c =
    let k = c.args.high + 1 - c.args.low in
    let n = c.args.word / 2 ^ c.args.low in
    let small : 2 ^ k < 2 ^ 32 = pow-lt {i = k} {j = 32} (omega arith) in
    ap (λ m. bit_and n (m - 1)) (ap (λ m. m % 2 ^ 32) (one-mul (2 ^ k)) ∙ mod-eq_of_lt small) ∙ and_mask n k
