use Rattle.std.proofs.Common.{◌≡◌, ◌/◌, ◌%◌, length, get_or, sym, refl, ◌∙◌, arith, rules}
use Rattle.std.proofs.lemmas.Bool.{le-ltb}
use Rattle.rows.proofs.Bit.{bit_test}
use Rattle.rows.proofs.Rows.{has_word, has_past}
use Rattle.rows.proofs.row.Row.contains.Goals as goal

pub returns-then-b-lt256 : goal.returns-then-b-lt256
returns-then-b-lt256 c =
    bit_test (get_or c.args.self.words (c.args.b / 64) 0) (c.args.b % 64)
    ∙ sym (has_word c.args.self.words (c.args.b / 64) c.args.b refl)

pub returns-else-b-lt256 : goal.returns-else-b-lt256
returns-else-b-lt256 c =
    let l : length c.args.self.words ≡ 4 = search rules in
    le-ltb c.args.b 256 c.if-b-lt256.false ∙ sym (has_past c.args.self.words 4 c.args.b l (omega arith))
