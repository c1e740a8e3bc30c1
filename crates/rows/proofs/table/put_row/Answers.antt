use Rattle.std.proofs.Common.{◌≡◌, length, ap, arith, rules}
use Rattle.std.proofs.lemmas.List.{length-set}
use Rattle.rows.specs.Members.{has}
use Rattle.rows.proofs.Rows.{row_here, row_other}
use Rattle.rows.proofs.table.put_row.Goals as goal

pub returns-then-a-lt256 : goal.returns-then-a-lt256
returns-then-a-lt256 c =
    let l : length c.args.row.words ≡ 4 = search rules in
    record {
      here = λ e h b. ap (λ ws. has ws b) (row_here c.args.table.now c.args.a c.args.row.words l (omega arith));
      others = λ d b ne. ap (λ ws. has ws b) (row_other c.args.table.now c.args.a c.args.row.words l d ne);
      long = simp length-set;
      above = λ h. absurd (omega arith);
      unfit = λ n. absurd (n (omega arith));
    }
