use Rattle.std.proofs.Common.{ℕ, get_or, w64, Fits, rules}
use Rattle.rows.proofs.Rows.{has_difference}
use Rattle.rows.proofs.row.Row.difference.Goals as goal

pub returns : goal.returns
returns c =
    let fit : (q : ℕ) → Fits w64 (get_or c.args.other.words q 0) = λ q. search rules in
    has_difference c.args.self.words c.args.other.words c.zip.result.words (search rules) (search rules) (search rules) (λ q. (fit q).fits) (λ q h. search rules)
