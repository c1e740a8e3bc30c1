use Rattle.std.proofs.Common.{◌≡◌, ◌≤◌, ℕ, get_or, ◌∙◌, w64, Fits, rules, count_ones, arith}
use Rattle.std.specs.List.{sum_by}
use Rattle.std.proofs.iter.runs.Made.{chains}
use Rattle.rows.specs.Members.{has}
use Rattle.rows.proofs.Sizes.{size_words, size_le}
use Rattle.rows.proofs.row.Row.count.Goals as goal

pub sum-requires-clause-fits : goal.sum-requires-clause-fits
sum-requires-clause-fits c =
    let fit : (q : ℕ) → Fits w64 (get_or c.args.self.words q 0) = λ q. search rules in
    let few = size_le (has c.args.self.words) 256 in
    let all = size_words c.args.self.words (search rules) (λ q. (fit q).fits) in
    let low : sum_by count_ones c.args.self.words ≤ 256 = omega arith in
    search (rules, chains, low)

pub returns : goal.returns
returns c =
    let fit : (q : ℕ) → Fits w64 (get_or c.args.self.words q 0) = λ q. search rules in
    let s : c.sum.result ≡ sum_by count_ones c.args.self.words = search rules in
    s ∙ size_words c.args.self.words (search rules) (λ q. (fit q).fits)
