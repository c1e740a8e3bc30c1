use Rattle.std.proofs.Common.{◌≡◌, ℕ, List, length, get_or, sym, ap, ◌∙◌, w64, Fits, rules}
use Rattle.std.proofs.lemmas.Slice.Eq.{slice_eq-Decides}
use Rattle.std.proofs.lemmas.Bool.Decides.{Decides-like, Decides-eqb}
use Rattle.rows.specs.Members.{has}
use Rattle.rows.proofs.Rows.{same_rows}
use Rattle.rows.proofs.row.Row.same.Goals as goal

pub returns : goal.returns
returns c =
    let xs : List ℕ = c.args.self.words in
    let ys : List ℕ = c.args.other.words in
    let l : length c.args.self.words ≡ 4 = search rules in
    let m : length c.args.other.words ≡ 4 = search rules in
    let f : (q : ℕ) → Fits w64 (get_or c.args.self.words q 0) = λ q. search rules in
    let g : (q : ℕ) → Fits w64 (get_or c.args.other.words q 0) = λ q. search rules in
    let d = slice_eq-Decides Decides-eqb xs ys c.eq.result c.eq.ensures in
    Decides-like c.eq.result (λ e k. ap (λ (ws : List ℕ). has ws k) e) (same_rows xs ys (l ∙ sym m) (λ q. (f q).fits) (λ q. (g q).fits)) d
