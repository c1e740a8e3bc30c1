use Rattle.std.proofs.Common.{sym, ◌∙◌}
use Rattle.std.proofs.lemmas.Bool.Decides.{Decides-like}
use Rattle.rows.proofs.row.Row.is_empty.Goals as goal

pub returns : goal.returns
returns c = Decides-like c.same.result (λ e k. e k ∙ c.empty.ensures k) (λ e k. e k ∙ sym (c.empty.ensures k)) c.same.ensures
