use Rattle.std.proofs.Common.{rules, ◌∙◌, sym, inr, arith}
use Rattle.std.proofs.lemmas.Result.{err_from_is_err_and}
use Rattle.words.proofs.Meaning.{loads_more, loads_refused, loads_fault, loads_all, passed_on}
use Rattle.words.proofs.loading.load.Goals as goal

pub returns-in_err-place : goal.returns-in_err-place
returns-in_err-place c =
    let p = err_from_is_err_and c.from_residual.result c.from_residual.ensures.1 in
    rw (p.1, p.2) (inr (omega arith, c.loop-place.invariant _ _ (loads_fault _ _ _ _ c.in_err-place.ensures)))

pub loop-place-preserved : goal.loop-place-preserved
loop-place-preserved c answer after loads =
    let next = rw c.in-Some.is at c.in_ok-place.ensures in
    let passed = passed_on c.in-Some.field-0.place c.tell_record.result c.map_err.result _ c.map_err.ensures.cases (λ e x q. search rules) in
    c.loop-place.invariant answer after (loads_more _ _ _ _ _ _ _ answer after next c.tell_record.ensures (sym passed ∙ c.in_ok-map_err.was) loads)

pub returns-in_err-map_err : goal.returns-in_err-map_err
returns-in_err-map_err c =
    let p = err_from_is_err_and c.from_residual-in_err-map_err.result c.from_residual-in_err-map_err.ensures.1 in
    let next = rw c.in-Some.is at c.in_ok-place.ensures in
    let passed = passed_on c.in-Some.field-0.place c.tell_record.result c.map_err.result _ c.map_err.ensures.cases (λ e x q. search rules) in
    rw (p.1, p.2) (inr (omega arith, c.loop-place.invariant _ _ (loads_refused _ _ _ _ _ _ _ next c.tell_record.ensures (sym passed ∙ c.in_err-map_err.was))))

pub returns : goal.returns
returns c = inr (omega arith, rw c.count.ensures (c.loop-place.invariant _ _ (loads_all _ _ _ (rw c.in_default.is at c.in_ok-place.ensures))))
