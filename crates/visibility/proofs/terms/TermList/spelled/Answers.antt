use Rattle.std.proofs.Common.{rules, ◌≡◌, length, take, ap, sym, ◌∙◌, subst, arith}
use lib.Seq.{take-length}
use Rattle.visibility.specs.Drafts.{done_of, current_of}
use Rattle.visibility.specs.Reading.{SpellingAnswer}
use Rattle.visibility.proofs.Spelled.{Drafted}
use Rattle.visibility.proofs.Readings.{taken_at, refused_at, answered}
use Rattle.visibility.proofs.terms.TermList.spelled.Goals as goal

pub returns-in_err-map_err : goal.returns-in_err-map_err
returns-in_err-map_err c =
    let d = c.loop-place.draft in
    let e = c.take.new.self in
    let at = refused_at c.args.bytes.now c.loop-place.place-counter (done_of d) (done_of e) (current_of d) (current_of e) c.loop-place-test.true c.loop-place.invariant
    c.take.result (search rules) c.take.ensures in
    search rules

pub loop-place-preserved : goal.loop-place-preserved
loop-place-preserved c =
    let d = c.loop-place.draft in
    let e = c.take.new.self in
    taken_at c.args.bytes.now c.loop-place.place-counter (done_of d) (done_of e) (current_of d) (current_of e) c.loop-place-test.true c.loop-place.invariant
    c.take.result (search rules) c.take.ensures

pub returns : goal.returns
returns c =
    let d = c.loop-place.draft in
    let bytes = c.args.bytes.now in
    let all : c.loop-place.place-counter ≡ length bytes = omega arith in
    let read = subst (λ l. Drafted l (done_of d) (current_of d)) (ap (λ n. take n bytes) all ∙ take-length bytes) c.loop-place.invariant in
    subst (SpellingAnswer bytes) (sym c.ok_or.ensures.value) (answered bytes (done_of d) (current_of d) read c.finished.result c.finished.ensures)
