use Rattle.std.proofs.Common.{sym, ap, ◌∙◌, subst, rules}
use Rattle.recording.specs.Telling.{recorded}
use Rattle.rows.specs.Members.{related}
use Rattle.judgement.specs.Showing.{verdict_of}
use Rattle.judgement.specs.Verdicts.{SessionJudged}
use Rattle.judgement.proofs.Sessioning.{session_judged}
use Rattle.judgement.proofs.Recordings.{valid_of}
use Rattle.judgement.proofs.session.session_verdict.Goals as goal

pub returns : goal.returns
returns c =
    let r = c.args.recording.now in
    let V = related c.least_visibility.new.table in
    let before = c.args.evidence.now in
    let after = c.check_session.new.evidence in
    subst (λ v. SessionJudged (recorded r).operations v V before after) (sym (c.of.ensures ∙ ap (verdict_of 0) c.and.ensures))
    (session_judged (recorded r).operations (valid_of r) V (c.least_visibility.ensures.least (search rules)) before after c.check_session.result c.check_session.ensures)
