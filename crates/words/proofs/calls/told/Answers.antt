use Rattle.std.proofs.Common.{take, sym, subst, take_all}
use Rattle.std.proofs.lemmas.List.{take_more}
use Rattle.recording.specs.Telling.{recorded}
use Rattle.words.specs.Runs.{Settles}
use Rattle.words.proofs.Runs.{settles_one}
use Rattle.words.proofs.calls.told.Goals as goal

pub loop-call-preserved : goal.loop-call-preserved
loop-call-preserved c =
    subst (λ l. Settles l (recorded c.tell.new.recording)) (sym (take_more c.args.calls.now c.loop-call.call-index _ c.loop-call-test.true))
    (c.tell.ensures.settles (take c.loop-call.call-index c.args.calls.now) c.loop-call.invariant)

pub returns-clause-alone : goal.returns-clause-alone
returns-clause-alone c other s = settles_one c.args.calls.now other _ s (rw (take_all c.loop-call.call-index c.args.calls.now c.loop-call-test.false) at c.loop-call.invariant)
