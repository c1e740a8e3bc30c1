use Rattle.std.proofs.Common.{take}
use Rattle.recording.specs.Telling.{recorded}
use Rattle.words.specs.Runs.{Settles}
use Rattle.words.proofs.calls.told.Given as goal

abbrev pub invariant-loop-call : goal.invariant-loop-call
invariant-loop-call l = Settles (take l.call-index l.calls) (recorded l.recording)
