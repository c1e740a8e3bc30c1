use Rattle.std.proofs.Common.{ℕ, length, Result}
use Rattle.recording.specs.Telling.{Recorded, recorded}
use Rattle.words.specs.declared.loading.LoadRefusal.{LoadRefusal}
use Rattle.words.specs.Loading.{LoadsFrom}
use Rattle.words.specs.Reading.{reading, at_start}
use Rattle.words.proofs.loading.load.Given as goal

-- a load of what is left, from here on, is the whole load
abbrev pub invariant-loop-place : goal.invariant-loop-place
invariant-loop-place l =
    (answer : Result ℕ LoadRefusal) (after : Recorded)
    → LoadsFrom (reading l.reader) (recorded l.recording) answer after
    → LoadsFrom (at_start l.words) (recorded l.initial.recording) answer after

abbrev pub decreases-loop-place : goal.decreases-loop-place
decreases-loop-place l = length (reading l.reader).rest
