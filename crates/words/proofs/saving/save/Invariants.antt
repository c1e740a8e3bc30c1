use Rattle.std.proofs.Common.{◌≡◌, ◌+◌, ◌≤◌, ◌∷◌, map, take, drop, length}
use Rattle.recording.specs.Telling.{recorded}
use Rattle.words.specs.Saving.{opening_word, operation_word}
use Rattle.words.proofs.saving.save.Given as goal

-- the opening and so many operations stand at the front, and the rest is as before
abbrev pub invariant-loop-place : goal.invariant-loop-place
invariant-loop-place l =
    (length l.yielded ≤ length (recorded l.recording).operations)
    × (l.place-iterator.a.start ≡ length l.yielded + 1)
    × (l.place-iterator.b.rest.now ≡ drop (length l.yielded) (recorded l.recording).operations)
    × (take (length l.yielded + 1) l.words ≡ opening_word (recorded l.recording).stations ∷ map operation_word (take (length l.yielded) (recorded l.recording).operations))
    × (drop (length l.yielded + 1) l.words ≡ drop (length l.yielded + 1) l.fn.words)
