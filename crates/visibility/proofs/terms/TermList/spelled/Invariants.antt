use Rattle.std.proofs.Common.{take}
use Rattle.visibility.specs.Drafts.{done_of, current_of}
use Rattle.visibility.proofs.Spelled.{Drafted}
use Rattle.visibility.proofs.terms.TermList.spelled.Given as goal

abbrev pub invariant-loop-place : goal.invariant-loop-place
invariant-loop-place l = Drafted (take l.place-counter l.bytes) (done_of l.draft) (current_of l.draft)
