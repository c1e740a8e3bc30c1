-- What a reader answers, and where it stands then.
use Rattle.std.specs.Prelude.{◌≡◌, ℕ, ◌+◌, not, ◌&&◌, ◌||◌, List, [], ◌∷◌, length, drop, Some, None, Ok, Err, Option, Result, ◌==◌, nat_lt}
use Rattle.recording.specs.Refusals.{first, ◌when◌}
use Rattle.words.specs.declared.fault.Fault.{Fault}
use Rattle.words.specs.declared.fault.Fault.TheVariants.{NotAnOpening, OutOfForm, NoteTooLong, WrongCount, Unclosed, AfterClosing}
use Rattle.words.specs.declared.fault.Misread.{Misread}
use Rattle.words.specs.declared.reader.Phase.{Phase}
use Rattle.words.specs.declared.reader.Phase.TheVariants.{Before, Between, After}
use Rattle.words.specs.declared.reader.Reader.{Reader}
use Rattle.words.specs.declared.record.Record.{Record}
use Rattle.words.specs.declared.record.Record.TheVariants as variant
use Rattle.words.specs.declared.record.Placed.{Placed}
use Rattle.words.specs.Layout.{bits, kind_of, is_opening, is_note, is_closing, zero_bit_set, Said, opening, write, read, note, closing, says}

-- where a reader stands: how far it has come, how many operations came, the place of the next word, and what is left
pub record Reading : Type 0 where
  pub phase : Phase
  pub operations : ℕ
  pub place : ℕ
  pub rest : List ℕ

abbrev pub reading : Reader → Reading
reading r = record { phase = r.phase; operations = r.operations; place = r.place; rest = drop r.place r.words.now }

-- before the first word
abbrev pub at_start : List ℕ → Reading
at_start words = record { phase = Before; operations = 0; place = 0; rest = words }

-- why the words that are left are refused, where n operations came
abbrev pub ground_at : Phase → ℕ → List ℕ → Option Fault
ground_at Before n [] = Some NotAnOpening
ground_at Between n [] = Some Unclosed
ground_at After n [] = None
ground_at Before n (w ∷ more) = first (NotAnOpening when not (is_opening (kind_of w)) ∷ OutOfForm when zero_bit_set w ∷ [])
ground_at Between n (w ∷ more) = first (
    OutOfForm when (is_opening (kind_of w) || zero_bit_set w)
    ∷ NoteTooLong when (is_note (kind_of w) && nat_lt (length more) (bits 7 0 w))
    ∷ WrongCount when (is_closing (kind_of w) && not (bits 28 0 w == n))
    ∷ [])
ground_at After n (w ∷ more) = Some AfterClosing

abbrev pub ground_of : Reading → Option Fault
ground_of r = ground_at r.phase r.operations r.rest

-- what the next record says, if a word is left
abbrev pub said_at : List ℕ → Option Said
said_at [] = None
said_at (w ∷ more) = Some (says (kind_of w) w more)

-- how many words a record takes
abbrev pub width_of : Said → ℕ
width_of (opening stations) = 1
width_of (write station register value) = 1
width_of (read station register value) = 1
width_of (note text) = 1 + length text
width_of (closing count) = 1

-- how many operations a record tells
abbrev pub tells : Said → ℕ
tells (opening stations) = 0
tells (write station register value) = 1
tells (read station register value) = 1
tells (note text) = 0
tells (closing count) = 0

-- how far a reader has come after a record
abbrev pub phase_after : Said → Phase → Phase
phase_after (opening stations) phase = Between
phase_after (write station register value) phase = phase
phase_after (read station register value) phase = phase
phase_after (note text) phase = phase
phase_after (closing count) phase = After

-- past a record that says s
abbrev pub pass : Reading → Said → Reading
pass r s = record { phase = phase_after s r.phase; operations = r.operations + tells s; place = r.place + width_of s; rest = drop (width_of s) r.rest }

-- what a `Record` says
abbrev pub heard : Record → Said
heard (variant.Opening stations) = opening stations
heard (variant.Write station register value) = write station register value
heard (variant.Read station register value) = read station register value
heard (variant.Note text) = note text.now
heard (variant.Closing count) = closing count

-- what a reader answers: the next record with its place, and it goes past it; that nothing is left; or the fault and its place. Else it stays put
abbrev pub Next : Reading → Result (Option Placed) Misread → Reading → Type 0
Next before (Ok (Some p)) after = (ground_of before ≡ None) × (said_at before.rest ≡ Some (heard p.record)) × (p.place ≡ before.place) × (after ≡ pass before (heard p.record))
Next before (Ok None) after = (ground_of before ≡ None) × (before.rest ≡ []) × (after ≡ before)
Next before (Err e) after = (ground_of before ≡ Some e.fault) × (e.place ≡ before.place) × (after ≡ before)

-- what the words that are left say first, that none is left, or the fault
abbrev pub SaidAnswer : Reading → Result (Option Record) Fault → Type 0
SaidAnswer r (Ok (Some x)) = (ground_of r ≡ None) × (said_at r.rest ≡ Some (heard x))
SaidAnswer r (Ok None) = (ground_of r ≡ None) × (r.rest ≡ [])
SaidAnswer r (Err e) = ground_of r ≡ Some e

-- what the words w and `more` are taken for
abbrev pub RecordAnswer : Phase → ℕ → ℕ → List ℕ → Result Record Fault → Type 0
RecordAnswer phase n w more (Ok x) = (ground_at phase n (w ∷ more) ≡ None) × (heard x ≡ says (kind_of w) w more)
RecordAnswer phase n w more (Err e) = ground_at phase n (w ∷ more) ≡ Some e
