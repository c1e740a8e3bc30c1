-- The layout of a word of 32 bits, and what the words of a recording say.
use Rattle.std.specs.Prelude.{ℕ, ◌+◌, ◌-◌, ◌*◌, ◌/◌, ◌%◌, ◌^◌, Bool, true, false, cond, not, List, take, ◌==◌}
use Rattle.recording.specs.declared.operation.Kind.{Kind}
use Rattle.recording.specs.declared.operation.Kind.TheVariants as kind
use Rattle.words.specs.declared.kind.WordKind.{WordKind}
use Rattle.words.specs.declared.kind.WordKind.TheVariants.{Note, Write, Read, Opening, Closing}

-- bits `high` to `low` of a word, as a number
abbrev pub bits : ℕ → ℕ → ℕ → ℕ
bits high low w = w / 2 ^ low % 2 ^ (high + 1 - low)

-- the top two bits are the kind: 0 note, 1 write, 2 read, 3 frame; a frame with bit 29 clear opens, another closes
abbrev pub kind_of : ℕ → WordKind
kind_of w =
    cond (bits 31 30 w == 0) Note
    (cond (bits 31 30 w == 1) Write
    (cond (bits 31 30 w == 2) Read
    (cond (bits 29 29 w == 0) Opening Closing)))

-- the kind of an operation's word
abbrev pub kind_word : Kind → WordKind
kind_word kind.Write = Write
kind_word kind.Read = Read

-- the word of the kind whose other bits are all 0
abbrev pub blank : WordKind → ℕ
blank Note = 0
blank Write = 1 * 2 ^ 30
blank Read = 2 * 2 ^ 30
blank Opening = 3 * 2 ^ 30
blank Closing = 3 * 2 ^ 30 + 2 ^ 29

-- the bits that are 0 in every word of the kind
abbrev pub zero_bits : WordKind → ℕ → ℕ
zero_bits Note w = bits 29 8 w
zero_bits Write w = bits 29 29 w
zero_bits Read w = bits 29 29 w
zero_bits Opening w = bits 28 8 w
zero_bits Closing w = 0

abbrev pub is_opening : WordKind → Bool
is_opening Note = false
is_opening Write = false
is_opening Read = false
is_opening Opening = true
is_opening Closing = false

abbrev pub is_note : WordKind → Bool
is_note Note = true
is_note Write = false
is_note Read = false
is_note Opening = false
is_note Closing = false

abbrev pub is_closing : WordKind → Bool
is_closing Note = false
is_closing Write = false
is_closing Read = false
is_closing Opening = false
is_closing Closing = true

abbrev pub zero_bit_set : ℕ → Bool
zero_bit_set w = not (zero_bits (kind_of w) w == 0)

-- what a record says
pub data Said : Type 0 where
  opening : (stations : ℕ) → Said
  write : (station register value : ℕ) → Said
  read : (station register value : ℕ) → Said
  note : (text : List ℕ) → Said
  closing : (count : ℕ) → Said

-- what a record says whose first word is w, where `more` follows it
abbrev pub says : WordKind → ℕ → List ℕ → Said
says Note w more = note (take (bits 7 0 w) more)
says Write w more = write (bits 28 25 w) (bits 24 19 w) (bits 18 0 w)
says Read w more = read (bits 28 25 w) (bits 24 19 w) (bits 18 0 w)
says Opening w more = opening (bits 7 0 w)
says Closing w more = closing (bits 28 0 w)
