-- What a line of a recording in text says.
use Rattle.std.specs.Prelude.{◌≡◌, ◌≢◌, ℕ, ◌<◌, ◌^◌, ◌⊎◌, ⊤, List, [], ◌∷◌, length, slice_index, slice_index_or, codes, Some, None, Option, Ok, Result, IsOk}
use Rattle.std.specs.Borrow.{Bor}
use Rattle.std.specs.Result.{OkIff}
use Rattle.std.specs.Str.Iter.{split_whitespace_rest, split_whitespace_steps}
use Rattle.std.specs.Str.Parse.{IsNumeral, digits_value, without_leading_plus}
use Rattle.std.specs.declared.str.SplitWhitespace.{SplitWhitespace}
use Rattle.console.specs.declared.line.Unreadable.{Unreadable}
use Rattle.words.specs.declared.calls.Call.{Call}
use Rattle.words.specs.declared.calls.Call.TheVariants.{Start, Write, Read}

-- decimal digits, which a `+` may lead, of a number that fits 32 bits
abbrev pub IsNumber : List ℕ → Type 0
IsNumber text = IsNumeral 10 (without_leading_plus text) × (digits_value 10 (without_leading_plus text) < 2 ^ 32)

-- the number that they write
abbrev pub number_of : List ℕ → ℕ
number_of text = digits_value 10 (without_leading_plus text)

-- a `&[&str]`
abbrev pub Words : Type 0
Words = List (Bor (List ℕ))

-- the text of word i, empty past the end
abbrev pub word : Words → ℕ → List ℕ
word words i = (slice_index_or words i (record { ref_ptr = (0, 0); now = [] })).now

-- no word, or one that begins with `#`, the byte 35
abbrev pub IsBlank : Words → Type 0
IsBlank words = (word words 0 ≡ []) ⊎ (slice_index (word words 0) 0 ≡ 35)

-- `stations NUMBER`
abbrev pub IsStart : Words → Type 0
IsStart words = (word words 0 ≡ codes "stations") × (word words 2 ≡ [])

-- `STATION KIND REGISTER VALUE`
abbrev pub IsOperation : List ℕ → Words → Type 0
IsOperation kind words = (word words 1 ≡ kind) × (word words 4 ≡ [])

-- the three numbers of an operation
abbrev pub AreNumbers : Words → Type 0
AreNumbers words = IsNumber (word words 0) × IsNumber (word words 2) × IsNumber (word words 3)

-- what the words of a line say
pub record WordsAnswer (words : Words) (r : Result (Option Call) Unreadable) : Type 0 where
  pub blank : IsBlank words → r ≡ Ok None
  pub start : ¬ IsBlank words → IsStart words → OkIff r (IsNumber (word words 1)) (Some (Start (number_of (word words 1))))
  pub write : ¬ IsBlank words → IsOperation (codes "w") words
      → OkIff r (AreNumbers words) (Some (Write (number_of (word words 0)) (number_of (word words 2)) (number_of (word words 3))))
  pub read : ¬ IsBlank words → IsOperation (codes "r") words
      → OkIff r (AreNumbers words) (Some (Read (number_of (word words 0)) (number_of (word words 2)) (number_of (word words 3))))
  pub others : IsOk r → IsBlank words ⊎ (IsStart words ⊎ (IsOperation (codes "w") words ⊎ IsOperation (codes "r") words))

-- a call of `next`, which gives an empty text where there is no word
abbrev pub NextWord : SplitWhitespace → List ℕ → SplitWhitespace → Type 0
NextWord before text after = (word : Option (Bor (List ℕ))) × split_whitespace_steps before word after × (text ≡ text_of word)
  where
    text_of : Option (Bor (List ℕ)) → List ℕ
    text_of None = []
    text_of (Some word) = word.now

-- the first words of a text
abbrev pub FirstWords : SplitWhitespace → Words → Type 0
FirstWords before [] = ⊤
FirstWords before (word ∷ words) = (after : SplitWhitespace) × NextWord before word.now after × FirstWords after words

-- a call of `number`, which reads the next word
abbrev pub NextNumber : SplitWhitespace → Result ℕ Unreadable → SplitWhitespace → Type 0
NextNumber before r after = (text : List ℕ) × NextWord before text after × OkIff r (IsNumber text) (number_of text)

-- a call of `ended`, which refuses a further word
abbrev pub NoWordLeft : SplitWhitespace → Call → Result (Option Call) Unreadable → SplitWhitespace → Type 0
NoWordLeft before call r after = (text : List ℕ) × NextWord before text after × OkIff r (text ≡ []) (Some call)

-- a first word that begins neither a comment nor `stations`
abbrev pub IsOther : List ℕ → Type 0
IsOther first = (first ≢ []) × (slice_index first 0 ≢ 35) × (first ≢ codes "stations")

-- what a line says after its first word: what four further words say
abbrev pub RestAnswer : List ℕ → SplitWhitespace → Result (Option Call) Unreadable → Type 0
RestAnswer first before r = (words : Words) × (length words ≡ 4) × FirstWords before words × WordsAnswer (record { ref_ptr = (0, 0); now = first } ∷ words) r

-- what a line says: what its first five words say
abbrev pub LineAnswer : List ℕ → Result (Option Call) Unreadable → Type 0
LineAnswer line r = (before : SplitWhitespace) × (split_whitespace_rest before ≡ line)
    × (words : Words) × (length words ≡ 5) × FirstWords before words × WordsAnswer words r
