-- The words of a recording, and what a save leaves.
use Rattle.std.specs.Prelude.{◌≡◌, ℕ, ◌+◌, ◌*◌, ◌^◌, ◌<◌, ◌≤◌, List, [], ◌∷◌, ◌++◌, map, length, drop, Ok, Err, Result}
use Rattle.recording.specs.declared.operation.Operation.{Operation}
use Rattle.recording.specs.Telling.{Recorded}
use Rattle.words.specs.declared.kind.WordKind.TheVariants.{Opening, Closing}
use Rattle.words.specs.declared.loading.LoadRefusal.{LoadRefusal}
use Rattle.words.specs.declared.saving.SaveRefusal.{SaveRefusal}
use Rattle.words.specs.declared.saving.SaveRefusal.TheVariants.{TooShort}
use Rattle.words.specs.Layout.{kind_word, blank}
use Rattle.words.specs.Loading.{Loads}

abbrev pub opening_word : ℕ → ℕ
opening_word stations = blank Opening + stations

abbrev pub closing_word : ℕ → ℕ
closing_word count = blank Closing + count

abbrev pub operation_word : Operation → ℕ
operation_word x = blank (kind_word x.kind) + x.station * 2 ^ 25 + x.register * 2 ^ 19 + x.value

-- opening, operations and closing
abbrev pub words_of : Recorded → List ℕ
words_of r = opening_word r.stations ∷ map operation_word r.operations ++ closing_word (length r.operations) ∷ []

-- what a save answers and leaves: the count of words, which stand at the front, and the rest is as before; or 8, and nothing has changed
abbrev pub Saves : Recorded → List ℕ → Result ℕ SaveRefusal → List ℕ → Type 0
Saves r before (Ok n) after = (n ≡ length r.operations + 2) × (n ≤ length before) × (after ≡ words_of r ++ drop n before)
Saves r before (Err TooShort) after = (length before < length r.operations + 2) × (after ≡ before)

abbrev pub number_of : SaveRefusal → ℕ
number_of TooShort = 8

-- the words of a recording load back as that recording, whatever was there before
abbrev pub LoadsBack : Recorded → Type 0
LoadsBack r = (before : Recorded) (answer : Result ℕ LoadRefusal) (after : Recorded) → Loads before (words_of r) answer after → (answer ≡ Ok (length r.operations)) × (after ≡ r)

-- what a copy through words holds
abbrev pub Copied : Recorded → Recorded → Result ℕ SaveRefusal → Recorded → Type 0
Copied r before (Ok n) after = after ≡ r
Copied r before (Err e) after = after ≡ before
