-- What a recording keeps of each station: its count of operations, and its last one.
use Rattle.std.specs.Prelude.{◌≡◌, ℕ, suc, ◌<◌, cond, List, [], ◌∷◌, length, Some, None, Option, ◌==◌, count_by, slice_index_or}
use Rattle.recording.specs.declared.operation.Operation.{Operation}
use Rattle.recording.specs.declared.stations.Entry.{Entry}
use Rattle.recording.specs.Operations.{at}

abbrev pub entry_at : List Entry → ℕ → Entry
entry_at es s = slice_index_or es s (record { count = 0; last = None })

-- how many operations are of station s
abbrev pub tally : List Operation → ℕ → ℕ
tally ops s = count_by (λ x. x.station == s) ops

-- the number of the last operation of station s, where the first of the list has the number i, and `so_far` came before it
unfoldable pub last_from : Option ℕ → ℕ → List Operation → ℕ → Option ℕ
last_from so_far i [] s = so_far
last_from so_far i (x ∷ xs) s = last_from (cond (x.station == s) (Some i) so_far) (suc i) xs s

-- the entry of station s
abbrev pub entry_of : List Operation → ℕ → Entry
entry_of ops s = record { count = tally ops s; last = last_from None 0 ops s }

-- each of the sixteen entries is its station's
abbrev pub Kept : List Operation → List Entry → Type 0
Kept ops es = (s : ℕ) → s < 16 → ((entry_at es s).count ≡ (entry_of ops s).count) × ((entry_at es s).last ≡ (entry_of ops s).last)

-- operation n is the last one of station s; or the station has none
abbrev pub LastOf : List Operation → ℕ → Option ℕ → Type 0
LastOf ops s None = (i : ℕ) → i < length ops → ¬ ((at ops i).station ≡ s)
LastOf ops s (Some n) = (n < length ops) × ((at ops n).station ≡ s) × ((i : ℕ) → n < i → i < length ops → ¬ ((at ops i).station ≡ s))
