-- What is found among the rivals of sources by the rows that are answered for these.
use Rattle.std.specs.Prelude.{◌≡◌, ℕ, ◌<◌, Bool, true, false, Some, None, Option}
use Rattle.rows.specs.declared.row.Row.{Row}
use Rattle.rows.specs.Members.{member}
use Rattle.violations.specs.declared.evidence.Rivals.{Rivals}

-- whether the answered row has x
abbrev pub Says : (Row → Type 0) → ℕ → Bool → Type 0
Says Answered x answer = (row : Row) × Answered row × (member row x ≡ answer)

-- the smallest rival in the answered row, if there is one
abbrev pub FoundRival : (ℕ → Type 0) → (Row → Type 0) → Option ℕ → Type 0
FoundRival P Answered None = (x : ℕ) → P x → Says Answered x false
FoundRival P Answered (Some x) = P x × Says Answered x true × ((y : ℕ) → y < x → P y → Says Answered y false)

-- the smallest read with such a rival, if there is one: the row is answered for its source
abbrev pub FoundRivals : (ℕ → ℕ → ℕ → Type 0) → (ℕ → Row → Type 0) → Option Rivals → Type 0
FoundRivals P Answered None = (r w x : ℕ) → P r w x → Says (Answered w) x false
FoundRivals P Answered (Some t) =
    P t.read t.source t.rival × Says (Answered t.source) t.rival true × ((r w x : ℕ) → r < t.read → P r w x → Says (Answered w) x false)
    × ((w x : ℕ) → x < t.rival → P t.read w x → Says (Answered w) x false)
