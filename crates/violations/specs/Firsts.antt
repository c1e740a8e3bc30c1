-- The first of what is looked for.
use Rattle.std.specs.Prelude.{ℕ, ◌<◌, Some, None, Option}
use Rattle.violations.specs.declared.evidence.Pair.{Pair}
use Rattle.violations.specs.declared.evidence.Rivals.{Rivals}

-- the smallest number with P, if there is one
abbrev pub Smallest : (ℕ → Type 0) → Option ℕ → Type 0
Smallest P (Some n) = P n × ((k : ℕ) → k < n → ¬ P k)
Smallest P None = (k : ℕ) → ¬ P k

-- the smallest pair of numbers with P, by the first number and then by the second
abbrev pub SmallestPair : (ℕ → ℕ → Type 0) → Option Pair → Type 0
SmallestPair P (Some p) = P p.read p.write × ((k l : ℕ) → k < p.read → ¬ P k l) × ((l : ℕ) → l < p.write → ¬ P p.read l)
SmallestPair P None = (k l : ℕ) → ¬ P k l

-- by the first number and then by the third
abbrev pub SmallestRivals : (ℕ → ℕ → ℕ → Type 0) → Option Rivals → Type 0
SmallestRivals P (Some t) =
    P t.read t.source t.rival × ((k w x : ℕ) → k < t.read → ¬ P k w x) × ((w x : ℕ) → x < t.rival → ¬ P t.read w x)
SmallestRivals P None = (k w x : ℕ) → ¬ P k w x
