-- What comes of putting the writes in one order for all reads.
use Rattle.std.specs.Prelude.{◌≡◌, ℕ, ◌≤◌, List, take, Ok, Err, Result}
use Rattle.recording.specs.declared.operation.Operation.{Operation}
use Rattle.relation.specs.Orders.{Tail}
use Rattle.relation.specs.Steps.{Precedes}
use Rattle.visibility.specs.Growth.{Rel}
use Rattle.judgement.specs.declared.shown.Shown.{Shown}
use Rattle.judgement.specs.declared.verdict.Violation.TheVariants.{BadArb}
use Rattle.violations.specs.Explained.{Ordering}
use Rattle.judgement.specs.Showing.{Evident}
use Rattle.judgement.specs.Verdicts.{First, in_shared}
use Rattle.violations.specs.Violations.{Conflict, OwnClean}

-- the first n numbers of the buffer are an order of all writes that keeps visibility and conflicts
pub record Arranged (ops : List Operation) (V : Rel) (n : ℕ) (before after : List ℕ) : Type 0 where
  pub ordering : Ordering ops V (take n after)
  pub conflicts : (x w : ℕ) → Conflict ops V x w → Precedes (take n after) x w
  pub few : n ≤ 256
  pub tail : Tail before after n

-- such an order, or a cycle
abbrev pub Arbitrated : List Operation → Rel → List ℕ → List ℕ → Result ℕ Shown → Type 0
Arbitrated ops V before after (Ok n) = Arranged ops V n before after
Arbitrated ops V before after (Err s) = (s.violation ≡ BadArb) × Evident ops V BadArb s.station s.count before after

-- such an order, where the own judgement finds nothing; or the first violation of the shared judgement
abbrev pub SharedSought : List Operation → Rel → List ℕ → List ℕ → Result ℕ Shown → Type 0
SharedSought ops V before after (Ok n) = OwnClean ops V × Arranged ops V n before after
SharedSought ops V before after (Err s) = First in_shared ops V s.violation × Evident ops V s.violation s.station s.count before after
