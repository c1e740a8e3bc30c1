-- What comes of putting the writes in an order for one read.
use Rattle.std.specs.Prelude.{◌≡◌, ℕ, ◌≤◌, ◌≢◌, List, take, None, Ok, Err, Result}
use Rattle.recording.specs.declared.operation.Operation.{Operation}
use Rattle.relation.specs.Orders.{Tail}
use Rattle.relation.specs.Steps.{Precedes}
use Rattle.visibility.specs.Growth.{Rel}
use Rattle.sessions.specs.Listings.{Listing}
use Rattle.judgement.specs.declared.refusal.Refusal.{Refusal}
use Rattle.judgement.specs.declared.refusal.Refusal.TheVariants.{NotExplained}
use Rattle.judgement.specs.declared.verdict.Verdict.{Verdict}
use Rattle.judgement.specs.Verdicts.{OrderGiven, Unordered, ListingGiven, Unlisted}
use Rattle.violations.specs.Explained.{Demand, Ordering}
use Rattle.violations.specs.Violations.{Rival}

-- an order is granted where the verdict is explained
abbrev pub Granted : Verdict → Result (Unit {0}) Refusal → Type 0
Granted v (Ok u) = v.violation ≡ None
Granted v (Err e) = (e ≡ NotExplained) × (v.violation ≢ None)

-- an order for a read; or there is none
abbrev pub OrderFound : Demand → ℕ → List Operation → ℕ → Rel → List ℕ → List ℕ → Result ℕ Refusal → Type 0
OrderFound D label ops read V before after (Ok n) = OrderGiven D ops read n V before after
OrderFound D label ops read V before after (Err e) = (e ≡ NotExplained) × Unordered D label ops V before after

-- the first n numbers of the buffer are an order of all writes that keeps visibility and what has to come before the source of r
pub record OrderedFor (ops : List Operation) (V : Rel) (r n : ℕ) (before after : List ℕ) : Type 0 where
  pub ordering : Ordering ops V (take n after)
  pub rivals : (w x : ℕ) → Rival ops V r w x → Precedes (take n after) x w
  pub few : n ≤ 256
  pub tail : Tail before after n

-- a listing of a station; or there is none
abbrev pub ListingFound : List Operation → ℕ → Rel → List ℕ → List ℕ → Result ℕ Refusal → Type 0
ListingFound ops station V before after (Ok n) = ListingGiven ops station n V before after
ListingFound ops station V before after (Err e) = (e ≡ NotExplained) × Unlisted ops V before after

-- the first n numbers of the buffer are a lawful listing of o
pub record ListedPast (ops : List Operation) (V : Rel) (o n : ℕ) (before after : List ℕ) : Type 0 where
  pub listing : Listing ops V o (take n after)
  pub few : n ≤ 256
  pub tail : Tail before after n
