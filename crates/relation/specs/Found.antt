-- What the order or cycle call answers.
use Rattle.std.specs.Prelude.{◌≡◌, ℕ, ◌<◌, ◌≤◌, Bool, List, length, Result, Ok, Err}
use Rattle.relation.specs.declared.order.Obstacle.{Obstacle}
use Rattle.relation.specs.declared.order.Obstacle.TheVariants.{Cycle, NoRoom}
use Rattle.relation.specs.Orders.{Ordered, Ring, Tail}
use Rattle.relation.specs.Steps.{Among, Acyclic}

-- an order or a cycle of n numbers at the front, and the rest as before; or too short a list, as before
abbrev pub Found : (ℕ → ℕ → Bool) → (ℕ → Bool) → List ℕ → List ℕ → Result ℕ Obstacle → Type 0
Found R M before after (Ok n) = (256 ≤ length before) × (n ≤ 256) × Ordered R M after n × Tail before after n
Found R M before after (Err (Cycle n)) = (256 ≤ length before) × (n ≤ 256) × Ring R M after 0 n × Tail before after n
Found R M before after (Err NoRoom) = (length before < 256) × (after ≡ before)

-- an order is found exactly when there is no cycle
abbrev pub Exactly : (ℕ → ℕ → Bool) → (ℕ → Bool) → Result ℕ Obstacle → Type 0
Exactly R M (Ok n) = Acyclic (Among M R)
Exactly R M (Err (Cycle n)) = ¬ Acyclic (Among M R)
Exactly R M (Err NoRoom) = Unit {0}
