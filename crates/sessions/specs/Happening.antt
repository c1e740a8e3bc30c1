-- What has happened before what for a station, and the violations of that.
use Rattle.std.specs.Prelude.{◌≡◌, ℕ, ◌<◌, ◌≢◌, List, length}
use Rattle.recording.specs.declared.operation.Operation.{Operation}
use Rattle.recording.specs.Operations.{at}
use Rattle.visibility.specs.Growth.{Rel, Inside}
use Rattle.violations.specs.Explained.{In, SeesOf, initial}
use Rattle.violations.specs.Violations.{Rival}
use Rattle.sessions.specs.Listings.{Transitive, Past, StationRead}

-- o is the last operation of its station
pub record Last (ops : List Operation) (o : ℕ) : Type 0 where
  pub inside : o < length ops
  pub end : (b : ℕ) → o < b → b < length ops → (at ops b).station ≢ (at ops o).station

-- u is transitive, holds V among o and all that o sees, and puts a write that is before a read of o's station before the read's source
pub record Happens (ops : List Operation) (V : Rel) (o : ℕ) (u : Rel) : Type 0 where
  pub transitive : Transitive u
  pub past : (a b : ℕ) → Past V o a → Past V o b → In V a b → In u a b
  pub derived : (r w x : ℕ) → StationRead ops o r → Rival ops u r w x → In u x w

-- H is the smallest such relation
pub record HappensBefore (ops : List Operation) (V : Rel) (o : ℕ) (H : Rel) : Type 0 where
  pub within : (a b : ℕ) → In H a b → (a < length ops) × (b < length ops)
  pub happens : Happens ops V o H
  pub least : (u : Rel) → Happens ops V o u → Inside H u

-- H holds (x, r) for a write x of r's register, r a read of its register's first value in o's station
pub record HbInitRead (ops : List Operation) (o : ℕ) (H : Rel) (r x : ℕ) : Type 0 where
  pub own : StationRead ops o r
  pub value : (at ops r).value ≡ initial (at ops r).register
  pub sees : SeesOf ops (In H) r x

-- H holds (x, r) and (w, x), for a read r of o's station with source w and another write x of its register
pub record CyclicHb (ops : List Operation) (o : ℕ) (H : Rel) (r w x : ℕ) : Type 0 where
  pub own : StationRead ops o r
  pub rival : Rival ops H r w x
  pub after : In H w x
