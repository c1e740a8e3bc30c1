-- What it means that a recording is explained.
use Rattle.std.specs.Prelude.{◌≡◌, ℕ, ◌<◌, true, ◌≢◌, ◌⊎◌, List, map, length}
use Rattle.recording.specs.declared.operation.Operation.{Operation}
use Rattle.recording.specs.Lawful.{NonZero, Apart}
use Rattle.recording.specs.Operations.{at, IsWrite, IsRead}
use Rattle.relation.specs.Steps.{Acyclic, Precedes, Lists}
use Rattle.visibility.specs.declared.outline.Shape.{Shape}
use Rattle.visibility.specs.Growth.{Rel, Closed}
use Rattle.visibility.specs.Shapes.{shape}
use Rattle.visibility.specs.Visible.{Asked}

-- what a rule demands
abbrev pub Demand : Type 1
Demand = List Shape → Rel → ℕ → ℕ → Type 0

-- what holds of the operations of every recording: no write carries 0, and no two writes give one register the same value
pub record Valid (ops : List Operation) : Type 0 where
  pub nonzero : NonZero ops
  pub apart : Apart ops

abbrev pub In : Rel → ℕ → ℕ → Type 0
In v a b = v a b ≡ true

-- w is a write of r's register, and R puts it before r
pub record SeesOf (ops : List Operation) (R : ℕ → ℕ → Type 0) (r w : ℕ) : Type 0 where
  pub is_write : IsWrite ops w
  pub register : (at ops w).register ≡ (at ops r).register
  pub seen : R w r

-- what a register holds before its first write
abbrev pub initial : ℕ → ℕ
initial reg = 0

-- r reads what its register held at first, and sees no write of its register
pub record ReadsInitial (ops : List Operation) (R : ℕ → ℕ → Type 0) (r : ℕ) : Type 0 where
  pub value : (at ops r).value ≡ initial (at ops r).register
  pub none : (w : ℕ) → ¬ SeesOf ops R r w

-- r reads something else, and of the writes of its register that r sees, the last in the order carries its value
pub record ReadsLast (ops : List Operation) (R : ℕ → ℕ → Type 0) (order : List ℕ) (r : ℕ) : Type 0 where
  pub other : (at ops r).value ≢ initial (at ops r).register
  pub last : ℕ
  pub sees : SeesOf ops R r last
  pub value : (at ops last).value ≡ (at ops r).value
  pub others : (x : ℕ) → SeesOf ops R r x → x ≢ last → Precedes order x last

-- the read r, which sees what R puts before it, has its value by the order
abbrev pub Reads : List Operation → (ℕ → ℕ → Type 0) → List ℕ → ℕ → Type 0
Reads ops R order r = ReadsInitial ops R r ⊎ ReadsLast ops R order r

-- v between writes
abbrev pub Writes : List Operation → Rel → ℕ → ℕ → Type 0
Writes ops v a b = IsWrite ops a × IsWrite ops b × In v a b

-- an order of all writes, with a before b wherever b sees a
pub record Ordering (ops : List Operation) (v : Rel) (order : List ℕ) : Type 0 where
  pub all : Lists (IsWrite ops) order
  pub keeps : (a b : ℕ) → Writes ops v a b → Precedes order a b

-- a visibility without a cycle that holds every pair that is demanded under it
pub record Visibility (D : Demand) (ops : List Operation) (v : Rel) : Type 0 where
  pub within : (a b : ℕ) → In v a b → (a < length ops) × (b < length ops)
  pub acyclic : Acyclic (In v)
  pub closed : Closed (Asked D (map shape ops)) v

-- ── Own judgement: each read has an order ──

-- an order that is lawful for the read r
pub record LawfulFor (ops : List Operation) (v : Rel) (r : ℕ) (order : List ℕ) : Type 0 where
  pub ordering : Ordering ops v order
  pub reads : Reads ops (In v) order r

-- the visibility explains the recording
pub record OwnExplains (D : Demand) (ops : List Operation) (v : Rel) : Type 0 where
  pub visibility : Visibility D ops v
  pub orders : (r : ℕ) → IsRead ops r → (order : List ℕ) × LawfulFor ops v r order

abbrev pub OwnExplained : Demand → List Operation → Type 0
OwnExplained D ops = (v : Rel) × OwnExplains D ops v

-- ── Shared judgement: one order for all reads ──

-- an order that is lawful for every read
pub record Lawful (ops : List Operation) (v : Rel) (order : List ℕ) : Type 0 where
  pub ordering : Ordering ops v order
  pub reads : (r : ℕ) → IsRead ops r → Reads ops (In v) order r

-- the visibility and the order explain the recording
pub record SharedExplains (D : Demand) (ops : List Operation) (v : Rel) (order : List ℕ) : Type 0 where
  pub visibility : Visibility D ops v
  pub lawful : Lawful ops v order

abbrev pub SharedExplained : Demand → List Operation → Type 0
SharedExplained D ops = (v : Rel) × (order : List ℕ) × SharedExplains D ops v order
