-- Lists of operations, by their numbers, which are places in the list.
use Rattle.std.specs.Prelude.{◌≡◌, ℕ, ◌<◌, Bool, true, false, ◌&&◌, List, length, ◌==◌, slice_index_or}
use Rattle.std.specs.List.{list_any}
use Rattle.recording.specs.declared.operation.Kind.{Kind}
use Rattle.recording.specs.declared.operation.Kind.TheVariants.{Write, Read}
use Rattle.recording.specs.declared.operation.Operation.{Operation}

abbrev pub operation_of : Kind → ℕ → ℕ → ℕ → Operation
operation_of kind station register value = record { kind = kind; station = station; register = register; value = value }

abbrev pub write_of : ℕ → ℕ → ℕ → Operation
write_of = operation_of Write

abbrev pub read_of : ℕ → ℕ → ℕ → Operation
read_of = operation_of Read

abbrev pub is_write : Kind → Bool
is_write Write = true
is_write Read = false

-- operation i of the list
abbrev pub at : List Operation → ℕ → Operation
at ops i = slice_index_or ops i (write_of 0 0 0)

pub record IsWrite (ops : List Operation) (i : ℕ) : Type 0 where
  pub inside : i < length ops
  pub kind : (at ops i).kind ≡ Write

pub record IsRead (ops : List Operation) (i : ℕ) : Type 0 where
  pub inside : i < length ops
  pub kind : (at ops i).kind ≡ Read

-- operation w writes the value v to the register
pub record Gives (ops : List Operation) (w reg v : ℕ) : Type 0 where
  pub is_write : IsWrite ops w
  pub register : (at ops w).register ≡ reg
  pub value : (at ops w).value ≡ v

-- whether x writes the value v to the register
abbrev pub gives : Operation → ℕ → ℕ → Bool
gives x reg v = is_write x.kind && (x.register == reg && x.value == v)

-- whether some operation writes the value v to the register
abbrev pub written : List Operation → ℕ → ℕ → Bool
written ops reg v = list_any (λ x. gives x reg v) ops

-- write w is the source of read r: it gives r's register the value that r has
pub record SourceOf (ops : List Operation) (w r : ℕ) : Type 0 where
  pub is_read : IsRead ops r
  pub gives : Gives ops w (at ops r).register (at ops r).value

-- one register, one value
pub record Twins (ops : List Operation) (a b : ℕ) : Type 0 where
  pub first : IsWrite ops a
  pub second : IsWrite ops b
  pub register : (at ops a).register ≡ (at ops b).register
  pub value : (at ops a).value ≡ (at ops b).value
