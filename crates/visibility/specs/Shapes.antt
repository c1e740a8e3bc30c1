-- What a rule may look at: the operations without their values.
use Rattle.std.specs.Prelude.{◌≡◌, ℕ, ◌<◌, ◌≤◌, Bool, ◌&&◌, List, length, Some, None, Option, ◌==◌, nat_lt, slice_index_or}
use Rattle.recording.specs.declared.operation.Kind.TheVariants.{Write}
use Rattle.recording.specs.declared.operation.Operation.{Operation}
use Rattle.visibility.specs.declared.outline.Outline.{Outline}
use Rattle.visibility.specs.declared.outline.Shape.{Shape}

abbrev pub shape : Operation → Shape
shape x = record { kind = x.kind; station = x.station; register = x.register }

-- what an `Outline` holds
abbrev pub shapes_of : Outline → List Shape
shapes_of o = o.shapes.items

-- what stands past the end
abbrev pub no_shape : Shape
no_shape = record { kind = Write; station = 0; register = 0 }

abbrev pub shape_at : List Shape → ℕ → Shape
shape_at f i = slice_index_or f i no_shape

-- station order: b comes after a at one station
abbrev pub before : List Shape → ℕ → ℕ → Bool
before f a b = nat_lt a b && (nat_lt b (length f) && (shape_at f a).station == (shape_at f b).station)

-- the shape of number n
abbrev pub ShapeAnswer : List Shape → ℕ → Option Shape → Type 0
ShapeAnswer f n None = length f ≤ n
ShapeAnswer f n (Some x) = (n < length f) × (x ≡ shape_at f n)
