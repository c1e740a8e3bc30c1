-- A sight: an outline, and what its operations see.
use Rattle.std.specs.Prelude.{List}
use Rattle.rows.specs.Members.{related}
use Rattle.visibility.specs.declared.outline.Shape.{Shape}
use Rattle.visibility.specs.declared.sight.Sight.{Sight}
use Rattle.visibility.specs.Growth.{Rel}
use Rattle.visibility.specs.Shapes.{shapes_of}

-- the shapes of the outline
abbrev pub shapes_in : Sight → List Shape
shapes_in s = shapes_of s.outline.now

-- what they see
abbrev pub seen_in : Sight → Rel
seen_in s = related s.seen.words.now
