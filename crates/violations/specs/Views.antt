-- A view: a recording, and what its operations see.
use Rattle.std.specs.Prelude.{List}
use Rattle.recording.specs.declared.operation.Operation.{Operation}
use Rattle.recording.specs.Telling.{recorded}
use Rattle.rows.specs.Members.{related}
use Rattle.visibility.specs.Growth.{Rel}
use Rattle.violations.specs.declared.view.View.{View}

-- the operations of the recording
abbrev pub operations_of : View → List Operation
operations_of v = (recorded v.recording.now).operations

-- what they see
abbrev pub seen_of : View → Rel
seen_of v = related v.seen.words.now
