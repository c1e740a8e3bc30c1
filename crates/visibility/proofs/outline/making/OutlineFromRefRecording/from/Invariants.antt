use Rattle.std.proofs.Common.{◌≡◌, map, length, take}
use Rattle.recording.specs.Telling.{recorded}
use Rattle.visibility.specs.Shapes.{shape}
use Rattle.visibility.proofs.outline.making.OutlineFromRefRecording.from.Given as goal

abbrev pub invariant-loop-operation : goal.invariant-loop-operation
invariant-loop-operation l = record {
  told : l.operation-items ≡ (recorded l.recording).operations;
  filled : l.shapes.items ≡ map shape (take l.operation-index l.operation-items);
  long : length l.shapes.items ≡ l.operation-index;
}
