-- What holds of the operations that a recording holds.
use Rattle.std.proofs.Common.{◌≤◌, length}
use Rattle.recording.specs.declared.recording.Recording.{Recording}
use Rattle.recording.specs.Telling.{recorded}
use Rattle.violations.specs.Explained.{Valid}

pub valid_of : (r : Recording) → Valid (recorded r).operations
valid_of r = record { nonzero = r.nonzero; apart = r.apart }

pub few_of : (r : Recording) → length (recorded r).operations ≤ 256
few_of r = r.few
