use Rattle.std.proofs.Common.{rules}
use Rattle.recording.specs.Telling.{recorded}
use Rattle.violations.specs.Violations.{ThinAir}
use Rattle.violations.proofs.Seeking.{smallest_found}
use Rattle.violations.proofs.sourceless.thin_air.Goals as goal

pub returns : goal.returns
returns c = smallest_found (ThinAir (recorded c.args.recording.now).operations) _ _ _ c.find.result c.find.ensures (λ k t. search rules) (λ k s. search rules) (λ k s. search rules)
