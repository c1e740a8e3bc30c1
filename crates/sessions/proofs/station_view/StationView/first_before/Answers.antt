use Rattle.std.proofs.Common.{rules}
use Rattle.violations.specs.Explained.{In, SeesOf}
use Rattle.violations.specs.Views.{operations_of, seen_of}
use Rattle.violations.proofs.Seeking.{smallest_found}
use Rattle.sessions.proofs.station_view.StationView.first_before.Goals as goal

pub returns : goal.returns
returns c =
    smallest_found (SeesOf (operations_of c.args.self.view) (In (seen_of c.args.self.view)) c.args.read) _ _ _ c.find.result c.find.ensures (λ k p. search rules) (λ k s. search rules) (λ k s. search rules)
