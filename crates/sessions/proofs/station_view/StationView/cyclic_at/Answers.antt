use Rattle.std.proofs.Common.{◌≡◌, ℕ, true, sym, subst, rules}
use Rattle.rows.specs.Members.{bit, has, member}
use Rattle.violations.specs.Explained.{In}
use Rattle.violations.specs.Views.{operations_of, seen_of}
use Rattle.violations.proofs.Seeking.{smallest_rivals}
use Rattle.sessions.specs.Happening.{CyclicHb}
use Rattle.sessions.specs.Listings.{StationRead}
use Rattle.sessions.proofs.station_view.StationView.cyclic_at.Goals as goal

pub returns : goal.returns
unfolding has bit
returns c =
    let ops = operations_of c.args.self.view in
    let H = seen_of c.args.self.view in
    let last = c.args.self.last in
    let this : (r : ℕ) → member c.of.result r ≡ true → r ≡ c.args.read = λ r h. search rules in
    smallest_rivals (λ r w x. (r ≡ c.args.read) × CyclicHb ops last H r w x) _ (In H) _ c.overtaken.result c.overtaken.ensures
    (λ r w x p s. (this r p.0, record { own = subst (StationRead ops last) (sym (this r p.0)) c.requires; rival = p.1; after = s })) (λ r w x q. ((search rules, q.1.rival), q.1.after)) (λ w row s x. search rules)
