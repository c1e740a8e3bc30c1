use Rattle.std.proofs.Common.{rules, ◌≡◌, ℕ, ◌<◌, true, length, ◌∙◌, subst, arith}
use Rattle.std.proofs.lemmas.Bool.{lt-ltb}
use Rattle.recording.specs.Telling.{recorded}
use Rattle.rows.specs.Members.{member, related}
use Rattle.visibility.specs.Growth.{Least}
use Rattle.visibility.specs.Visible.{Asked}
use Rattle.visibility.proofs.Leasts.{is_least}
use Rattle.visibility.proofs.least.least_visibility.Goals as goal

pub returns-in-Some-clause-least : goal.returns-in-Some-clause-least
returns-in-Some-clause-least g c = λ h.
    let D = g.R.Rule.demands c.args.rule.now in
    let ops = (recorded c.args.recording.now).operations in
    let s = c.put_sources.ensures.sources (search rules) in
    let grown = subst (λ f. Least (Asked D f) (related c.put_sources.new.table) (related c.grow.new.table)) c.from.ensures (c.grow.ensures.least s.long) in
    let all : (r : ℕ) → r < length ops → member c.below.result r ≡ true = λ r l. c.below.ensures r ∙ lt-ltb r _ (omega arith) in
    is_least D (g.met.R.Rule.grows c.args.rule.now) ops c.put_sources.new.table (related c.grow.new.table) (λ r. member c.below.result r ≡ true) all s grown
