use Rattle.std.proofs.Common.{◌≡◌, ℕ, length, ◌∙◌, subst, true≢false, sym, arith, rules}
use Rattle.violations.specs.Tabled.{Tabled}
use Rattle.violations.specs.Views.{operations_of, seen_of}
use Rattle.violations.proofs.view.View.put_conflicts.Goals as goal

pub loop-read-init : goal.loop-read-init
loop-read-init c = record {
  long = search rules;
  sound = λ x w h. absurd (true≢false (sym h ∙ c.clear.ensures.pairs x w));
  whole = λ x w r l. absurd (omega arith);
}

pub returns-after-loop-read-clause-conflicts : goal.returns-after-loop-read-clause-conflicts
returns-after-loop-read-clause-conflicts c =
    let ops = operations_of c.args.self in
    let all : c.loop-read.read ≡ length ops = search rules in
    λ h. subst (λ (n : ℕ). Tabled ops (seen_of c.args.self) n c.loop-read.table) all c.loop-read.invariant
