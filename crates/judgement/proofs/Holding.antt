-- What shows a violation.
use Rattle.std.proofs.Common.{ℕ, List}
use Rattle.recording.specs.declared.operation.Operation.{Operation}
use Rattle.visibility.specs.Growth.{Rel}
use Rattle.judgement.specs.declared.verdict.Violation.{Violation}
use Rattle.judgement.specs.declared.verdict.Violation.TheVariants.{ThinAir, BadVisibility, BadInitRead, BadRead, BadArb, HbInitRead, CyclicHb}
use Rattle.violations.specs.Explained.{In}
use Rattle.judgement.specs.Verdicts.{Absent, Shows}
use Rattle.violations.specs.Violations.{Arbitration}
use Rattle.judgement.proofs.Fronts.{cycle_not_acyclic}

module _ (ops : List Operation) (V : Rel) where
  -- what is shown holds
  pub shown_holds : (x : Violation) (s : ℕ) (e : List ℕ) → Shows ops V x s e → ¬ Absent ops V x
  shown_holds ThinAir s e h a = a h.1.0 h.1.2.0
  shown_holds BadVisibility s e h a = cycle_not_acyclic (In V) e h.1 a
  shown_holds BadInitRead s e h a = a h.1.0.read h.1.0.write h.1.2.0
  shown_holds BadRead s e h a = a h.1.0.read h.1.0.source h.1.0.rival h.1.2.0
  shown_holds BadArb s e h a = cycle_not_acyclic (Arbitration ops V) e h.1 a
  shown_holds HbInitRead s e h a = let z = h.3 in a h.0 z.last z.H z.happened h.1.read h.1.write z.smallest.0
  shown_holds CyclicHb s e h a = let z = h.3 in a h.0 z.last z.H z.happened h.1.read h.1.source h.1.rival z.smallest.0
