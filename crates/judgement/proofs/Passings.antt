-- One station more, and all stations.
use Rattle.std.proofs.Common.{◌≡◌, ℕ, ◌+◌, ◌<◌, List, Some, None, Ok, Err, Option, sym, ◌∙◌, subst, inl, inr, ⊎_elim, arith}
use Rattle.std.proofs.lemmas.Bool.{cases_eq, cases_order}
use Rattle.std.specs.Option.{option_or}
use Rattle.recording.specs.declared.operation.Operation.{Operation}
use Rattle.recording.specs.Operations.{at}
use Rattle.recording.specs.Stations.{LastOf}
use Rattle.visibility.specs.Growth.{Rel, Inside}
use Rattle.violations.specs.declared.evidence.Pair.{Pair}
use Rattle.violations.specs.declared.evidence.Rivals.{Rivals}
use Rattle.sessions.specs.Happening.{Last, HappensBefore, HbInitRead, CyclicHb}
use Rattle.judgement.specs.declared.stale.AtStation.{AtStation}
use Rattle.judgement.specs.Passing.{FoundAt, CyclicSoFar, Passed}
use Rattle.judgement.specs.Verdicts.{NoInitAt, NoCyclicAt, InitAt}

module _ (ops : List Operation) (V : Rel) where
  -- ── What has happened before what is one relation ──

  module _ (o : ℕ) (H : Rel) (I : HappensBefore ops V o H) where
    within : (G : Rel) → HappensBefore ops V o G → Inside G H
    within G J = J.least H I.happens

    no_init_any : ((r x : ℕ) → ¬ HbInitRead ops o H r x) → NoInitAt ops V o
    no_init_any n last G J r x t = n r x (record { own = t.own; value = t.value; sees = record { is_write = t.sees.is_write; register = t.sees.register; seen = within G J x r t.sees.seen } })

    no_cyclic_any : ((r w x : ℕ) → ¬ CyclicHb ops o H r w x) → NoCyclicAt ops V o
    no_cyclic_any n last G J r w x t = n r w x (record {
      own = t.own;
      rival = record { source = t.rival.source; sees = record { is_write = t.rival.sees.is_write; register = t.rival.sees.register; seen = within G J x r t.rival.sees.seen }; other = t.rival.other };
      after = within G J w x t.after;
    })

  -- ── The last operation of a station ──

  module _ (s n : ℕ) (l : LastOf ops s (Some n)) where
    pub is_last : Last ops n
    is_last = record { inside = l.0; end = λ b h k e. l.2 b h k (e ∙ l.1) }

    only_last : (o : ℕ) → Last ops o → (at ops o).station ≡ s → o ≡ n
    only_last o k e =
        ⊎_elim (λ q. q) (⊎_elim (λ q. absurd (k.end n q l.0 (l.1 ∙ sym e))) (λ q. absurd (l.2 o q k.inside e))) (cases_order o n)

  -- a station below s + 1 is below s, or s
  below_or : (s k : ℕ) → k < s + 1 → (P : Type 0) → (k < s → P) → (k ≡ s → P) → P
  below_or s k h P f g = elim (cases_eq k s) [ inl e ↦ g e | inr n ↦ f (omega arith) ]

  -- ── One station more ──

  module _ (s : ℕ) where
    so_far_none : (c : Option (AtStation Rivals)) → LastOf ops s None → CyclicSoFar ops V s c → CyclicSoFar ops V (s + 1) c
    so_far_none None l p = λ o last h. below_or s (at ops o).station h (FoundAt ops V o (Ok None)) (p o last) (λ e. absurd (l o last.inside e))
    so_far_none (Some c) l p = p

    pub pass_none : (c : Option (AtStation Rivals)) → LastOf ops s None → Passed ops V s c → Passed ops V (s + 1) c
    pass_none c l p = record {
      init = λ o h. below_or s (at ops o).station h (NoInitAt ops V o) (p.init o) (λ e last. absurd (l o last.inside e));
      cyclic = so_far_none c l p.cyclic;
    }

    module _ (n : ℕ) (l : LastOf ops s (Some n)) where
      init_on : NoInitAt ops V n → ((o : ℕ) → (at ops o).station < s → NoInitAt ops V o) → (o : ℕ) → (at ops o).station < s + 1 → NoInitAt ops V o
      init_on k p o h = below_or s (at ops o).station h (NoInitAt ops V o) (p o) (λ e last. subst (NoInitAt ops V) (sym (only_last s n l o last e)) k last)

      so_far_clean : (c : Option (AtStation Rivals)) → FoundAt ops V n (Ok None) → CyclicSoFar ops V s c → CyclicSoFar ops V (s + 1) c
      so_far_clean None f p = λ o last h. below_or s (at ops o).station h (FoundAt ops V o (Ok None)) (p o last) (λ e. subst (λ x. FoundAt ops V x (Ok None)) (sym (only_last s n l o last e)) f)
      so_far_clean (Some c) f p = p

      pub pass_clean : (c : Option (AtStation Rivals)) → FoundAt ops V n (Ok None) → Passed ops V s c → Passed ops V (s + 1) c
      pass_clean c f p = record { init = init_on (no_init_any n f.0 f.1 f.2) p.init; cyclic = so_far_clean c f p.cyclic }

      so_far_cyclic : (c : Option (AtStation Rivals)) (t : Rivals) → FoundAt ops V n (Ok (Some t)) → CyclicSoFar ops V s c → CyclicSoFar ops V (s + 1) (option_or c (Some (record { station = s; last = n; found = t })))
      so_far_cyclic None t f p = record {
        last = is_last s n l;
        station = l.1;
        H = f.0;
        happened = f.1;
        smallest = f.3;
        earlier = λ q h last. let z = p q last h in no_cyclic_any q z.0 z.1 z.3 last;
      }
      so_far_cyclic (Some c) t f p = p

      pub pass_cyclic : (c : Option (AtStation Rivals)) (t : Rivals) → FoundAt ops V n (Ok (Some t)) → Passed ops V s c → Passed ops V (s + 1) (option_or c (Some (record { station = s; last = n; found = t })))
      pass_cyclic c t f p = record { init = init_on (no_init_any n f.0 f.1 f.2) p.init; cyclic = so_far_cyclic c t f p.cyclic }

      pub pass_init : (c : Option (AtStation Rivals)) (p : Pair) → FoundAt ops V n (Err p) → Passed ops V s c → InitAt ops V s n p
      pass_init c p f k = record { last = is_last s n l; station = l.1; H = f.0; happened = f.1; smallest = f.2; earlier = k.init }
