-- Each fact on a recording is decided.
use Rattle.std.proofs.Common.{◌≡◌, ℕ, ◌<◌, ◌≢◌, List, length, refl}
use mathlib.Core.Logic.Dec
use native.Mathlib.Decide.{ℕ_discrete, dec_lt}
use Rattle.recording.specs.declared.operation.Kind.{Kind}
use Rattle.recording.specs.declared.operation.Kind.TheVariants.{Write, Read}
use Rattle.recording.specs.declared.operation.Operation.{Operation}
use Rattle.recording.specs.Operations.{at, IsWrite, IsRead, SourceOf}
use Rattle.relation.proofs.Extending.{dec_true, dec_below}
use Rattle.visibility.specs.Growth.{Rel}
use Rattle.violations.specs.Explained.{In, SeesOf, Writes}
use Rattle.violations.specs.Violations.{Rival}

dec_kind : (k l : Kind) → Dec (k ≡ l)
dec_kind Write Write = yes refl
dec_kind Write Read = no (λ e. cc)
dec_kind Read Write = no (λ e. cc)
dec_kind Read Read = yes refl

module _ (ops : List Operation) where
  -- an operation of that kind
  dec_operation : (a : ℕ) (k : Kind) → Dec ((a < length ops) × ((at ops a).kind ≡ k))
  dec_operation a k = Dec.and (dec_lt a (length ops)) (dec_kind (at ops a).kind k)

  pub dec_write : (a : ℕ) → Dec (IsWrite ops a)
  dec_write a = Dec.of_iff (λ h. record { inside = h.0; kind = h.1 }, λ w. (w.inside, w.kind)) (dec_operation a Write)

  pub dec_read : (a : ℕ) → Dec (IsRead ops a)
  dec_read a = Dec.of_iff (λ h. record { inside = h.0; kind = h.1 }, λ w. (w.inside, w.kind)) (dec_operation a Read)

  dec_source : (w r : ℕ) → Dec (SourceOf ops w r)
  dec_source w r =
      Dec.of_iff {P = (IsRead ops r × IsWrite ops w) × (((at ops w).register ≡ (at ops r).register) × ((at ops w).value ≡ (at ops r).value))}
      (λ h. record { is_read = h.0.0; gives = record { is_write = h.0.1; register = h.1.0; value = h.1.1 } }, λ s. ((s.is_read, s.gives.is_write), (s.gives.register, s.gives.value)))
      (Dec.and (Dec.and (dec_read r) (dec_write w)) (Dec.and (ℕ_discrete (at ops w).register (at ops r).register) (ℕ_discrete (at ops w).value (at ops r).value)))

  -- the source of r, if it has one
  pub find_source : (r : ℕ) → Dec ((w : ℕ) × SourceOf ops w r)
  find_source r = Dec.of_iff (λ h. (h.0, h.2), λ s. (s.0, s.1.gives.is_write.inside, s.1)) (dec_below (λ w. SourceOf ops w r) (λ w. dec_source w r) (length ops))

  module _ (v : Rel) where
    pub dec_sees : (r w : ℕ) → Dec (SeesOf ops (In v) r w)
    dec_sees r w =
        Dec.of_iff {P = IsWrite ops w × (((at ops w).register ≡ (at ops r).register) × In v w r)}
        (λ h. record { is_write = h.0; register = h.1.0; seen = h.1.1 }, λ s. (s.is_write, (s.register, s.seen)))
        (Dec.and (dec_write w) (Dec.and (ℕ_discrete (at ops w).register (at ops r).register) (dec_true (v w r))))

    pub dec_writes : (a b : ℕ) → Dec (Writes ops v a b)
    dec_writes a b = Dec.of_iff (λ h. (h.0, h.1.0, h.1.1), λ h. (h.0, (h.1, h.2))) (Dec.and (dec_write a) (Dec.and (dec_write b) (dec_true (v a b))))

    pub dec_rival : (r w x : ℕ) → Dec (Rival ops v r w x)
    dec_rival r w x =
        Dec.of_iff {P = SourceOf ops w r × (SeesOf ops (In v) r x × (x ≢ w))}
        (λ h. record { source = h.0; sees = h.1.0; other = h.1.1 }, λ c. (c.source, (c.sees, c.other)))
        (Dec.and (dec_source w r) (Dec.and (dec_sees r x) (Dec.not (ℕ_discrete x w))))
