-- The verdicts of the own and of the shared judgement.
use Rattle.std.proofs.Common.{◌≡◌, ℕ, ◌≤◌, Bool, true, List, [], length, get_or, take, None, Ok, Err, Result, sym, refl, ap, ◌∙◌, subst, arith}
use Rattle.std.proofs.lemmas.List.{length-take-le}
use Rattle.std.proofs.lemmas.Bool.{false≢true}
use Rattle.std.specs.Result.{result_and}
use Rattle.recording.specs.declared.operation.Operation.{Operation}
use Rattle.recording.specs.Operations.{IsRead}
use Rattle.relation.specs.Orders.{Tail}
use Rattle.rows.specs.Members.{related}
use Rattle.visibility.specs.Growth.{Rel}
use Rattle.visibility.specs.Visible.{IsLeast}
use Rattle.judgement.specs.declared.refusal.Refusal.{Refusal}
use Rattle.judgement.specs.declared.shown.Shown.{Shown}
use Rattle.judgement.specs.declared.verdict.Verdict.{Verdict}
use Rattle.judgement.specs.declared.verdict.Violation.{Violation}
use Rattle.judgement.specs.declared.verdict.Violation.TheVariants.{ThinAir, BadVisibility, BadInitRead, BadRead, BadArb, HbInitRead, CyclicHb}
use Rattle.violations.specs.Explained.{Demand, Valid, OwnExplains, OwnExplained, SharedExplains, SharedExplained}
use Rattle.judgement.specs.Arbitrated.{SharedSought}
use Rattle.judgement.specs.Ordered.{OrderFound, OrderedFor}
use Rattle.judgement.specs.Showing.{Evident, OwnSought, verdict_of}
use Rattle.judgement.specs.Verdicts.{Absent, First, Finding, Judged, OwnJudged, SharedJudged, Lent, Fits, OrderAnswer, OrderGiven, OrderRefused, in_own, in_shared}
use Rattle.violations.specs.Violations.{OwnClean}
use Rattle.violations.proofs.Deciding.{own_clean, shared_clean, own_explains, shared_explains, lawful_read}
use Rattle.judgement.proofs.Holding.{shown_holds}

module _ (ops : List Operation) (V : Rel) where
  -- of the violations that a judgement looks for, no other than the last three can hold where the own judgement finds none
  pub looked_absent : (looks : Violation → Bool) → OwnClean ops V → (looks BadArb ≡ true → Absent ops V BadArb) → (looks HbInitRead ≡ true → Absent ops V HbInitRead) → (looks CyclicHb ≡ true → Absent ops V CyclicHb)
      → (x : Violation) → looks x ≡ true → Absent ops V x
  looked_absent looks c f g h ThinAir l = c.thinair
  looked_absent looks c f g h BadVisibility l = c.badvisibility
  looked_absent looks c f g h BadInitRead l = c.badinitread
  looked_absent looks c f g h BadRead l = c.badread
  looked_absent looks c f g h BadArb l = f l
  looked_absent looks c f g h HbInitRead l = g l
  looked_absent looks c f g h CyclicHb l = h l

module _ (D : Demand) (known label : ℕ) (same : label ≡ known) (ops : List Operation) (V : Rel) (L : IsLeast D ops V) (before after : List ℕ) where
  module _ (looks : Violation → Bool) (Explained : Type 0) (Explains : Rel → List ℕ → Type 0) where
    -- a violation that is first and shown
    pub violation_judged : (Explained → (x : Violation) → looks x ≡ true → Absent ops V x) → (s : Shown) → First looks ops V s.violation × Evident ops V s.violation s.station s.count before after
        → Judged looks Explained Explains D known ops (verdict_of label (Err s)) V before after
    violation_judged clean s f = record {
      explained_exactly_when_orders_exist = (λ z. absurd (cc), λ z. absurd (shown_holds ops V s.violation s.station (take s.count after) f.1.shows (clean z s.violation f.0.looked)));
      first_violation_with_its_evidence = (f.0, f.1.shows);
      table_is_the_least_visibility = L;
      count_within_the_buffer = f.1.few;
      past_the_count_unchanged = f.1.tail;
      label_of_the_rule = same;
    }

    -- an explanation, with n numbers of evidence
    pub explained_judged : (n : ℕ) → Explained → Explains V (take n after) → n ≤ 256 → Tail before after n → Judged looks Explained Explains D known ops (verdict_of label (Ok n)) V before after
    explained_judged n e x few tail = record {
      explained_exactly_when_orders_exist = (λ z. e, λ z. refl);
      first_violation_with_its_evidence = (refl, x);
      table_is_the_least_visibility = L;
      count_within_the_buffer = few;
      past_the_count_unchanged = tail;
      label_of_the_rule = same;
    }

-- where nothing stands against the recording, and no numbers are needed, the buffer is as before
module _ (looks : Violation → Bool) (Explained : Type 0) (E : Rel → Type 0) (D : Demand) (label : ℕ) (ops : List Operation) (v : Verdict) (V : Rel) (before middle : List ℕ)
    (j : Judged looks Explained (λ V e. E V × (e ≡ [])) D label ops v V before middle) (none : v.violation ≡ None) where
  numberless : E V × (take v.count middle ≡ [])
  numberless = (subst (λ x. Finding looks (λ e. E V × (e ≡ [])) ops V x v.station (take v.count middle)) none j.first_violation_with_its_evidence).1

  pub explains : E V
  explains = numberless.0

  pub unchanged : length middle ≡ 256 → Tail before middle 0
  unchanged room i h =
      let few = j.count_within_the_buffer in
      let long = length-take-le v.count middle (omega arith) in
      let nil : length (take v.count middle) ≡ 0 = ap length numberless.1 in
      j.past_the_count_unchanged i (omega arith)

module _ (D : Demand) (known label : ℕ) (same : label ≡ known) (ops : List Operation) (valid : Valid ops) (V : Rel) (L : IsLeast D ops V) (before after : List ℕ) where
  own_means : OwnExplained D ops → (x : Violation) → in_own x ≡ true → Absent ops V x
  own_means e = looked_absent ops V in_own (own_clean ops valid D V L e.0 e.1) (λ l. absurd (false≢true l)) (λ l. absurd (false≢true l)) (λ l. absurd (false≢true l))

  shared_means : SharedExplained D ops → (x : Violation) → in_shared x ≡ true → Absent ops V x
  shared_means e = let c = shared_clean ops valid D V L e.0 e.1 e.2 in looked_absent ops V in_shared c.own (λ l. c.badarb) (λ l. absurd (false≢true l)) (λ l. absurd (false≢true l))

  -- the answer of the own judgement
  pub own_judged : (r : Result (Unit {0}) Shown) → OwnSought ops V before after r → OwnJudged D known ops (verdict_of label (result_and r (Ok 0))) V before after
  own_judged (Err s) f =
      violation_judged D known label same ops V L before after in_own (OwnExplained D ops) (λ V e. OwnExplains D ops V × (e ≡ [])) own_means s (record { looked = f.0; before = λ y _ h. f.1 y h }, f.2)
  own_judged (Ok u) f =
      let x = own_explains ops valid D V L f.0 in
      explained_judged D known label same ops V L before after in_own (OwnExplained D ops) (λ V e. OwnExplains D ops V × (e ≡ [])) 0 (V, x) (x, refl) (omega arith) (λ i h. ap (λ l. get_or l i 0) f.1)

  -- the answer of the shared judgement
  pub shared_judged : (r : Result ℕ Shown) → SharedSought ops V before after r → SharedJudged D known ops (verdict_of label r) V before after
  shared_judged (Err s) f = violation_judged D known label same ops V L before after in_shared (SharedExplained D ops) (SharedExplains D ops) shared_means s f
  shared_judged (Ok n) f =
      let o = f.1 in
      let x = shared_explains ops valid D V L f.0 (take n after) o.ordering o.conflicts in
      explained_judged D known label same ops V L before after in_shared (SharedExplained D ops) (SharedExplains D ops) n (V, take n after, x) x o.few o.tail

-- an order for a read, where the own judgement finds nothing
module _ (D : Demand) (known : ℕ) (ops : List Operation) (valid : Valid ops) (v : Verdict) (V : Rel) (before middle : List ℕ) (j : OwnJudged D known ops v V before middle) (none : v.violation ≡ None) where
  pub order_clean : OwnClean ops V
  order_clean = own_clean ops valid D V j.table_is_the_least_visibility V (explains in_own (OwnExplained D ops) (OwnExplains D ops) D known ops v V before middle j none)

  pub order_given : length middle ≡ 256 → (read n : ℕ) (after : List ℕ) → IsRead ops read → OrderedFor ops V read n middle after → OrderGiven D ops read n V before after
  order_given room read n after h o = record {
    lawful_order = lawful_read ops valid D V j.table_is_the_least_visibility order_clean (take n after) read h o.ordering o.rivals;
    explains = explains in_own (OwnExplained D ops) (OwnExplains D ops) D known ops v V before middle j none;
    table_is_the_least_visibility = j.table_is_the_least_visibility;
    count_within_the_buffer = o.few;
    past_the_order_unchanged = λ i k. o.tail i k ∙ unchanged in_own (OwnExplained D ops) (OwnExplains D ops) D known ops v V before middle j none room i (omega arith);
  }

-- what an order for a read is answered
module _ (D : Demand) (label : ℕ) (ops : List Operation) (read : ℕ) (before after : Lent) (fits : Fits before) (is_read : IsRead ops read) where
  pub order_answered : (r : Result ℕ Refusal) → OrderFound D label ops read (related after.seen) before.evidence after.evidence r → OrderAnswer D label ops read before r after
  order_answered (Ok n) f = (fits, is_read, f)
  order_answered (Err e) f = subst (λ e. OrderRefused D label ops read before e after) (sym f.0) (refl, fits, is_read, f.1)
