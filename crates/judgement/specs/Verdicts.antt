-- What the judgements answer, and what they leave in the memory that they are lent.
use Rattle.std.specs.Prelude.{◌≡◌, ℕ, ◌+◌, ◌-◌, ◌<◌, ◌≤◌, Bool, true, false, ◌≢◌, ◌↔◌, List, [], ◌∷◌, length, take, Some, None, Ok, Err, Option, Result, slice_index}
use Rattle.recording.specs.declared.operation.Operation.{Operation}
use Rattle.recording.specs.Operations.{at, IsRead}
use Rattle.recording.specs.Stations.{LastOf}
use Rattle.recording.specs.Telling.{Recorded}
use Rattle.relation.specs.Orders.{Tail}
use Rattle.relation.specs.Steps.{Acyclic, Once}
use Rattle.rows.specs.Members.{related}
use Rattle.visibility.specs.Growth.{Rel}
use Rattle.visibility.specs.Visible.{CausalDemand, IsLeast}
use Rattle.violations.specs.declared.evidence.Pair.{Pair}
use Rattle.violations.specs.declared.evidence.Rivals.{Rivals}
use Rattle.judgement.specs.declared.refusal.Refusal.{Refusal}
use Rattle.judgement.specs.declared.refusal.Refusal.TheVariants.{NoSuchStation, NotARead, WrongLength, NotExplained}
use Rattle.judgement.specs.declared.verdict.Verdict.{Verdict}
use Rattle.judgement.specs.declared.verdict.Violation.{Violation}
use Rattle.judgement.specs.declared.verdict.Violation.TheVariants.{ThinAir, BadVisibility, BadInitRead, BadRead, BadArb, HbInitRead, CyclicHb}
use Rattle.violations.specs.Explained.{Demand, In, LawfulFor, OwnExplains, OwnExplained, SharedExplains, SharedExplained}
use Rattle.violations.specs.Firsts.{Smallest, SmallestPair, SmallestRivals}
use Rattle.judgement.specs.Numbers.{violation_number, refusal_number}
use Rattle.violations.specs.Violations as violations
use Rattle.sessions.specs.Happening.{Last, HappensBefore}
use Rattle.sessions.specs.Happening as happening
use Rattle.sessions.specs.Listings.{Listing, SessionExplains, SessionExplained}

-- ── Violations and their evidence ──

-- different numbers, each related to the next, and the last to the first
pub record Cycle (R : ℕ → ℕ → Type 0) (l : List ℕ) : Type 0 where
  pub some : 0 < length l
  pub once : Once l
  pub steps : (i : ℕ) → i + 1 < length l → R (slice_index l i) (slice_index l (i + 1))
  pub closes : R (slice_index l (length l - 1)) (slice_index l 0)

-- for the last operation o of a station, with H what has happened before what: violation 6 or 7 does not hold
abbrev pub NoInitAt : List Operation → Rel → ℕ → Type 0
NoInitAt ops V o = Last ops o → (H : Rel) → HappensBefore ops V o H → (r x : ℕ) → ¬ happening.HbInitRead ops o H r x

abbrev pub NoCyclicAt : List Operation → Rel → ℕ → Type 0
NoCyclicAt ops V o = Last ops o → (H : Rel) → HappensBefore ops V o H → (r w x : ℕ) → ¬ happening.CyclicHb ops o H r w x

-- or it holds for the last operation o of the station s, with the smallest numbers, and for no smaller station
pub record InitAt (ops : List Operation) (V : Rel) (s o : ℕ) (p : Pair) : Type 0 where
  pub last : Last ops o
  pub station : (at ops o).station ≡ s
  pub H : Rel
  pub happened : HappensBefore ops V o H
  pub smallest : SmallestPair (happening.HbInitRead ops o H) (Some p)
  pub earlier : (q : ℕ) → (at ops q).station < s → NoInitAt ops V q

pub record CyclicAt (ops : List Operation) (V : Rel) (s o : ℕ) (t : Rivals) : Type 0 where
  pub last : Last ops o
  pub station : (at ops o).station ≡ s
  pub H : Rel
  pub happened : HappensBefore ops V o H
  pub smallest : SmallestRivals (happening.CyclicHb ops o H) (Some t)
  pub earlier : (q : ℕ) → (at ops q).station < s → NoCyclicAt ops V q

-- the violation does not hold
abbrev pub Absent : List Operation → Rel → Violation → Type 0
Absent ops V ThinAir = (r : ℕ) → ¬ violations.ThinAir ops r
Absent ops V BadVisibility = Acyclic (In V)
Absent ops V BadInitRead = (r w : ℕ) → ¬ violations.BadInitRead ops V r w
Absent ops V BadRead = (r w x : ℕ) → ¬ violations.BadRead ops V r w x
Absent ops V BadArb = Acyclic (violations.Arbitration ops V)
Absent ops V HbInitRead = (o : ℕ) → NoInitAt ops V o
Absent ops V CyclicHb = (o : ℕ) → NoCyclicAt ops V o

-- the numbers show that it holds: the smallest ones, or a cycle. The station s is 0, but where the violation is one of a station
abbrev pub Shows : List Operation → Rel → Violation → ℕ → List ℕ → Type 0
Shows ops V ThinAir s e = (s ≡ 0) × ((r : ℕ) × (e ≡ r ∷ []) × Smallest (violations.ThinAir ops) (Some r))
Shows ops V BadVisibility s e = (s ≡ 0) × Cycle (In V) e
Shows ops V BadInitRead s e = (s ≡ 0) × ((p : Pair) × (e ≡ p.read ∷ p.write ∷ []) × SmallestPair (violations.BadInitRead ops V) (Some p))
Shows ops V BadRead s e = (s ≡ 0) × ((t : Rivals) × (e ≡ t.read ∷ t.source ∷ t.rival ∷ []) × SmallestRivals (violations.BadRead ops V) (Some t))
Shows ops V BadArb s e = (s ≡ 0) × Cycle (violations.Arbitration ops V) e
Shows ops V HbInitRead s e = (o : ℕ) × (p : Pair) × (e ≡ o ∷ p.read ∷ p.write ∷ []) × InitAt ops V s o p
Shows ops V CyclicHb s e = (o : ℕ) × (t : Rivals) × (e ≡ t.read ∷ t.source ∷ t.rival ∷ []) × CyclicAt ops V s o t

-- which violations a judgement looks for
abbrev pub in_own : Violation → Bool
in_own ThinAir = true
in_own BadVisibility = true
in_own BadInitRead = true
in_own BadRead = true
in_own BadArb = false
in_own HbInitRead = false
in_own CyclicHb = false

abbrev pub in_shared : Violation → Bool
in_shared ThinAir = true
in_shared BadVisibility = true
in_shared BadInitRead = true
in_shared BadRead = true
in_shared BadArb = true
in_shared HbInitRead = false
in_shared CyclicHb = false

abbrev pub in_session : Violation → Bool
in_session ThinAir = true
in_session BadVisibility = true
in_session BadInitRead = true
in_session BadRead = true
in_session BadArb = false
in_session HbInitRead = true
in_session CyclicHb = true

-- the judgement looks for x, and nothing that it looks for and that comes before x holds
pub record First (looks : Violation → Bool) (ops : List Operation) (V : Rel) (x : Violation) : Type 0 where
  pub looked : looks x ≡ true
  pub before : (y : Violation) → looks y ≡ true → violation_number y < violation_number x → Absent ops V y

-- ── The memory that a caller lends ──

-- a visibility table, a working table and an evidence buffer
pub record Lent : Type 0 where
  pub seen : List ℕ
  pub working : List ℕ
  pub evidence : List ℕ

abbrev pub lent : List ℕ → List ℕ → List ℕ → Lent
lent seen working evidence = record { seen = seen; working = working; evidence = evidence }

-- tables of 1,024 words, and a buffer of 256 numbers
abbrev pub Fits : Lent → Type 0
Fits m = (length m.seen ≡ 1024) × (length m.working ≡ 1024) × (length m.evidence ≡ 256)

-- ── Judgements ──

-- explained, with what explains it; or a violation, with its evidence
abbrev pub Finding : (Violation → Bool) → (List ℕ → Type 0) → List Operation → Rel → Option Violation → ℕ → List ℕ → Type 0
Finding looks Explains ops V None s e = (s ≡ 0) × Explains e
Finding looks Explains ops V (Some x) s e = First looks ops V x × Shows ops V x s e

-- What a judgement says that looks for some violations: `Explained` is what it means that the recording is explained, and
-- `Explains V e` that the visibility V does it, with the evidence e. V is what the visibility table holds afterwards.
pub record Judged (looks : Violation → Bool) (Explained : Type 0) (Explains : Rel → List ℕ → Type 0) (D : Demand) (label : ℕ) (ops : List Operation) (v : Verdict) (V : Rel) (before after : List ℕ) : Type 0 where
  pub explained_exactly_when_orders_exist : (v.violation ≡ None) ↔ Explained
  pub first_violation_with_its_evidence : Finding looks (Explains V) ops V v.violation v.station (take v.count after)
  pub table_is_the_least_visibility : IsLeast D ops V
  pub count_within_the_buffer : v.count ≤ 256
  pub past_the_count_unchanged : Tail before after v.count
  pub label_of_the_rule : v.label ≡ label

-- own judgement: the table explains the recording, and no numbers are needed
abbrev pub OwnJudged : Demand → ℕ → List Operation → Verdict → Rel → List ℕ → List ℕ → Type 0
OwnJudged D label ops = Judged in_own (OwnExplained D ops) (λ V e. OwnExplains D ops V × (e ≡ [])) D label ops

-- shared judgement: the table explains the recording, with the order that the numbers are
abbrev pub SharedJudged : Demand → ℕ → List Operation → Verdict → Rel → List ℕ → List ℕ → Type 0
SharedJudged D label ops = Judged in_shared (SharedExplained D ops) (SharedExplains D ops) D label ops

-- session judgement: the table explains the recording, and no numbers are needed. There is no rule, and the label is 0
abbrev pub SessionJudged : List Operation → Verdict → Rel → List ℕ → List ℕ → Type 0
SessionJudged ops = Judged in_session (SessionExplained ops) (λ V e. SessionExplains ops V × (e ≡ [])) CausalDemand 0 ops

-- a verdict, the working table being free; or, by 8, some length is wrong, and nothing has changed
abbrev pub JudgementAnswer : (Verdict → Rel → List ℕ → List ℕ → Type 0) → Lent → Result Verdict Refusal → Lent → Type 0
JudgementAnswer Says before (Ok v) after = Fits before × Says v (related after.seen) before.evidence after.evidence
JudgementAnswer Says before (Err e) after = (refusal_number e ≡ 8) × (¬ Fits before) × (after ≡ before)

-- ── The order for a read ──

-- n numbers at the front of the buffer are an order that is lawful for the read; the table explains the recording
pub record OrderGiven (D : Demand) (ops : List Operation) (read n : ℕ) (V : Rel) (before after : List ℕ) : Type 0 where
  pub lawful_order : LawfulFor ops V read (take n after)
  pub explains : OwnExplains D ops V
  pub table_is_the_least_visibility : IsLeast D ops V
  pub count_within_the_buffer : n ≤ 256
  pub past_the_order_unchanged : Tail before after n

-- no order, since the recording is not explained: the memory is as the own judgement leaves it
pub record Unordered (D : Demand) (label : ℕ) (ops : List Operation) (V : Rel) (before after : List ℕ) : Type 0 where
  pub verdict : Verdict
  pub judged : OwnJudged D label ops verdict V before after
  pub violated : verdict.violation ≢ None
  pub not_explained : ¬ OwnExplained D ops

-- why there is no order: 8, then 7, and nothing has changed; then 17
abbrev pub OrderRefused : Demand → ℕ → List Operation → ℕ → Lent → Refusal → Lent → Type 0
OrderRefused D label ops read before WrongLength after = (refusal_number WrongLength ≡ 8) × (¬ Fits before) × (after ≡ before)
OrderRefused D label ops read before NotARead after = (refusal_number NotARead ≡ 7) × Fits before × (¬ IsRead ops read) × (after ≡ before)
OrderRefused D label ops read before NoSuchStation after = ⊥
OrderRefused D label ops read before NotExplained after =
    (refusal_number NotExplained ≡ 17) × Fits before × IsRead ops read × Unordered D label ops (related after.seen) before.evidence after.evidence

-- the length of the order; or the first ground that holds. The working table is free, but after 8 and 7
abbrev pub OrderAnswer : Demand → ℕ → List Operation → ℕ → Lent → Result ℕ Refusal → Lent → Type 0
OrderAnswer D label ops read before (Ok n) after = Fits before × IsRead ops read × OrderGiven D ops read n (related after.seen) before.evidence after.evidence
OrderAnswer D label ops read before (Err e) after = OrderRefused D label ops read before e after

-- ── The order for a station ──

-- a lawful listing of the last operation of a station, or the empty one where it has none
abbrev pub ListingOf : List Operation → Rel → Option ℕ → List ℕ → Type 0
ListingOf ops V None l = l ≡ []
ListingOf ops V (Some o) l = Listing ops V o l

abbrev pub StationListing : List Operation → ℕ → Rel → List ℕ → Type 0
StationListing ops station V l = (last : Option ℕ) × LastOf ops station last × ListingOf ops V last l

-- n numbers at the front of the buffer are such a listing; the table explains the recording
pub record ListingGiven (ops : List Operation) (station n : ℕ) (V : Rel) (before after : List ℕ) : Type 0 where
  pub lawful_listing : StationListing ops station V (take n after)
  pub explains : SessionExplains ops V
  pub table_is_the_least_visibility : IsLeast CausalDemand ops V
  pub count_within_the_buffer : n ≤ 256
  pub past_the_listing_unchanged : Tail before after n

-- no listing, since the recording is not explained: the memory is as the session judgement leaves it
pub record Unlisted (ops : List Operation) (V : Rel) (before after : List ℕ) : Type 0 where
  pub verdict : Verdict
  pub judged : SessionJudged ops verdict V before after
  pub violated : verdict.violation ≢ None
  pub not_explained : ¬ SessionExplained ops

-- why there is no listing: 8, then 2, and nothing has changed; then 17
abbrev pub ListingRefused : Recorded → ℕ → Lent → Refusal → Lent → Type 0
ListingRefused recording station before WrongLength after = (refusal_number WrongLength ≡ 8) × (¬ Fits before) × (after ≡ before)
ListingRefused recording station before NoSuchStation after = (refusal_number NoSuchStation ≡ 2) × Fits before × (recording.stations ≤ station) × (after ≡ before)
ListingRefused recording station before NotARead after = ⊥
ListingRefused recording station before NotExplained after =
    (refusal_number NotExplained ≡ 17) × Fits before × (station < recording.stations) × Unlisted recording.operations (related after.seen) before.evidence after.evidence

-- the length of the listing; or the first ground that holds
abbrev pub ListingAnswer : Recorded → ℕ → Lent → Result ℕ Refusal → Lent → Type 0
ListingAnswer recording station before (Ok n) after =
    Fits before × (station < recording.stations) × ListingGiven recording.operations station n (related after.seen) before.evidence after.evidence
ListingAnswer recording station before (Err e) after = ListingRefused recording station before e after
