-- The verdict of the session judgement.
use Rattle.std.proofs.Common.{◌≡◌, ℕ, true, List, [], length, get_or, Some, None, Ok, Err, Result, refl, ap, ◌∙◌, arith}
use Rattle.std.proofs.lemmas.Bool.{false≢true}
use Rattle.std.specs.Result.{result_and}
use Rattle.recording.specs.declared.operation.Operation.{Operation}
use Rattle.recording.specs.Stations.{LastOf}
use Rattle.relation.specs.Orders.{Tail}
use Rattle.visibility.specs.Growth.{Rel}
use Rattle.visibility.specs.Visible.{CausalDemand, IsLeast}
use Rattle.violations.specs.Explained.{Valid}
use Rattle.sessions.specs.Listings.{SessionExplains, SessionExplained}
use Rattle.sessions.proofs.Sessions.{session_own_clean, no_init, no_cyclic, session_explains}
use Rattle.judgement.specs.declared.shown.Shown.{Shown}
use Rattle.judgement.specs.declared.verdict.Verdict.{Verdict}
use Rattle.judgement.specs.declared.verdict.Violation.{Violation}
use Rattle.judgement.specs.Ordered.{ListedPast}
use Rattle.judgement.specs.Showing.{verdict_of}
use Rattle.judgement.specs.Stale.{SessionSought}
use Rattle.judgement.specs.Verdicts.{Absent, SessionJudged, ListingGiven, in_session}
use Rattle.judgement.proofs.Judging.{explained_judged, explains, looked_absent, unchanged, violation_judged}

module _ (ops : List Operation) (valid : Valid ops) (V : Rel) (L : IsLeast CausalDemand ops V) (before after : List ℕ) where
  session_means : SessionExplained ops → (x : Violation) → in_session x ≡ true → Absent ops V x
  session_means e =
      let at = e.1.listings in
      looked_absent ops V in_session (session_own_clean ops valid V L e.0 e.1) (λ l. absurd (false≢true l)) (λ l o last H I. let x = at o last.inside in no_init ops valid V L e.0 e.1 o last x.0 x.1 H I)
      (λ l o last H I. let x = at o last.inside in no_cyclic ops valid V L e.0 e.1 o last x.0 x.1 H I)

  -- the answer of the session judgement
  pub session_judged : (r : Result (Unit {0}) Shown) → SessionSought ops V before after r → SessionJudged ops (verdict_of 0 (result_and r (Ok 0))) V before after
  session_judged (Err s) f = violation_judged CausalDemand 0 0 refl ops V L before after in_session (SessionExplained ops) (λ V e. SessionExplains ops V × (e ≡ [])) session_means s f
  session_judged (Ok u) f =
      let x = session_explains ops valid V L f.0 f.1 in
      explained_judged CausalDemand 0 0 refl ops V L before after in_session (SessionExplained ops) (λ V e. SessionExplains ops V × (e ≡ [])) 0 (V, x) (x, refl) (omega arith) (λ i h. ap (λ l. get_or l i 0) f.2)

-- a listing for a station, where the session judgement finds nothing
module _ (ops : List Operation) (v : Verdict) (V : Rel) (before middle : List ℕ) (j : SessionJudged ops v V before middle) (none : v.violation ≡ None) (room : length middle ≡ 256) where
  explained : SessionExplains ops V
  explained = explains in_session (SessionExplained ops) (SessionExplains ops) CausalDemand 0 ops v V before middle j none

  same : Tail before middle 0
  same = unchanged in_session (SessionExplained ops) (SessionExplains ops) CausalDemand 0 ops v V before middle j none room

  module _ (station : ℕ) where
    pub listing_given : (o n : ℕ) (after : List ℕ) → LastOf ops station (Some o) → ListedPast ops V o n middle after → ListingGiven ops station n V before after
    listing_given o n after l p = record {
      lawful_listing = (Some o, l, p.listing);
      explains = explained;
      table_is_the_least_visibility = j.table_is_the_least_visibility;
      count_within_the_buffer = p.few;
      past_the_listing_unchanged = λ i k. p.tail i k ∙ same i (omega arith);
    }

    pub nothing_given : LastOf ops station None → ListingGiven ops station 0 V before middle
    nothing_given l = record {
      lawful_listing = (None, l, refl);
      explains = explained;
      table_is_the_least_visibility = j.table_is_the_least_visibility;
      count_within_the_buffer = omega arith;
      past_the_listing_unchanged = same;
    }
