-- The main promise: what is answered to any question about the recording that any run of calls settles, under any rule.
use Rattle.std.specs.Prelude.{List, ◌≡◌, ℕ, Ok, Err, Result}
use Rattle.recording.specs.Telling.{Recorded}
use Rattle.words.specs.declared.calls.Call.{Call}
use Rattle.words.specs.Runs.{Settles}
use Rattle.violations.specs.Explained.{Demand}
use Rattle.judgement.specs.declared.refusal.Refusal.{Refusal}
use Rattle.judgement.specs.declared.verdict.Verdict.{Verdict}
use Rattle.judgement.specs.Verdicts.{Lent, OwnJudged, SharedJudged, SessionJudged, JudgementAnswer, OrderAnswer, ListingAnswer}
use Rattle.examine.specs.declared.question.Question.{Question}
use Rattle.examine.specs.declared.question.Question.TheVariants.{Own, Shared, Session, OrderForRead, OrderForStation}
use Rattle.examine.specs.declared.question.Reply.{Reply}
use Rattle.examine.specs.declared.question.Reply.TheVariants.{Judged, Ordered}

-- to a judgement a verdict is answered, to an order a length, to both a refusal
abbrev pub Verdicted : (Result Verdict Refusal → Type 0) → Result Reply Refusal → Type 0
Verdicted P (Ok (Judged v)) = P (Ok v)
Verdicted P (Ok (Ordered n)) = ⊥
Verdicted P (Err e) = P (Err e)

abbrev pub Measured : (Result ℕ Refusal → Type 0) → Result Reply Refusal → Type 0
Measured P (Ok (Judged v)) = ⊥
Measured P (Ok (Ordered n)) = P (Ok n)
Measured P (Err e) = P (Err e)

-- what is answered about a recording, and what is left in the memory that is lent
abbrev pub Replies : Demand → ℕ → Recorded → Question → Lent → Result Reply Refusal → Lent → Type 0
Replies D label r Own before reply after = Verdicted (λ v. JudgementAnswer (OwnJudged D label r.operations) before v after) reply
Replies D label r Shared before reply after = Verdicted (λ v. JudgementAnswer (SharedJudged D label r.operations) before v after) reply
Replies D label r Session before reply after = Verdicted (λ v. JudgementAnswer (SessionJudged r.operations) before v after) reply
Replies D label r (OrderForRead read) before reply after = Measured (λ n. OrderAnswer D label r.operations read before n after) reply
Replies D label r (OrderForStation station) before reply after = Measured (λ n. ListingAnswer r station before n after) reply

-- The calls, which may be refused or not, settle one recording, beginning unstarted; the question is answered about that recording.
pub record Promise (D : Demand) (label : ℕ) (calls : List Call) (question : Question) (before : Lent) (reply : Result Reply Refusal) (after : Lent) : Type 0 where
  pub recording : Recorded
  pub settled_by_the_calls : Settles calls recording
  pub and_no_other : (other : Recorded) → Settles calls other → other ≡ recording
  pub answered : Replies D label recording question before reply after
