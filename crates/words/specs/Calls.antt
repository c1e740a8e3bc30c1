-- What each call answers, and the recording after it.
use Rattle.std.specs.Prelude.{◌≡◌, ℕ, Result}
use Rattle.std.specs.Result.{result_map_both}
use Rattle.recording.specs.declared.refusal.Refusal.{Refusal}
use Rattle.recording.specs.Operations.{write_of, read_of}
use Rattle.recording.specs.Telling as telling
use Rattle.recording.specs.Telling.{Recorded, write_ground, read_ground}
use Rattle.words.specs.declared.calls.Answer.{Answer}
use Rattle.words.specs.declared.calls.Answer.TheVariants.{Started, Told, Loaded}
use Rattle.words.specs.declared.calls.Call.{Call}
use Rattle.words.specs.declared.calls.Call.TheVariants.{Start, Write, Read, Load}
use Rattle.words.specs.declared.calls.CallRefusal.{CallRefusal}
use Rattle.words.specs.declared.calls.CallRefusal.TheVariants as refused
use Rattle.words.specs.declared.loading.LoadRefusal.{LoadRefusal}
use Rattle.words.specs.Loading.{Loads}

-- what the recording answers to a start, to an operation or to a load, as the answer to the call
abbrev pub to_start : Result (Unit {0}) Refusal → Result Answer CallRefusal
to_start r = result_map_both (λ u. Started) (λ e. refused.Recording e) r

abbrev pub to_operation : Result ℕ Refusal → Result Answer CallRefusal
to_operation r = result_map_both (λ n. Told n) (λ e. refused.Recording e) r

abbrev pub to_load : Result ℕ LoadRefusal → Result Answer CallRefusal
to_load r = result_map_both (λ n. Loaded n) (λ e. refused.Load e) r

abbrev pub Answers : Recorded → Call → Result Answer CallRefusal → Recorded → Type 0
Answers before (Start stations) answer after = (r : Result (Unit {0}) Refusal) × (answer ≡ to_start r) × telling.Started before stations r after
Answers before (Write station register value) answer after =
    (r : Result ℕ Refusal) × (answer ≡ to_operation r) × telling.Told (write_ground before station register value) (write_of station register value) before r after
Answers before (Read station register value) answer after =
    (r : Result ℕ Refusal) × (answer ≡ to_operation r) × telling.Told (read_ground before station register value) (read_of station register value) before r after
Answers before (Load words) answer after = (r : Result ℕ LoadRefusal) × (answer ≡ to_load r) × Loads before words.now r after
