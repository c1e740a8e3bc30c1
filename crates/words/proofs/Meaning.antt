-- Every list of words means something, and a load goes record by record.
use Rattle.std.proofs.Common.{◌≡◌, ℕ, zero, suc, ◌<◌, ◌≤◌, List, [], ◌∷◌, length, Some, None, Ok, Err, Option, Result, refl, ap, subst₂, inl, inr, arith, length-drop}
use Rattle.std.specs.Result.{MatchResult, IsErrAnd, result_map_both}
use Rattle.recording.specs.declared.refusal.Refusal.{Refusal}
use Rattle.recording.specs.Telling.{Recorded}
use Rattle.words.specs.declared.fault.Fault.{Fault}
use Rattle.words.specs.declared.fault.Misread.{Misread}
use Rattle.words.specs.declared.loading.LoadRefusal.{LoadRefusal}
use Rattle.words.specs.declared.loading.LoadRefusal.TheVariants.{Reader, Recording}
use Rattle.words.specs.Layout.{Said, opening, write, read, note, closing, kind_of, says}
use Rattle.words.specs.declared.record.Placed.{Placed}
use Rattle.words.specs.Reading.{Reading, ground_of, said_at, width_of, pass, heard, Next}
use Rattle.words.specs.Loading.{Heard, Means, tell_ground, told, ToldAnswer, LoadsFrom}

pub width_some : (s : Said) → 1 ≤ width_of s
width_some (opening stations) = omega arith
width_some (write station register value) = omega arith
width_some (read station register value) = omega arith
width_some (note text) = omega arith
width_some (closing count) = omega arith

-- fewer words are left after a record
pub fewer : (r : Reading) (s : Said) → 1 ≤ length r.rest → length (pass r s).rest < length r.rest
fewer r s h = omega (arith, length-drop (width_of s) r.rest, width_some s)

abbrev Meaning : Reading → Type 0
Meaning r = (hs : List Heard) × (end : Option Misread) × Means r hs end

-- a record more
means_more : (r : Reading) (s : Said) → ground_of r ≡ None → said_at r.rest ≡ Some s → Meaning (pass r s) → Meaning r
means_more r s e at m = (record { place = r.place; said = s } ∷ m.0, m.1, (e, at, refl, m.2))

means_step : (r : Reading) (g : Option Fault) → ground_of r ≡ g → (l : List ℕ) → r.rest ≡ l → ((s : Said) → 1 ≤ length r.rest → Meaning (pass r s)) → Meaning r
means_step r (Some f) e l split more = ([], Some (record { fault = f; place = r.place }), (e, refl))
means_step r None e [] split more = ([], None, (e, split))
means_step r None e (w ∷ l) split more = means_more r (says (kind_of w) w l) e (ap said_at split) (more (says (kind_of w) w l) (omega (arith, ap length split)))

means_within : (n : ℕ) (r : Reading) → length r.rest ≤ n → Meaning r
means_within zero r few = means_step r (ground_of r) refl r.rest refl (λ s some. absurd (omega arith))
means_within (suc n) r few = means_step r (ground_of r) refl r.rest refl (λ s some. means_within n (pass r s) (omega (arith, fewer r s some)))

pub means_something : (r : Reading) → Meaning r
means_something r = means_within (length r.rest) r (omega arith)

-- an accepted record is told, and the load goes on behind it
pub record_told : (r : Reading) (before : Recorded) (s : Said) (answer : Result ℕ LoadRefusal) (after : Recorded)
    → ground_of r ≡ None → said_at r.rest ≡ Some s → tell_ground before s ≡ None
    → LoadsFrom (pass r s) (told before s) answer after → LoadsFrom r before answer after
record_told r before s answer after e at ok more = (record { place = r.place; said = s } ∷ more.0, more.1, (e, at, refl, more.2), inl (ok, more.3))

-- a refused record, a fault of the words, or their end is the end of it
pub record_refused : (r : Reading) (before : Recorded) (s : Said) (refusal : Refusal)
    → ground_of r ≡ None → said_at r.rest ≡ Some s → tell_ground before s ≡ Some refusal
    → LoadsFrom r before (Err (Recording refusal r.place)) before
record_refused r before s refusal e at no' =
    let rest = means_something (pass r s) in
    (record { place = r.place; said = s } ∷ rest.0, rest.1, (e, at, refl, rest.2), inr (refusal, no', refl, refl))

pub words_misread : (r : Reading) (before : Recorded) (e : Misread) → ground_of r ≡ Some e.fault → e.place ≡ r.place → LoadsFrom r before (Err (Reader e)) before
words_misread r before e g p = ([], Some e, (g, p), (refl, refl))

pub words_ended : (r : Reading) (before : Recorded) → ground_of r ≡ None → r.rest ≡ [] → LoadsFrom r before (Ok (length before.operations)) before
words_ended r before g e = ([], None, (g, e), (refl, refl))

-- the answer to a record at that place, as the load's
abbrev pub passed : ℕ → Result (Unit {0}) Refusal → Result (Unit {0}) LoadRefusal
passed place told = result_map_both (λ u. u) (λ e. Recording e place) told

pub passed_on : (place : ℕ) (told : Result (Unit {0}) Refusal) (out : Result (Unit {0}) LoadRefusal) (Q : Refusal → LoadRefusal → Type 0)
    → MatchResult told (λ u. out ≡ Ok u) (λ e. IsErrAnd out (Q e)) → ((e : Refusal) (x : LoadRefusal) → Q e x → x ≡ Recording e place) → out ≡ passed place told
passed_on place (Ok u) out Q cases at = cases
passed_on place (Err e) (Ok u) Q cases at = absurd cases
passed_on place (Err e) (Err x) Q cases at = ap Err (at e x cases)

-- a load goes on with what follows an accepted record
pub loads_more : (r r' : Reading) (b b' : Recorded) (p : Placed) (told : Result (Unit {0}) Refusal) (u : Unit {0}) (answer : Result ℕ LoadRefusal) (after : Recorded)
    → Next r (Ok (Some p)) r' → ToldAnswer b (heard p.record) told b' → passed p.place told ≡ Ok u → LoadsFrom r' b' answer after → LoadsFrom r b answer after
loads_more r r' b b' p (Ok v) u answer after next taken is more =
    record_told r b (heard p.record) answer after next.0 next.1 taken.0 (subst₂ (λ z a. LoadsFrom z a answer after) next.3 taken.1 more)
loads_more r r' b b' p (Err e) u answer after next taken is more = absurd (cc is)

-- it ends at a refused record, at a fault of the words, or with them
pub loads_refused : (r r' : Reading) (b b' : Recorded) (p : Placed) (told : Result (Unit {0}) Refusal) (e : LoadRefusal)
    → Next r (Ok (Some p)) r' → ToldAnswer b (heard p.record) told b' → passed p.place told ≡ Err e → LoadsFrom r b (Err e) b'
loads_refused r r' b b' p (Ok u) e next refused is = absurd (cc is)
loads_refused r r' b b' p (Err f) e next refused is =
    let rest = means_something (pass r (heard p.record)) in
    (record { place = p.place; said = heard p.record } ∷ rest.0, rest.1, (next.0, next.1, next.2, rest.2), inr (f, refused.0, cc is, refused.1))

pub loads_fault : (r r' : Reading) (b : Recorded) (e : Misread) → Next r (Err e) r' → LoadsFrom r b (Err (Reader e)) b
loads_fault r r' b e next = words_misread r b e next.0 next.1

pub loads_all : (r r' : Reading) (b : Recorded) → Next r (Ok None) r' → LoadsFrom r b (Ok (length b.operations)) b
loads_all r r' b next = words_ended r b next.0 next.1
