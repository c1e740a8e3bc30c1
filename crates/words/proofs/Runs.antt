-- What a run of calls settles follows from call to call, and is one recording.
use Rattle.std.proofs.Common.{◌≡◌, ℕ, List, [], ◌∷◌, ◌++◌, map, Some, None, Ok, Err, Option, Result, sym, refl, ap, ◌∙◌, subst, inl, inr, append_assoc, append-nil, arith}
use Rattle.std.proofs.lemmas.List.{map_push}
use Rattle.recording.specs.declared.operation.Operation.{Operation}
use Rattle.recording.specs.declared.refusal.Refusal.{Refusal}
use Rattle.recording.specs.Operations.{write_of, read_of}
use Rattle.recording.specs.Telling.{Recorded, empty, with}
use Rattle.words.specs.declared.calls.Answer.{Answer}
use Rattle.words.specs.declared.calls.Call.{Call}
use Rattle.words.specs.declared.calls.Call.TheVariants.{Start, Write, Read, Load}
use Rattle.words.specs.declared.calls.CallRefusal.{CallRefusal}
use Rattle.words.specs.declared.fault.Misread.{Misread}
use Rattle.words.specs.declared.loading.LoadRefusal.{LoadRefusal}
use Rattle.words.specs.Calls.{Answers}
use Rattle.words.specs.Layout.{Said, opening, write, read, note, closing}
use Rattle.words.specs.Loading.{Heard, Means, tell_ground, told, Tells}
use Rattle.words.specs.Reading.{Reading, at_start, said_at, pass}
use Rattle.words.specs.Runs.{Event, started, took, Since, event_of, Tellings, Accepts, Runs, Settles}

-- ── Events ──

since_took : (es : List Event) (b : Recorded) (x : Operation) → Since es b → Since (es ++ took x ∷ []) (with b x)
since_took es b x (inl s) = inl (s.0, ap (λ l. l ++ took x ∷ []) s.1 ∙ sym (map_push took b.operations x))
since_took es b x (inr s) =
    inr (
      s.0,
      ap (λ l. l ++ took x ∷ []) s.1 ∙ append_assoc s.0 (started b.stations ∷ map took b.operations) (took x ∷ [])
          ∙ ap (λ l. s.0 ++ started b.stations ∷ l) (sym (map_push took b.operations x)),
    )

pub since_more : (es : List Event) (b : Recorded) (s : Said) → Since es b → Since (es ++ event_of s) (told b s)
since_more es b (opening stations) since = inr (es, refl)
since_more es b (write station register value) since = since_took es b (write_of station register value) since
since_more es b (read station register value) since = since_took es b (read_of station register value) since
since_more es b (note text) since = subst (λ l. Since l b) (sym (append-nil es)) since
since_more es b (closing count) since = subst (λ l. Since l b) (sym (append-nil es)) since

-- the recording after events, from one before
settled : Recorded → List Event → Recorded
settled b [] = b
settled b (started stations ∷ es) = settled (empty stations) es
settled b (took x ∷ es) = settled (with b x) es

settled_took : (b : Recorded) (ops : List Operation) → settled b (map took ops) ≡ record { stations = b.stations; operations = b.operations ++ ops }
unfolding settled
settled_took b [] = λ i. record { stations = b.stations; operations = sym (append-nil b.operations) i }
settled_took b (x ∷ ops) = settled_took (with b x) ops ∙ (λ i. record { stations = b.stations; operations = append_assoc b.operations (x ∷ []) ops i })

settled_past : (b : Recorded) (es : List Event) (stations : ℕ) (ops : List Operation) → settled b (es ++ started stations ∷ map took ops) ≡ record { stations = stations; operations = ops }
unfolding settled
settled_past b [] stations ops = settled_took (empty stations) ops
settled_past b (started n ∷ es) stations ops = settled_past (empty n) es stations ops
settled_past b (took x ∷ es) stations ops = settled_past (with b x) es stations ops

since_settled : (es : List Event) (r : Recorded) → Since es r → settled (empty 1) es ≡ r
since_settled es r (inl s) = ap (settled (empty 1)) s.1 ∙ settled_took (empty 1) r.operations ∙ (λ i. record { stations = sym s.0 i; operations = r.operations })
since_settled es r (inr s) = ap (settled (empty 1)) s.1 ∙ settled_past (empty 1) s.0 r.stations r.operations

since_one : (es : List Event) (r r' : Recorded) → Since es r → Since es r' → r ≡ r'
since_one es r r' s s' = sym (since_settled es r s) ∙ since_settled es r' s'

-- ── One call more ──

abbrev Accepted : List Event → List Said → Recorded → Type 0
Accepted es said a = (after : List Event) × Accepts es said after × Since after a

-- records that are told one by one
accepts_records : (hs : List Heard) (end : Option Misread) (b : Recorded) (answer : Result ℕ LoadRefusal) (a : Recorded) (es : List Event)
    → Since es b → Tells hs end b answer a → Accepted es (map (λ h. h.said) hs) a
accepts_records [] None b answer a es since t = (es, refl, subst (Since es) (sym t.1) since)
accepts_records [] (Some e) b answer a es since t = (es, refl, subst (Since es) (sym t.1) since)
accepts_records (h ∷ hs) end b answer a es since (inl t) =
    let on = accepts_records hs end (told b h.said) answer a (es ++ event_of h.said) (since_more es b h.said since) t.1 in
    (on.0, (b, since, inl (t.0, on.1)), on.2)
accepts_records (h ∷ hs) end b answer a es since (inr t) = (es, (b, since, inr (t.0, t.1, refl)), subst (Since es) (sym t.3) since)

-- one thing that is told
accepts_one : (s : Said) (b a : Recorded) (es : List Event) → Since es b → tell_ground b s ≡ None → a ≡ told b s → Accepted es (s ∷ []) a
accepts_one s b a es since ok e = (es ++ event_of s, (b, since, inl (ok, refl)), subst (Since (es ++ event_of s)) (sym e) (since_more es b s since))

refuses_one : (s : Said) (b a : Recorded) (es : List Event) (e : Refusal) → Since es b → tell_ground b s ≡ Some e → a ≡ b → Accepted es (s ∷ []) a
refuses_one s b a es e since no' same = (es, (b, since, inr (e, no', refl)), subst (Since es) (sym same) since)

abbrev TellsCall : Call → List Event → Recorded → Type 0
TellsCall call es a = (said : List Said) × Tellings call said × Accepted es said a

accepts_call : (call : Call) (b : Recorded) (answer : Result Answer CallRefusal) (a : Recorded) (es : List Event) → Since es b → Answers b call answer a → TellsCall call es a
accepts_call (Start stations) b answer a es since (Ok u, e, t) = (opening stations ∷ [], refl, accepts_one (opening stations) b a es since t.0 t.1)
accepts_call (Start stations) b answer a es since (Err f, e, t) = (opening stations ∷ [], refl, refuses_one (opening stations) b a es f since t.0 t.1)
accepts_call (Write station register value) b answer a es since (Ok n, e, t) =
    (write station register value ∷ [], refl, accepts_one (write station register value) b a es since t.0 t.2)
accepts_call (Write station register value) b answer a es since (Err f, e, t) =
    (write station register value ∷ [], refl, refuses_one (write station register value) b a es f since t.0 t.1)
accepts_call (Read station register value) b answer a es since (Ok n, e, t) =
    (read station register value ∷ [], refl, accepts_one (read station register value) b a es since t.0 t.2)
accepts_call (Read station register value) b answer a es since (Err f, e, t) =
    (read station register value ∷ [], refl, refuses_one (read station register value) b a es f since t.0 t.1)
accepts_call (Load words) b answer a es since (r, e, inl t) = ([], inl (t.0, refl), (es, refl, subst (Since es) (sym t.2) since))
accepts_call (Load words) b answer a es since (r, e, inr t) =
    let l = t.1 in
    (map (λ h. h.said) l.0, inr (t.0, l.0, l.1, l.2, refl), accepts_records l.0 l.1 b r a es since l.3)

runs_more : (calls : List Call) (call : Call) (es between after : List Event) (said : List Said)
    → Runs es calls between → Tellings call said → Accepts between said after → Runs es (calls ++ call ∷ []) after
runs_more [] call es between after said runs tells accepts = (said, after, tells, subst (λ l. Accepts l said after) runs accepts, refl)
runs_more (c ∷ calls) call es between after said runs tells accepts =
    (runs.0, runs.1, runs.2, runs.3, runs_more calls call runs.1 between after said runs.4 tells accepts)

-- what calls settled, and one more call, settle
pub settles_more : (calls : List Call) (call : Call) (b : Recorded) (answer : Result Answer CallRefusal) (a : Recorded) → Settles calls b → Answers b call answer a → Settles (calls ++ call ∷ []) a
settles_more calls call b answer a s answers =
    let t = accepts_call call b answer a s.0 s.2 answers in
    let u = t.2 in
    (u.0, runs_more calls call [] s.0 u.0 t.0 s.1 t.1 u.1, u.2)

-- ── One recording ──

means_one : (r : Reading) (hs hs' : List Heard) (end end' : Option Misread) → Means r hs end → Means r hs' end' → hs ≡ hs'
means_one r [] [] end end' m m' = refl
means_one r [] (h ∷ hs) None end' m m' = absurd (cc (ap said_at m.1, m'.1))
means_one r [] (h ∷ hs) (Some e) end' m m' = absurd (cc (m'.0, m.0))
means_one r (h ∷ hs) [] end None m m' = absurd (cc (ap said_at m'.1, m.1))
means_one r (h ∷ hs) [] end (Some e) m m' = absurd (cc (m.0, m'.0))
means_one r (h ∷ hs) (k ∷ ks) end end' m m' =
    let said : h.said ≡ k.said = cc (m.1, m'.1) in
    let place : h.place ≡ k.place = m.2 ∙ sym m'.2 in
    let rest = means_one (pass r h.said) hs ks end end' m.3 (subst (λ s. Means (pass r s) ks end') (sym said) m'.3) in
    λ i. record { place = place i; said = said i } ∷ rest i

tellings_one : (call : Call) (said said' : List Said) → Tellings call said → Tellings call said' → said ≡ said'
tellings_one (Start stations) said said' t t' = t ∙ sym t'
tellings_one (Write station register value) said said' t t' = t ∙ sym t'
tellings_one (Read station register value) said said' t t' = t ∙ sym t'
tellings_one (Load words) said said' (inl t) (inl t') = t.1 ∙ sym t'.1
tellings_one (Load words) said said' (inl t) (inr t') = absurd (omega (arith, t.0, t'.0))
tellings_one (Load words) said said' (inr t) (inl t') = absurd (omega (arith, t.0, t'.0))
tellings_one (Load words) said said' (inr t) (inr t') =
    t.4 ∙ ap (map (λ h. h.said)) (means_one (at_start words.now) t.1 t'.1 t.2 t'.2 t.3 t'.3) ∙ sym t'.4

accepts_same : (said : List Said) (es a a' : List Event) → Accepts es said a → Accepts es said a' → a ≡ a'
accepts_same [] es a a' t t' = t ∙ sym t'
accepts_same (s ∷ said) es a a' (r, since, inl t) (r', since', inl t') = accepts_same said (es ++ event_of s) a a' t.1 t'.1
accepts_same (s ∷ said) es a a' (r, since, inl t) (r', since', inr t') = absurd (cc (t.0, t'.1, ap (λ z. tell_ground z s) (since_one es r r' since since')))
accepts_same (s ∷ said) es a a' (r, since, inr t) (r', since', inl t') = absurd (cc (t.1, t'.0, ap (λ z. tell_ground z s) (since_one es r r' since since')))
accepts_same (s ∷ said) es a a' (r, since, inr t) (r', since', inr t') = t.2 ∙ sym t'.2

runs_one : (calls : List Call) (es a a' : List Event) → Runs es calls a → Runs es calls a' → a ≡ a'
runs_one [] es a a' t t' = t ∙ sym t'
runs_one (call ∷ calls) es a a' t t' =
    let said = tellings_one call t.0 t'.0 t.2 t'.2 in
    let between = accepts_same t'.0 es t.1 t'.1 (subst (λ l. Accepts es l t.1) said t.3) t'.3 in
    runs_one calls t'.1 a a' (subst (λ l. Runs l calls a) between t.4) t'.4

-- calls settle one recording
pub settles_one : (calls : List Call) (r r' : Recorded) → Settles calls r → Settles calls r' → r ≡ r'
settles_one calls r r' s s' = since_one s'.0 r r' (subst (λ l. Since l r) (runs_one calls [] s.0 s'.0 s.1 s'.1) s.2) s'.2
