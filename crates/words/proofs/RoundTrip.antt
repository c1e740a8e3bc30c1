-- The words of a recording load back as that recording.
use Rattle.std.proofs.Common.{◌≡◌, ℕ, ◌+◌, ◌*◌, ◌^◌, ◌<◌, ◌≤◌, List, [], ◌∷◌, ◌++◌, map, length, take, drop, Some, None, Ok, Result, sym, refl, ap, ◌∙◌, subst, inl, inr, append_assoc, append-nil, arith, length-append}
use lib.ListN.{length-map}
use lib.Seq.{get_or-append_seam}
use Rattle.std.proofs.lemmas.List.{length_push, get_or_append_left, take_at}
use Rattle.std.proofs.lemmas.Bool.{eq-eqb}
use Rattle.std.proofs.lemmas.Bool.Decides.{nat_tests}
use Rattle.recording.specs.declared.operation.Kind.{Kind}
use Rattle.recording.specs.declared.operation.Kind.TheVariants as kind
use Rattle.recording.specs.declared.operation.Operation.{Operation}
use Rattle.recording.specs.declared.recording.Recording.{Recording}
use Rattle.recording.specs.Lawful.{InRange, NonZero, Apart}
use Rattle.recording.specs.Operations.{write_of, read_of, at}
use Rattle.recording.specs.Telling.{Recorded, recorded, start_ground, write_ground, read_ground, Allowed}
use Rattle.recording.proofs.Operations.{written_false}
use Rattle.words.specs.declared.kind.WordKind.{WordKind}
use Rattle.words.specs.declared.kind.WordKind.TheVariants.{Note, Write, Read, Opening, Closing}
use Rattle.words.specs.declared.loading.LoadRefusal.{LoadRefusal}
use Rattle.words.specs.declared.reader.Phase.TheVariants.{Between}
use Rattle.words.specs.Layout.{bits, blank, kind_of, Said, opening, write, read, closing}
use Rattle.words.specs.Reading.{Reading, at_start, ground_of, said_at, pass}
use Rattle.words.specs.Loading.{tell_ground, told, Tells, Loads, LoadsFrom}
use Rattle.words.specs.Saving.{opening_word, closing_word, operation_word, words_of, Saves, LoadsBack}

-- ── Going on with a load ──

-- an accepted record is told, and the load goes on behind it
step : (r : Reading) (before : Recorded) (s : Said) (answer : Result ℕ LoadRefusal) (after : Recorded)
    → ground_of r ≡ None → said_at r.rest ≡ Some s → tell_ground before s ≡ None
    → LoadsFrom r before answer after → LoadsFrom (pass r s) (told before s) answer after
step r before s answer after g said ok ([], None, means, told') = absurd (cc (said, ap said_at means.1))
step r before s answer after g said ok ([], Some e, means, told') = absurd (cc (g, means.0))
step r before s answer after g said ok (h ∷ hs, end, means, told') = go told'
  where
    same : h.said ≡ s
    same = cc means.1

    go : Tells (h ∷ hs) end before answer after → LoadsFrom (pass r s) (told before s) answer after
    go (inl t) = subst (λ z. LoadsFrom (pass r z) (told before z) answer after) same (hs, end, means.3, t.1)
    go (inr t) = absurd (cc (t.1, ap (tell_ground before) same))

-- the load ends with the words
ends : (r : Reading) (before : Recorded) (answer : Result ℕ LoadRefusal) (after : Recorded)
    → ground_of r ≡ None → r.rest ≡ [] → LoadsFrom r before answer after → (answer ≡ Ok (length before.operations)) × (after ≡ before)
ends r before answer after g e ([], None, means, told') = told'
ends r before answer after g e ([], Some f, means, told') = absurd (cc (g, means.0))
ends r before answer after g e (h ∷ hs, end, means, told') = absurd (cc (means.1, ap said_at e))

-- ── The words one by one ──

-- a word is of the kind whose bits stand on top
kind_at : (k : WordKind) (w low : ℕ) → w ≡ blank k + low → low < 2 ^ 29 → kind_of w ≡ k
kind_at Note w low e h = let top : bits 31 30 w ≡ 0 = omega arith in rw top refl
kind_at Write w low e h = let top : bits 31 30 w ≡ 1 = omega arith in rw top refl
kind_at Read w low e h = let top : bits 31 30 w ≡ 2 = omega arith in rw top refl
kind_at Opening w low e h = let top : bits 31 30 w ≡ 3 = omega arith in let frame : bits 29 29 w ≡ 0 = omega arith in rw (top, frame) refl
kind_at Closing w low e h = let top : bits 31 30 w ≡ 3 = omega arith in let frame : bits 29 29 w ≡ 1 = omega arith in rw (top, frame) refl

-- between the opening and the closing, where so many operations are done
middle : List Operation → ℕ → ℕ → ℕ → Reading
middle todo count all p = record { phase = Between; operations = count; place = p; rest = map operation_word todo ++ closing_word all ∷ [] }

abbrev op : Kind → ℕ → ℕ → ℕ → Operation
op k s r v = record { kind = k; station = s; register = r; value = v }

loads_opening : (S : ℕ) (ops : List Operation) (b : Recorded) (answer : Result ℕ LoadRefusal) (a : Recorded) → 1 ≤ S → S ≤ 16
    → LoadsFrom (at_start (words_of (record { stations = S; operations = ops }))) b answer a
    → LoadsFrom (middle ops 0 (length ops) 1) (record { stations = S; operations = [] }) answer a
unfolding middle
loads_opening S ops b answer a some most loads =
    let w = opening_word S in
    let k : kind_of w ≡ Opening = kind_at Opening w S refl (omega arith) in
    let clear : bits 28 8 w ≡ 0 = omega arith in
    let low : bits 7 0 w ≡ S = omega arith in
    let start : start_ground S ≡ None = grind (arith, nat_tests) in
    step (at_start (words_of (record { stations = S; operations = ops }))) b (opening S) answer a (rw (k, clear) refl) (rw (k, low) refl) start loads

loads_closing : (S : ℕ) (ops : List Operation) (p : ℕ) (answer : Result ℕ LoadRefusal) (a : Recorded) → length ops < 2 ^ 29
    → LoadsFrom (middle [] (length ops) (length ops) p) (record { stations = S; operations = ops }) answer a
    → (answer ≡ Ok (length ops)) × (a ≡ record { stations = S; operations = ops })
unfolding middle
loads_closing S ops p answer a few loads =
    let n = length ops in
    let w = closing_word n in
    let b : Recorded = record { stations = S; operations = ops } in
    let k : kind_of w ≡ Closing = kind_at Closing w n refl few in
    let low : bits 28 0 w ≡ n = omega arith in
    ends (pass (middle [] n n p) (closing n)) b answer a refl refl
    (step (middle [] n n p) b (closing n) answer a (rw (k, eq-eqb (bits 28 0 w) n low) refl) (rw (k, low) refl) refl loads)

-- an operation that may be appended is
loads_operation : (k : Kind) (s r v : ℕ) (S : ℕ) (done todo : List Operation) (count all p : ℕ) (answer : Result ℕ LoadRefusal) (a : Recorded)
    → S ≤ 16 → length done < 256 → Allowed (record { stations = S; operations = done }) (op k s r v)
    → LoadsFrom (middle (op k s r v ∷ todo) count all p) (record { stations = S; operations = done }) answer a
    → LoadsFrom (middle todo (count + 1) all (p + 1)) (record { stations = S; operations = done ++ op k s r v ∷ [] }) answer a
unfolding middle
loads_operation kind.Write s r v S done todo count all p answer a most few allowed loads =
    let w = operation_word (write_of s r v) in
    let b : Recorded = record { stations = S; operations = done } in
    let station : s < S = allowed.station in let reg : r ≤ 63 = allowed.register in let value : v ≤ 524287 = allowed.value in
    let some : 1 ≤ v = allowed.nonzero refl in let new = allowed.fresh refl in
    let k : kind_of w ≡ Write = kind_at Write w (s * 2 ^ 25 + r * 2 ^ 19 + v) (omega arith) (omega arith) in
    let clear : bits 29 29 w ≡ 0 = omega arith in
    let fields : (bits 28 25 w ≡ s) × (bits 24 19 w ≡ r) × (bits 18 0 w ≡ v) = (omega arith, omega arith, omega arith) in
    let ok : write_ground b s r v ≡ None = grind (arith, nat_tests) in
    step (middle (write_of s r v ∷ todo) count all p) b (write s r v) answer a (rw (k, clear) refl) (rw (k, fields.0, fields.1, fields.2) refl) ok loads
loads_operation kind.Read s r v S done todo count all p answer a most few allowed loads =
    let w = operation_word (read_of s r v) in
    let b : Recorded = record { stations = S; operations = done } in
    let station : s < S = allowed.station in let reg : r ≤ 63 = allowed.register in let value : v ≤ 524287 = allowed.value in
    let k : kind_of w ≡ Read = kind_at Read w (s * 2 ^ 25 + r * 2 ^ 19 + v) (omega arith) (omega arith) in
    let clear : bits 29 29 w ≡ 0 = omega arith in
    let fields : (bits 28 25 w ≡ s) × (bits 24 19 w ≡ r) × (bits 18 0 w ≡ v) = (omega arith, omega arith, omega arith) in
    let ok : read_ground b s r v ≡ None = grind (arith, nat_tests) in
    step (middle (read_of s r v ∷ todo) count all p) b (read s r v) answer a (rw (k, clear) refl) (rw (k, fields.0, fields.1, fields.2) refl) ok loads

-- ── Telling a recording its own operations ──

-- what holds of every recording's operations
record Lawful (S : ℕ) (ops : List Operation) : Type 0 where
  few : length ops ≤ 256
  range : InRange S ops
  nonzero : NonZero ops
  apart : Apart ops

allowed_next : (S : ℕ) (done todo : List Operation) (x : Operation) → Lawful S (done ++ x ∷ todo) → Allowed (record { stations = S; operations = done }) x
allowed_next S done todo x lawful =
    let here : at (done ++ x ∷ todo) (length done) ≡ x = get_or-append_seam done x todo (write_of 0 0 0) in
    let inside : length done < length (done ++ x ∷ todo) = omega (arith, length-append done (x ∷ todo)) in
    let range = rw here at (lawful.range (length done) inside) in
    record {
      station = range.0;
      register = range.1;
      value = range.2;
      nonzero = λ e. rw here at (lawful.nonzero (length done) (record { inside = inside; kind = ap (λ y. y.kind) here ∙ e }));
      fresh = λ e. written_false done x.register x.value (λ w g.
          let old = get_or_append_left done (x ∷ todo) (write_of 0 0 0) w g.is_write.inside in
          let same : w ≡ length done = lawful.apart w (length done) (record {
            first = record { inside = omega (arith, g.is_write.inside, length-append done (x ∷ todo)); kind = ap (λ y. y.kind) old ∙ g.is_write.kind };
            second = record { inside = inside; kind = ap (λ y. y.kind) here ∙ e };
            register = ap (λ y. y.register) old ∙ g.register ∙ sym (ap (λ y. y.register) here);
            value = ap (λ y. y.value) old ∙ g.value ∙ sym (ap (λ y. y.value) here);
          }) in
          omega (arith, g.is_write.inside));
    }

loads_rest : (S : ℕ) → S ≤ 16 → (all : List Operation) → Lawful S all → (todo done : List Operation) (count p : ℕ) (answer : Result ℕ LoadRefusal) (a : Recorded)
    → count ≡ length done → done ++ todo ≡ all → LoadsFrom (middle todo count (length all) p) (record { stations = S; operations = done }) answer a
    → (answer ≡ Ok (length all)) × (a ≡ record { stations = S; operations = all })
loads_rest S most all lawful [] done count p answer a c e loads =
    let same : done ≡ all = sym (append-nil done) ∙ e in
    loads_closing S all p answer a (omega (arith, lawful.few)) (rw same at (rw c at loads))
loads_rest S most all lawful (x ∷ todo) done count p answer a c e loads =
    let few : length done < 256 = omega (arith, lawful.few, ap length e, length-append done (x ∷ todo)) in
    let allowed = allowed_next S done todo x (subst (Lawful S) (sym e) lawful) in
    loads_rest S most all lawful todo (done ++ x ∷ []) (count + 1) (p + 1) answer a (omega (arith, length_push done x)) (append_assoc done (x ∷ []) todo ∙ e)
    (loads_operation x.kind x.station x.register x.value S done todo count (length all) p answer a most few allowed loads)

long : (r : Recorded) → length (words_of r) ≡ length r.operations + 2
long r = omega (arith, length-append (map operation_word r.operations) (closing_word (length r.operations) ∷ []), length-map r.operations operation_word)

-- a recording with so many stations, whose operations keep what holds of every recording
pub loads_back : (r : Recorded) → 1 ≤ r.stations → r.stations ≤ 16 → length r.operations ≤ 256 → InRange r.stations r.operations → NonZero r.operations → Apart r.operations
    → LoadsBack r
loads_back r some most few range nonzero apart before answer after (inl t) = absurd (omega (arith, t.0, long r))
loads_back r some most few range nonzero apart before answer after (inr t) =
    loads_rest r.stations most r.operations (record { few = few; range = range; nonzero = nonzero; apart = apart }) r.operations [] 0 1 answer after refl refl
    (loads_opening r.stations r.operations before answer after some most t.1)

pub recording_loads_back : (r : Recording) → LoadsBack (recorded r)
recording_loads_back r = loads_back (recorded r) r.some r.most r.few r.range r.nonzero r.apart

-- a load of the words that were saved
pub copied : (r : Recording) (n : ℕ) (before after : List ℕ) (b : Recorded) (answer : Result ℕ LoadRefusal) (a : Recorded)
    → Saves (recorded r) before (Ok n) after → Loads b (take n after) answer a → (answer ≡ Ok (length (recorded r).operations)) × (a ≡ recorded r)
copied r n before after b answer a saved loads =
    let front : take n after ≡ words_of (recorded r) = ap (take n) saved.2 ∙ take_at (words_of (recorded r)) (drop n before) n (omega (arith, long (recorded r), saved.0)) in
    recording_loads_back r b answer a (rw front at loads)
