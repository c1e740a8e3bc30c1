use Rattle.std.proofs.Common.{◌≡◌, ◌+◌, ◌-◌, ◌^◌, ◌<◌, ℕ, [], length, arith, refl, ap, ◌∙◌, length-set, length-drop, rules, ⊎_elim}
use Rattle.recording.specs.Telling.{recorded}
use Rattle.words.proofs.Spelling.{opening_spelled, closing_spelled, front_more, rest_more, saved}
use Rattle.words.proofs.saving.save.Goals as goal

pub loop-place-init : goal.loop-place-init
loop-place-init c =
    let ws = c.args.words.now in
    let some : 0 < length ws = omega arith in
    (search rules, search rules, search rules, rw (c.blank.ensures, c.stations.ensures, opening_spelled (recorded c.args.recording.now).stations (omega arith)) (front_more ws [] 0 _ some refl), rest_more ws ws 0 _ refl)

pub returns : goal.returns
returns c =
    let n = length c.loop-place.yielded in
    let operations = (recorded c.args.recording.now).operations in
    let left : length c.loop-place.place-iterator.b.rest.now ≡ length operations - n = ap length c.loop-place.invariant.2 ∙ length-drop n operations in
    let same : length c.operations-operations.result.now ≡ length operations = ap length c.operations-operations.ensures in
    let all : n ≡ length c.operations-operations.result.now = ⊎_elim
    (λ p. let ended : 2 ^ 64 - 1 - c.loop-place.place-iterator.a.start ≡ 0 = p.1.0 in omega arith)
    (λ p. let ended : length c.loop-place.place-iterator.b.rest.now ≡ 0 = p.1.0 in omega arith)
    c.in-None.ensures.steps in
    let count : n ≡ length operations = all ∙ same in
    let room : n + 1 < length c.loop-place.words = omega (arith, length-set {A = ℕ}) in (
      ap (λ l. length l + 2) c.operations-operations.ensures,
      omega arith,
      rw (c.blank-2.ensures, ← all, closing_spelled n (omega arith)) (saved (recorded c.args.recording.now) _ _ _ count room c.loop-place.invariant.3 c.loop-place.invariant.4),
    )
