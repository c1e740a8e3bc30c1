-- The words of frames and operations, as shifts and as sums, and the words of a save.
use Rattle.std.proofs.Common.{◌≡◌, ℕ, ◌+◌, ◌*◌, ◌%◌, ◌^◌, ◌<◌, List, [], ◌∷◌, ◌++◌, map, length, take, drop, set, sym, ap, ◌∙◌, mod-eq_of_lt, arith, take_all, take-append-drop, drop-drop, drop-set-lt}
use lib.Bits.{bit_or}
use Rattle.std.proofs.lemmas.List.{take_more_set}
use Rattle.std.proofs.lemmas.Nat.{or_shifted}
use Rattle.recording.specs.declared.operation.Kind.{Kind}
use Rattle.recording.specs.declared.operation.Kind.TheVariants as kind
use Rattle.recording.specs.Telling.{Recorded}
use Rattle.words.specs.Layout.{blank, kind_word}
use Rattle.words.specs.Saving.{opening_word, closing_word, operation_word, words_of}

pub opening_spelled : (stations : ℕ) → stations < 2 ^ 30 → bit_or (3 * 2 ^ 30) stations ≡ opening_word stations
opening_spelled stations h = or_shifted 3 30 stations h

pub closing_spelled : (count : ℕ) → count < 2 ^ 29 → bit_or (7 * 2 ^ 29) count ≡ closing_word count
closing_spelled count h = or_shifted 7 29 count h

-- kind, station, register and value side by side
pub side_by_side : (k s r v : ℕ) → k < 4 → s < 16 → r < 64 → v < 2 ^ 19
    → bit_or (bit_or (bit_or (k * 2 ^ 30 % 2 ^ 32) (s * 2 ^ 25 % 2 ^ 32)) (r * 2 ^ 19 % 2 ^ 32)) v ≡ k * 2 ^ 30 + s * 2 ^ 25 + r * 2 ^ 19 + v
side_by_side k s r v hk hs hr hv =
    let top : k * 2 ^ 30 % 2 ^ 32 ≡ k * 2 ^ 30 = mod-eq_of_lt (omega arith) in
    let station : s * 2 ^ 25 % 2 ^ 32 ≡ s * 2 ^ 25 = mod-eq_of_lt (omega arith) in
    let reg : r * 2 ^ 19 % 2 ^ 32 ≡ r * 2 ^ 19 = mod-eq_of_lt (omega arith) in
    let one : bit_or (k * 2 ^ 30) (s * 2 ^ 25) ≡ (k * 32 + s) * 2 ^ 25 = or_shifted k 30 (s * 2 ^ 25) (omega arith) ∙ omega arith in
    let two : bit_or ((k * 32 + s) * 2 ^ 25) (r * 2 ^ 19) ≡ ((k * 32 + s) * 64 + r) * 2 ^ 19 = or_shifted (k * 32 + s) 25 (r * 2 ^ 19) (omega arith) ∙ omega arith in
    let three : bit_or (((k * 32 + s) * 64 + r) * 2 ^ 19) v ≡ k * 2 ^ 30 + s * 2 ^ 25 + r * 2 ^ 19 + v = or_shifted ((k * 32 + s) * 64 + r) 19 v hv ∙ omega arith in
    rw (top, station, reg, one, two) three

pub operation_spelled : (k : Kind) (s r v : ℕ) → s < 16 → r < 64 → v < 2 ^ 19
    → bit_or (bit_or (bit_or (blank (kind_word k)) (s * 2 ^ 25 % 2 ^ 32)) (r * 2 ^ 19 % 2 ^ 32)) v ≡ blank (kind_word k) + s * 2 ^ 25 + r * 2 ^ 19 + v
operation_spelled kind.Write s r v = side_by_side 1 s r v (omega arith)
operation_spelled kind.Read s r v = side_by_side 2 s r v (omega arith)

-- one word more at the front
pub front_more : (ws front : List ℕ) (i w : ℕ) → i < length ws → take i ws ≡ front → take (i + 1) (set ws i w) ≡ front ++ w ∷ []
front_more ws front i w h e = take_more_set ws i w h ∙ ap (λ l. l ++ w ∷ []) e

-- and the rest as before
pub rest_more : (ws base : List ℕ) (i w : ℕ) → drop i ws ≡ drop i base → drop (i + 1) (set ws i w) ≡ drop (i + 1) base
rest_more ws base i w e = drop-set-lt (i + 1) ws i w (omega arith) ∙ sym (drop-drop 1 i ws) ∙ ap (drop 1) e ∙ drop-drop 1 i base

-- the last word, and what the whole is then
pub whole : (ws base front : List ℕ) (n w : ℕ) → n < length ws → take n ws ≡ front → drop n ws ≡ drop n base → set ws n w ≡ (front ++ w ∷ []) ++ drop (n + 1) base
whole ws base front n w h f r = sym (take-append-drop (n + 1) (set ws n w)) ∙ (λ i. front_more ws front n w h f i ++ rest_more ws base n w r i)

pub saved : (r : Recorded) (before ws : List ℕ) (n : ℕ) → n ≡ length r.operations → n + 1 < length ws
    → take (n + 1) ws ≡ opening_word r.stations ∷ map operation_word (take n r.operations) → drop (n + 1) ws ≡ drop (n + 1) before
    → set ws (n + 1) (closing_word n) ≡ words_of r ++ drop (n + 2) before
saved r before ws n count room front rest =
    let two : n + 1 + 1 ≡ n + 2 = omega arith in
    let all = front ∙ ap (λ l. opening_word r.stations ∷ map operation_word l) (take_all n r.operations (omega arith)) in
    whole ws before _ (n + 1) (closing_word n) room all rest ∙ (λ i. ((opening_word r.stations ∷ map operation_word r.operations) ++ closing_word (count i) ∷ []) ++ drop (two i) before)
