use Rattle.std.proofs.Common.{rules, ◌≡◌, ◌∷◌, refl, ap, suc, Some, [], subst}
use Rattle.std.specs.Result.{OkIff}
use Rattle.console.specs.Line.{IsNumber, number_of, NextWord}
use Rattle.console.proofs.Says.{at_word, failing, unreadable_first, unknown_kind, unreadable_register, unreadable_value, wrote, read}
use Rattle.console.proofs.Words.{more_words, left_utf8}
use Rattle.console.proofs.line.operation.Goals.{in-w+in_ok-number-in-w+in_ok-number-in-w-2, in-r+in_ok-number-in-r+in_ok-number-in-r-2}
use Rattle.console.proofs.line.operation.Goals as goal

pub returns-in_err-station : goal.returns-in_err-station
returns-in_err-station c =
    let (words, long, more) = more_words 4 c.args.words.now c.requires.utf8 in
    let bad : ¬ IsNumber c.args.first.now = search rules in
    (words, long, more, failing _ c.from_residual.result c.from_residual.ensures.0 (λ e. unreadable_first c.args.first.now words e c.requires.first bad))

pub returns-in_err-number-in-w : goal.returns-in_err-number-in-w
returns-in_err-number-in-w c =
    let (register, next, bad) = c.in_err-number-in-w.ensures in
    let (words, long, more) = more_words 2 c.number.new.words (left_utf8 _ _ register next (left_utf8 _ _ c.next.result.now c.next.ensures c.requires.utf8)) in
    (at_word c.next.result.now ∷ at_word register ∷ words, ap (λ n. suc (suc n)) long, (c.next.new.words, c.next.ensures, (c.number.new.words, next, more)), failing _ c.from_residual-in_err-number-in-w.result c.from_residual-in_err-number-in-w.ensures.0 (λ e. unreadable_register c.args.first.now _ register words e c.requires.first bad))

pub returns-in_err-number-in-w-2 : goal.returns-in_err-number-in-w-2
returns-in_err-number-in-w-2 c =
    let (register, next, number) = c.in_ok-number-in-w.ensures in
    let (value, then, bad) = c.in_err-number-in-w-2.ensures in
    let (words, long, more) = more_words 1 c.number-in-w.new.words (left_utf8 _ _ value then (left_utf8 _ _ register next (left_utf8 _ _ c.next.result.now c.next.ensures c.requires.utf8))) in (
      at_word c.next.result.now ∷ at_word register ∷ at_word value ∷ words,
      ap (λ n. suc (suc (suc n))) long,
      (c.next.new.words, c.next.ensures, (c.number.new.words, next, (c.number-in-w.new.words, then, more))),
      failing _ c.from_residual-in_err-number-in-w-2.result c.from_residual-in_err-number-in-w-2.ensures.0 (λ e. unreadable_value c.args.first.now _ register value words e c.requires.first bad),
    )

pub returns-in_err-number-in-r : goal.returns-in_err-number-in-r
returns-in_err-number-in-r c =
    let (register, next, bad) = c.in_err-number-in-r.ensures in
    let (words, long, more) = more_words 2 c.number-in-r.new.words (left_utf8 _ _ register next (left_utf8 _ _ c.next.result.now c.next.ensures c.requires.utf8)) in
    (at_word c.next.result.now ∷ at_word register ∷ words, ap (λ n. suc (suc n)) long, (c.next.new.words, c.next.ensures, (c.number-in-r.new.words, next, more)), failing _ c.from_residual-in_err-number-in-r.result c.from_residual-in_err-number-in-r.ensures.0 (λ e. unreadable_register c.args.first.now _ register words e c.requires.first bad))

pub returns-in_err-number-in-r-2 : goal.returns-in_err-number-in-r-2
returns-in_err-number-in-r-2 c =
    let (register, next, number) = c.in_ok-number-in-r.ensures in
    let (value, then, bad) = c.in_err-number-in-r-2.ensures in
    let (words, long, more) = more_words 1 c.number-in-r-2.new.words (left_utf8 _ _ value then (left_utf8 _ _ register next (left_utf8 _ _ c.next.result.now c.next.ensures c.requires.utf8))) in (
      at_word c.next.result.now ∷ at_word register ∷ at_word value ∷ words,
      ap (λ n. suc (suc (suc n))) long,
      (c.next.new.words, c.next.ensures, (c.number-in-r.new.words, next, (c.number-in-r-2.new.words, then, more))),
      failing _ c.from_residual-in_err-number-in-r-2.result c.from_residual-in_err-number-in-r-2.ensures.0 (λ e. unreadable_value c.args.first.now _ register value words e c.requires.first bad),
    )

pub returns-in_default : goal.returns-in_default
returns-in_default c =
    let (words, long, more) = more_words 3 c.next.new.words (left_utf8 _ _ c.next.result.now c.next.ensures c.requires.utf8) in
    (at_word c.next.result.now ∷ words, ap suc long, (c.next.new.words, c.next.ensures, more), unknown_kind c.args.first.now c.next.result.now words _ c.requires.first (search rules) (search rules))

pub returns : goal.returns
returns c =
    let (last, ends, says) = c.ended.ensures in
    let station : IsNumber c.args.first.now × (c.in_ok-station.station ≡ number_of c.args.first.now) = search rules in
    elim c.match-next.branch [
      | in-w+in_ok-number-in-w+in_ok-number-in-w-2 w ↦
          let (register, next, number) = w.in_ok-number-in-w.ensures in
          let (value, then, number_2) = w.in_ok-number-in-w-2.ensures in (
            at_word c.next.result.now ∷ at_word register ∷ at_word value ∷ at_word last ∷ [],
            refl,
            (c.next.new.words, c.next.ensures, (w.number.new.words, next, (w.number-in-w.new.words, then, (c.ended.new.words, subst (λ s. NextWord s last c.ended.new.words) w.words-is ends, tt)))),
            wrote c.args.first.now c.next.result.now register value last _ _ _ _ c.requires.first (search rules) station.0 number.0 number_2.0 station.1 number.1 number_2.1
                (subst (λ k. OkIff c.ended.result (last ≡ []) (Some k)) w.call-is says),
          )
      | in-r+in_ok-number-in-r+in_ok-number-in-r-2 w ↦
          let (register, next, number) = w.in_ok-number-in-r.ensures in
          let (value, then, number_2) = w.in_ok-number-in-r-2.ensures in (
            at_word c.next.result.now ∷ at_word register ∷ at_word value ∷ at_word last ∷ [],
            refl,
            (c.next.new.words, c.next.ensures, (w.number-in-r.new.words, next, (w.number-in-r-2.new.words, then, (c.ended.new.words, subst (λ s. NextWord s last c.ended.new.words) w.words-is ends, tt)))),
            read c.args.first.now c.next.result.now register value last _ _ _ _ c.requires.first (search rules) station.0 number.0 number_2.0 station.1 number.1 number_2.1
                (subst (λ k. OkIff c.ended.result (last ≡ []) (Some k)) w.call-is says),
          )
    ]
