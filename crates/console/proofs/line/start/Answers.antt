use Rattle.std.proofs.Common.{◌∷◌, ap, suc}
use Rattle.console.proofs.Says.{at_word, failing, unreadable_stations, started}
use Rattle.console.proofs.Words.{more_words, left_utf8}
use Rattle.console.proofs.line.start.Goals as goal

pub returns-in_err-stations : goal.returns-in_err-stations
returns-in_err-stations c =
    let (stations, next, bad) = c.in_err-stations.ensures in
    let (words, long, more) = more_words 3 c.number.new.words (left_utf8 _ _ stations next c.requires) in
    (at_word stations ∷ words, ap suc long, (c.number.new.words, next, more), failing _ c.from_residual.result c.from_residual.ensures.0 (λ e. unreadable_stations stations words e bad))

pub returns : goal.returns
returns c =
    let (stations, next, number) = c.in_ok-stations.ensures in
    let (last, ends, says) = c.ended.ensures in
    let (words, long, more) = more_words 2 c.ended.new.words (left_utf8 _ _ last ends (left_utf8 _ _ stations next c.requires)) in
    (at_word stations ∷ at_word last ∷ words, ap (λ n. suc (suc n)) long, (c.number.new.words, next, (c.ended.new.words, ends, more)), started stations last words _ _ number.0 number.1 says)
