use Rattle.std.proofs.Common.{rules, ◌∷◌, ap, suc, subst, sym, inl, inr}
use Rattle.std.specs.Str.{IsUtf8}
use Rattle.console.proofs.Says.{at_word, nothing}
use Rattle.console.proofs.Words.{more_words, left_utf8}
use Rattle.console.proofs.line.parse.Goals as goal

pub start-requires : goal.start-requires
start-requires c = left_utf8 _ _ _ c.next.ensures (subst IsUtf8 (sym c.split_whitespace-words.ensures.rest) c.utf8.text)

pub operation-requires-clause-utf8 : goal.operation-requires-clause-utf8
operation-requires-clause-utf8 c = left_utf8 _ _ _ c.next.ensures (subst IsUtf8 (sym c.split_whitespace-words.ensures.rest) c.utf8.text)

pub returns-in-empty : goal.returns-in-empty
returns-in-empty c =
    let (words, long, more) = more_words 4 c.next.new.words (left_utf8 _ _ _ c.next.ensures (subst IsUtf8 (sym c.split_whitespace-words.ensures.rest) c.utf8.text)) in
    (c.split_whitespace-words.result, c.split_whitespace-words.ensures.rest, at_word c.next.result.now ∷ words, ap suc long, (c.next.new.words, c.next.ensures, more), nothing _ (inl (search rules)))

pub returns-in_default : goal.returns-in_default
returns-in_default c =
    let (words, long, more) = more_words 4 c.next.new.words (left_utf8 _ _ _ c.next.ensures (subst IsUtf8 (sym c.split_whitespace-words.ensures.rest) c.utf8.text)) in
    (c.split_whitespace-words.result, c.split_whitespace-words.ensures.rest, at_word c.next.result.now ∷ words, ap suc long, (c.next.new.words, c.next.ensures, more), nothing _ (inr (search rules)))
