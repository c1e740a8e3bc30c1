use Rattle.std.proofs.Common.{◌≡◌, ℕ, Bool, ◌+◌, ◌*◌, true, false, set, subst, sym, ◌∙◌, inl, inr, arith, rules}
use Rattle.std.proofs.lemmas.Bool.{cases_lt}
use Rattle.std.proofs.lemmas.List.{length-set}
use Rattle.rows.specs.Members.{has, member}
use Rattle.rows.proofs.Rows.{has_at, has_below, has_past, in_word, set_before, set_at}
use Rattle.rows.proofs.row.Row.filter.Goals as goal

pub filter_word-requires-clause-test : goal.filter_word-requires-clause-test
filter_word-requires-clause-test g c = λ b l p. let m : member c.args.self (64 * c.loop-i.i + b) ≡ true = has_at c.args.self.words c.loop-i.i b l ∙ p in search (rules, m)

pub loop-i-preserved : goal.loop-i-preserved
loop-i-preserved g c =
    let q = c.loop-i.i in
    let ws = c.loop-i.passed.words in
    let v = c.filter_word.result in
    let test = c.loop-i-test.true in
    let long = c.loop-i.invariant.0 in (
      length-set ws q v ∙ long,
      λ k h p. elim (in_word c.args.self.words q k true h p) [
        | inl l ↦ subst (λ (x : Bool). goal.F-post g c.args.passes k x) (sym (set_before ws q v k l)) (c.loop-i.invariant.1 k l p)
        | inr (b, l, e, s) ↦
            subst (λ (x : ℕ). goal.F-post g c.args.passes x (has (set ws q v) x)) e
            (subst (λ (x : Bool). goal.F-post g c.args.passes (64 * q + b) x) (sym (set_at ws q v b (omega arith) l)) (c.filter_word.ensures.passed b l s))
      ],
      λ k h p. elim (in_word c.args.self.words q k false h p) [
        | inl l ↦ set_before ws q v k l ∙ c.loop-i.invariant.2 k l p
        | inr (b, l, e, s) ↦ subst (λ (x : ℕ). has (set ws q v) x ≡ false) e (set_at ws q v b (omega arith) l ∙ c.filter_word.ensures.others b l s)
      ],
    )

pub returns-clause-passed : goal.returns-clause-passed
returns-clause-passed g c = λ k p. let low = has_below c.args.self.words k (search rules) p in c.loop-i.invariant.1 k (let t = c.loop-i-test.false in omega arith) p

pub returns-clause-others : goal.returns-clause-others
returns-clause-others g c = λ k p. elim (cases_lt k 256) [
  | inl l ↦ c.loop-i.invariant.2 k (let t = c.loop-i-test.false in omega arith) p
  | inr h ↦ has_past c.loop-i.passed.words 4 k c.loop-i.invariant.0 (omega arith)
]
