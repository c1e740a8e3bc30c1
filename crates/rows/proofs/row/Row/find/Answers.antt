use Rattle.std.proofs.Common.{◌≡◌, ℕ, ◌+◌, ◌*◌, true, false, subst, ◌∙◌, inl, inr, arith, rules}
use Rattle.rows.specs.Members.{member}
use Rattle.rows.proofs.Rows.{has_at, has_below, in_word}
use Rattle.rows.proofs.row.Row.find.Goals as goal

pub passes-requires : goal.passes-requires
passes-requires g c =
    let n = c.in-Some.ensures.steps in
    let m : member c.args.self (64 * c.loop-i.i + c.in-Some.b) ≡ true = has_at c.args.self.words c.loop-i.i c.in-Some.b n.low ∙ c.loop-b.invariant.0 c.in-Some.b n.next.smallest.1 in
    search (rules, m)

pub returns-then-passes : goal.returns-then-passes
returns-then-passes g c =
    let n = c.in-Some.ensures.steps in
    let m : member c.args.self (64 * c.loop-i.i + c.in-Some.b) ≡ true = has_at c.args.self.words c.loop-i.i c.in-Some.b n.low ∙ c.loop-b.invariant.0 c.in-Some.b n.next.smallest.1 in (
      m,
      search rules,
      λ k h p. let low = n.low in elim (in_word c.args.self.words c.loop-i.i k true (omega arith) p) [
        | inl l ↦ c.loop-i.invariant k l p
        | inr (b, l, e, s) ↦ subst (λ (x : ℕ). goal.F-post g c.args.passes x false) e (c.loop-b.invariant.1 b l s (n.next.smallest.2 b (omega arith)))
      ],
    )

pub loop-i-preserved : goal.loop-i-preserved
loop-i-preserved g c = λ k h p. elim (in_word c.args.self.words c.loop-i.i k true h p) [
  | inl l ↦ c.loop-i.invariant k l p
  | inr (b, l, e, s) ↦ subst (λ (x : ℕ). goal.F-post g c.args.passes x false) e (c.loop-b.invariant.1 b l s (c.in-None.ensures.steps.next.smallest b))
]

pub returns : goal.returns
returns g c = λ k p. let low = has_below c.args.self.words k (search rules) p in c.loop-i.invariant k (let t = c.loop-i-test.false in omega arith) p
