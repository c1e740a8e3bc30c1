use Rattle.std.proofs.Common.{◌≡◌, ℕ, Bool, ◌+◌, ◌*◌, true, false, not, ◌&&◌, eqb, subst, sym, refl, ◌∙◌, inl, inr, arith, rules}
use Rattle.std.proofs.lemmas.Bool.{cases_eq, ne_eqb, and_parts, or_cases, or_left, or_right}
use Rattle.rows.specs.declared.row.Row.{Row}
use Rattle.rows.specs.Members.{bit, member}
use Rattle.rows.proofs.Rows.{has_at, has_below, in_word}
use Rattle.rows.proofs.row.Row.gather.Goals as goal

pub row-requires : goal.row-requires
row-requires g c =
    let n = c.in-Some.ensures.steps in
    let m : member c.args.self (64 * c.loop-i.i + c.in-Some.b) ≡ true = has_at c.args.self.words c.loop-i.i c.in-Some.b n.low ∙ c.loop-b.invariant.0 c.in-Some.b n.next.smallest.1 in
    search (rules, m)

pub loop-b-preserved : goal.loop-b-preserved
loop-b-preserved g c =
    let n = c.in-Some.ensures.steps in
    let q = c.loop-i.i in
    let m : member c.args.self (64 * q + c.in-Some.b) ≡ true = has_at c.args.self.words q c.in-Some.b n.low ∙ c.loop-b.invariant.0 c.in-Some.b n.next.smallest.1 in
    let u = c.union-all.ensures in
    let old = λ (b : ℕ) (p : member c.loop-b.all b ≡ true). u b ∙ or_left (member c.loop-b.all b) (member c.row.result b) p in
    let new = λ (b : ℕ) (p : member c.row.result b ≡ true). u b ∙ or_right (member c.loop-b.all b) (member c.row.result b) p in (
      λ b p. c.loop-b.invariant.0 b (and_parts (bit c.loop-b.b-iterator.left b) (not (eqb b c.in-Some.b)) (sym (n.next.rest b) ∙ p)).0,
      λ b p. elim (or_cases (member c.loop-b.all b) (member c.row.result b) (sym (u b) ∙ p)) [
        | inl l ↦ c.loop-b.invariant.1 b l
        | inr r ↦ (64 * q + c.in-Some.b, c.row.result, m, c.row.ensures, r)
      ],
      λ k l p. let a = c.loop-b.invariant.2 k l p in (a.0, a.1, λ b s. old b (a.2 b s)),
      λ i l p gone. elim (cases_eq i c.in-Some.b) [
        | inl e ↦ subst (λ (x : ℕ). (answer : Row) × goal.F-post g c.args.row (64 * q + x) answer × ((b : ℕ) → member answer b ≡ true → member c.union-all.result b ≡ true)) (sym e)
            (c.row.result, c.row.ensures, new)
        | inr ne ↦ let a = c.loop-b.invariant.3 i l p (was_gone (bit c.loop-b.b-iterator.left i) (eqb i c.in-Some.b) (ne_eqb i c.in-Some.b ne) (sym (n.next.rest i) ∙ gone)) in
            (a.0, a.1, λ b s. old b (a.2 b s))
      ],
      tt,
      tt,
    )
  where
    was_gone : (x y : Bool) → y ≡ false → (x && not y) ≡ false → x ≡ false
    was_gone true true e h = e
    was_gone true false e h = h
    was_gone false y e h = refl

pub loop-i-preserved : goal.loop-i-preserved
loop-i-preserved g c = (
  c.loop-b.invariant.1,
  λ k h p. elim (in_word c.args.self.words c.loop-i.i k true h p) [
    | inl l ↦ c.loop-b.invariant.2 k l p
    | inr (b, l, e, s) ↦ subst (λ (x : ℕ). (answer : Row) × goal.F-post g c.args.row x answer × ((b : ℕ) → member answer b ≡ true → member c.loop-b.all b ≡ true)) e
        (c.loop-b.invariant.3 b l s (c.in-None.ensures.steps.next.smallest b))
  ],
)

pub returns : goal.returns
returns g c = record {
  sound = c.loop-i.invariant.0;
  whole = λ k p. let low = has_below c.args.self.words k (search rules) p in c.loop-i.invariant.1 k (let t = c.loop-i-test.false in omega arith) p;
}
