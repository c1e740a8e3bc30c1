use Rattle.std.proofs.Common.{rules, ◌≡◌, List, [], Decides, length, ap, sym, subst, arith}
use Rattle.std.proofs.lemmas.List.{get_or-map}
use Rattle.rows.specs.Members.{member}
use Rattle.visibility.specs.declared.terms.Letter.{Letter}
use Rattle.visibility.specs.Few.{items_of}
use Rattle.visibility.specs.Sights.{shapes_in, seen_in}
use Rattle.visibility.specs.Terms.{term_of, Walk}
use Rattle.visibility.proofs.Walks.{joined_more}
use Rattle.visibility.proofs.terms.walking.TermListRule.demanded.Goals as goal

pub loop-term-preserved : goal.loop-term-preserved
loop-term-preserved c =
    let t = c.args.self.now in
    let n = c.loop-term.term-index in
    let term = items_of c.term-item.result in
    let terms = c.loop-term.invariant.terms in
    let mapped = get_or-map items_of (items_of t.terms) n c.term-item.result [] (omega (arith, ap length terms)) in
    let here : term_of t n ≡ term = cc in
    record {
      terms = terms;
      joined = λ b.
          let joins : List Letter → Type 0 = λ ls. Walk (shapes_in c.args.sight) (seen_in c.args.sight) ls c.args.a b in
          let one : Decides (member c.reach.result b) (joins term) = search rules in
          joined_more (λ k. joins (term_of t k)) n (member c.loop-term.all b) (member c.reach.result b) (member c.union-all.result b)
          (c.loop-term.invariant.joined b) (subst (λ ls. Decides (member c.reach.result b) (joins ls)) (sym here) one) (c.union-all.ensures b);
    }
