use Rattle.std.proofs.Common.{◌≡◌, ℕ, ◌<◌, Decides}
use Rattle.rows.specs.Members.{member}
use Rattle.visibility.specs.Few.{items_of}
use Rattle.visibility.specs.Sights.{shapes_in, seen_in}
use Rattle.visibility.specs.Terms.{term_of, Walk}
use Rattle.visibility.proofs.terms.walking.TermListRule.demanded.Given as goal

abbrev pub invariant-loop-term : goal.invariant-loop-term
invariant-loop-term l = record {
  terms : l.term-items ≡ items_of l.self.terms;
  joined : (b : ℕ) → Decides (member l.all b) ((k : ℕ) × (k < l.term-index) × Walk (shapes_in l.sight) (seen_in l.sight) (term_of l.self k) l.a b);
}
