use Rattle.std.proofs.Common.{◌≡◌, ◌-◌, ℕ, ◌<◌, false, length, get_or, reverse, take, ◌+◌, sym, ap, ◌∙◌, subst, arith, rules}
use Rattle.rows.specs.Members.{member}
use Rattle.rows.proofs.Rows.{has_below}
use Rattle.rows.proofs.Sizes.{size_with, size_none}
use Rattle.std.proofs.lemmas.List.{length-reverse}
use Rattle.relation.specs.Orders.{Ring}
use Rattle.relation.proofs.Loops.{Walked, space, walked_none, walked_more, met_back, walked_ring, turned}
use Rattle.relation.proofs.walk.walk.Goals as goal

pub walking-init : goal.walking-init
walking-init g c =
    let none = c.new-path.ensures in (
      subst (λ xs. Walked (g.R.Relation.holds c.args.relation.now) (member c.args.left) (member c.empty-seen.result) xs c.args.start) (sym none)
          (walked_none (g.R.Relation.holds c.args.relation.now) (member c.args.left) (member c.empty-seen.result) c.args.start c.empty-seen.ensures c.requires.inside),
      size_none (member c.empty-seen.result) 256 c.empty-seen.ensures ∙ sym (ap length none),
      has_below c.args.left.words c.args.start (search rules) c.requires.inside,
    )

pub push-requires : goal.push-requires
push-requires g c =
    let room = space (member c.walking.seen) c.walking.number c.walking.invariant.2 (sym c.contains.ensures ∙ search rules) in
    let low : length c.walking.path.items < 256 = omega (arith, c.walking.invariant.1) in
    search rules

pub walking-smaller : goal.walking-smaller
walking-smaller g c =
    let room = space (member c.walking.seen) c.walking.number c.walking.invariant.2 (sym c.contains.ensures ∙ search rules) in
    let l : 256 - length c.push.new.self.items < 256 - length c.walking.path.items = omega (arith, c.walking.invariant.1, c.push.ensures.len) in
    l

pub walking-preserved : goal.walking-preserved
walking-preserved g c =
    let P = member c.walking.seen in
    let Q = member c.with-seen.result in
    let b = c.walking.number in
    let fresh : P b ≡ false = sym c.contains.ensures ∙ search rules in
    let with' = c.with-seen.ensures.inside c.walking.invariant.2 in
    let next = c.predecessor-number.ensures in
    let one = size_with P Q b 256 c.walking.invariant.2 fresh with' in (
      subst (λ xs. Walked (g.R.Relation.holds c.args.relation.now) (member c.args.left) Q xs c.predecessor-number.result) (sym c.push.ensures.items)
          (walked_more (g.R.Relation.holds c.args.relation.now) (member c.args.left) P Q c.walking.path.items b c.predecessor-number.result c.walking.invariant.0 fresh with' next.inside next.before),
      omega (arith, c.walking.invariant.1, c.push.ensures.len),
      has_below c.args.left.words c.predecessor-number.result (search rules) next.inside,
    )

pub place-end-requires : goal.place-end-requires
place-end-requires g c =
    let back = c.deref.ensures.0 ∙ turned c.walking.path c.reverse.new.self (c.reverse.ensures.after ∙ ap reverse c.deref_mut.ensures.value) in
    subst (λ xs. (i : ℕ) × (i < length xs) × (get_or xs i 0 ≡ c.walking.number)) (sym back)
    (met_back (g.R.Relation.holds c.args.relation.now) (member c.args.left) (member c.walking.seen) c.walking.path.items c.walking.number c.walking.invariant.0 (sym c.contains.ensures ∙ search rules))

pub returns : goal.returns
returns g c =
    let R = g.R.Relation.holds c.args.relation.now in
    let M = member c.args.left in
    let turn = turned c.walking.path c.reverse.new.self (c.reverse.ensures.after ∙ ap reverse c.deref_mut.ensures.value) in
    let p = subst (λ xs. (c.place-end.result < length xs) × (get_or xs c.place-end.result 0 ≡ c.walking.number)) (c.deref.ensures.0 ∙ turn) c.place-end.ensures in
    let ring = walked_ring R M (member c.walking.seen) c.walking.path.items c.walking.number c.place-end.result c.walking.invariant.0 (omega (arith, p.0, length-reverse c.walking.path.items)) p.1 in
    subst (λ xs. Ring R M xs 0 (length xs)) (sym (c.truncate.ensures.items ∙ ap (take (c.place-end.result + 1)) turn)) ring
