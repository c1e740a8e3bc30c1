use Rattle.std.proofs.Common.{◌≡◌, ◌-◌, ◌<◌, length, sym, ◌∙◌, true≢false, arith, rules}
use Rattle.rows.specs.Counts.{size}
use Rattle.rows.specs.Members.{member}
use Rattle.rows.proofs.Rows.{has_below}
use Rattle.rows.proofs.Sizes.{size_le}
use Rattle.relation.proofs.Reaching.{reached_none, reached_more, reached_grows, reached_all}
use Rattle.relation.proofs.reach.reach.Goals as goal

pub reaching-init : goal.reaching-init
reaching-init g c = reached_none (g.R.Relation.holds c.args.relation.now) c.args.a (member c.empty-reached.result) (member c.row-new.result) c.empty-reached.ensures c.row-new.ensures

pub reaching-smaller : goal.reaching-smaller
reaching-smaller g c =
    let Q = member c.union-reached.result in
    let four : length c.union-reached.result.words ≡ 4 = search rules in
    let more = reached_grows (g.R.Relation.holds c.args.relation.now) c.args.a (member c.reaching.reached) (member c.reaching.new) Q (member c.image.result) (member c.difference-new.result)
    c.reaching.invariant c.union-reached.ensures c.image.ensures c.difference-new.ensures (λ k h. has_below c.union-reached.result.words k four h) (λ e. true≢false (sym (c.is_empty.ensures.1 e) ∙ search rules)) in
    let low = size_le Q 256 in
    let l : 256 - size Q 256 < 256 - size (member c.reaching.reached) 256 = omega arith in
    l

pub reaching-preserved : goal.reaching-preserved
reaching-preserved g c =
    reached_more (g.R.Relation.holds c.args.relation.now) c.args.a (member c.reaching.reached) (member c.reaching.new) (member c.union-reached.result) (member c.image.result) (member c.difference-new.result)
    c.reaching.invariant c.union-reached.ensures c.image.ensures c.difference-new.ensures

pub returns : goal.returns
returns g c =
    reached_all (g.R.Relation.holds c.args.relation.now) c.args.a (member c.reaching.reached) (member c.reaching.new) c.reaching.invariant (c.is_empty.ensures.0 (search rules))
