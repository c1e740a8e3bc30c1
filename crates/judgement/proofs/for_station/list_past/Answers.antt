use Rattle.std.proofs.Common.{◌≡◌, not, ◌&&◌, ◌||◌, eqb, ltb, length, subst, rules}
use Rattle.relation.specs.Found.{Found}
use Rattle.rows.specs.Members.{member, related}
use Rattle.violations.specs.Views.{operations_of, seen_of}
use Rattle.judgement.proofs.Listing.{always_listed, listed_past}
use Rattle.judgement.proofs.Recordings.{valid_of, few_of}
use Rattle.judgement.proofs.for_station.list_past.Goals as goal

pub unwrap-requires : goal.unwrap-requires
unwrap-requires c =
    let v = c.args.here.view in
    let r = v.recording.now in
    always_listed (operations_of v) (valid_of r) (few_of r) (seen_of v) c.requires.least c.requires.session_explains c.args.here.last c.requires.last (related c.put_happened.new.table)
    (c.put_happened.ensures.happened (record { long = search rules; inside = c.requires.last.inside; within = c.requires.least.within })) (member c.reads.result) (member c.past.result) c.reads.ensures c.past.ensures
    c.args.evidence.now c.order_or_cycle.new.out (search rules) c.order_or_cycle.result c.order_or_cycle.ensures.found c.order_or_cycle.ensures.exactly

pub returns : goal.returns
returns c =
    let v = c.args.here.view in
    let r = v.recording.now in
    let H = related c.put_happened.new.table in
    let reads = member c.reads.result in
    let M = member c.past.result in
    let long : length c.order_or_cycle.new.out ≡ 256 = search rules in
    listed_past (operations_of v) (valid_of r) (few_of r) (seen_of v) c.requires.least c.requires.session_explains c.args.here.last c.requires.last H
    (c.put_happened.ensures.happened (record { long = search rules; inside = c.requires.last.inside; within = c.requires.least.within })) reads M c.reads.ensures c.past.ensures c.args.evidence.now
    c.order_or_cycle.new.out (search rules) long c.unwrap.result
    (subst (Found (λ a b. H a b || (reads a && (ltb b 256 && (not (eqb b a) && not (H b a))))) M c.args.evidence.now c.order_or_cycle.new.out) c.unwrap.ensures c.order_or_cycle.ensures.found)
