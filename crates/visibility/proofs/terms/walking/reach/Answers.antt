use Rattle.rows.specs.Members.{member}
use Rattle.visibility.specs.Sights.{shapes_in, seen_in}
use Rattle.visibility.proofs.Walks.{reached_more}
use Rattle.visibility.proofs.terms.walking.reach.Goals as goal

pub loop-letter-preserved : goal.loop-letter-preserved
loop-letter-preserved c =
    reached_more (shapes_in c.args.sight) (seen_in c.args.sight) c.args.letters.now c.loop-letter.letter-index _ c.args.a
    (member c.loop-letter.reached) (member c.step-reached.result) c.loop-letter-test.true c.loop-letter.invariant c.step-reached.ensures
