use Rattle.words.proofs.Runs.{settles_more}
use Rattle.words.proofs.calls.tell.Goals as goal

pub returns-clause-settles : goal.returns-clause-settles
returns-clause-settles c calls settled = settles_more calls c.args.call _ c.hand_on.result _ settled c.hand_on.ensures
