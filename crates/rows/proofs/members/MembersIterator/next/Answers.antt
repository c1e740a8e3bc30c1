use Rattle.std.proofs.Common.{rules}
use Rattle.rows.specs.Members.{member}
use Rattle.rows.proofs.Sizes.{next_smaller}
use Rattle.rows.proofs.members.MembersIterator.next.Goals as goal

-- the set that is left is smaller by one
pub returns-clause-goes : goal.returns-clause-goes
returns-clause-goes c =
    let s = next_smaller (member c.args.self.now.left) (member c.take_first.new.self) c.take_first.result c.take_first.ensures in
    search (rules, s)
