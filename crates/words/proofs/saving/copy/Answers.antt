use Rattle.std.proofs.Common.{refl}
use Rattle.words.proofs.RoundTrip.{recording_loads_back, copied}
use Rattle.words.proofs.saving.copy.Goals as goal

pub returns-in_err-count-clause-loads_back : goal.returns-in_err-count-clause-loads_back
returns-in_err-count-clause-loads_back c = recording_loads_back c.args.recording.now

pub unwrap-requires : goal.unwrap-requires
unwrap-requires c = rw (copied c.args.recording.now c.in_ok-count.count _ _ _ _ _ c.in_ok-count.ensures c.load.ensures).0 refl

pub returns-clause-equal : goal.returns-clause-equal
returns-clause-equal c = (copied c.args.recording.now c.in_ok-count.count _ _ _ _ _ c.in_ok-count.ensures c.load.ensures).1

pub returns-clause-loads_back : goal.returns-clause-loads_back
returns-clause-loads_back c = recording_loads_back c.args.recording.now
