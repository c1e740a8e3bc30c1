use Rattle.std.proofs.Common.{arith}
use Rattle.words.proofs.Spelling.{operation_spelled}
use Rattle.words.proofs.saving.operation_word.Goals as goal

pub returns : goal.returns
returns c =
    let x = c.args.operation in
    rw (c.blank.ensures, c.from.ensures, c.from-2.ensures, c.from-3.ensures) (operation_spelled x.kind x.station x.register x.value (omega arith) (omega arith) c.requires.value)
