-- The numbers of the grounds on which a reader refuses.
use Rattle.std.specs.Prelude.{ℕ}
use Rattle.words.specs.declared.fault.Fault.{Fault}
use Rattle.words.specs.declared.fault.Fault.TheVariants.{NotAnOpening, OutOfForm, NoteTooLong, WrongCount, Unclosed, AfterClosing}

abbrev pub number_of : Fault → ℕ
number_of NotAnOpening = 9
number_of OutOfForm = 10
number_of NoteTooLong = 11
number_of WrongCount = 12
number_of Unclosed = 13
number_of AfterClosing = 14
