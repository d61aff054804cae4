-- The numbers with which the program ends.
use Rattle.std.specs.Prelude.{ℕ}
use Rattle.zm_run.specs.declared.status.Status.{Status}
use Rattle.zm_run.specs.declared.status.Status.TheVariants.{Done, BadLine, Usage, ReadFault, WriteFault, NoMemory, InputTooLong}

abbrev pub number_of : Status → ℕ
number_of Done = 0
number_of (BadLine line) = 1
number_of Usage = 2
number_of ReadFault = 3
number_of WriteFault = 4
number_of NoMemory = 5
number_of InputTooLong = 6
