-- What is told of a run that doesn't end well.
use Rattle.std.specs.Prelude.{ℕ, List, [], ◌++◌, codes, decimal}
use Rattle.zm_run.specs.declared.status.Status.{Status}
use Rattle.zm_run.specs.declared.status.Status.TheVariants.{Done, BadLine, Usage, ReadFault, WriteFault, NoMemory, InputTooLong}

-- the line, without its line feed, and nothing where all went well
abbrev pub message_of : Status → List ℕ
message_of Done = []
message_of (BadLine line) = codes "line " ++ decimal line ++ codes ": not understood"
message_of Usage = codes "usage: zulip_main replay"
message_of ReadFault = codes "read fault"
message_of WriteFault = codes "write fault"
message_of NoMemory = codes "out of memory"
message_of InputTooLong = codes "input too long"
