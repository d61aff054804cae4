use Rattle.std.proofs.Common.{length}
use Rattle.hw_auth.proofs.basic.+without_spaces.Given as goal

-- each call is left with fewer bytes
abbrev pub decreases-without_spaces : goal.decreases-without_spaces
decreases-without_spaces l = length l.bytes.now
