use Rattle.std.proofs.Common.{length}
use Rattle.zs_words.specs.TextParts.{BeginsWith}
use Rattle.zs_words.proofs.texts.decoded_bytes.Given as goal

abbrev pub invariant-loop-byte : goal.invariant-loop-byte
invariant-loop-byte l = BeginsWith l.fn.word l.bytes.items l.rest

abbrev pub decreases-loop-byte : goal.decreases-loop-byte
decreases-loop-byte l = length l.rest
