use Rattle.std.proofs.Common.{◌↔◌, length}
use Rattle.zs_words.specs.Texts.{DecodesToUtf8}
use Rattle.zs_words.proofs.texts.decodes_to_utf8.Given as goal

abbrev pub invariant-loop-rest : goal.invariant-loop-rest
invariant-loop-rest l = DecodesToUtf8 l.fn.word ↔ DecodesToUtf8 l.rest

abbrev pub decreases-loop-rest : goal.decreases-loop-rest
decreases-loop-rest l = length l.rest
