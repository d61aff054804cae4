use Rattle.std.proofs.Common.{◌≡◌, map, take}
use Rattle.cmd_rules.specs.Given.{text_of}
use Rattle.cmd_rules.proofs.texts.read_texts.Given as goal

abbrev pub invariant-loop-given : goal.invariant-loop-given
invariant-loop-given l = l.read.items ≡ map text_of (take l.given-index l.texts)
