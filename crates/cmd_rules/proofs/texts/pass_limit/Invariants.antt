use Rattle.std.proofs.Common.{◌≡◌, ◌+◌, take}
use Rattle.zr_types.specs.Refusals.{max_text_bytes}
use Rattle.cmd_rules.specs.Given.{bytes_in}
use Rattle.cmd_rules.proofs.texts.pass_limit.Given as goal

abbrev pub invariant-loop-given : goal.invariant-loop-given
invariant-loop-given l = l.room + (l.present + bytes_in (take l.given-index l.texts)) ≡ max_text_bytes
