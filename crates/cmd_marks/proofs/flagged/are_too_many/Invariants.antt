use Rattle.std.proofs.Common.{◌≡◌, ◌≤◌, length, take}
use Rattle.std.specs.Ordering.{nat_cmp}
use Rattle.zr_types.specs.Commands.{distinct}
use Rattle.zr_types.specs.Refusals.{max_flagged}
use Rattle.cmd_marks.proofs.FlagLemmas.{numbers_of}
use Rattle.cmd_marks.proofs.flagged.are_too_many.Given as goal

-- the numbers so far, each once
abbrev pub invariant-loop-message : goal.invariant-loop-message
invariant-loop-message l =
    (l.seen.items ≡ distinct nat_cmp (numbers_of (take l.message-index l.messages))) × (length l.seen.items ≤ max_flagged)
