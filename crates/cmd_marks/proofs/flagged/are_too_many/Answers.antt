-- The numbers so far, each once, are as many as the messages so far.
use Rattle.std.proofs.Common.{◌∙◌, ℕ, ◌+◌, ◌<◌, List, length, take, take_all, sym, ap, subst, arith}
use Rattle.std.specs.Ordering.{nat_cmp}
use Rattle.zr_types.specs.Commands.{distinct}
use Rattle.zr_types.specs.Refusals.{max_flagged}
use Rattle.cmd_marks.proofs.FlagLemmas.{counted, few_in_all, numbers_of, numbers_of-more, too_many}
use Rattle.cmd_marks.proofs.flagged.are_too_many.Goals as goal

pub returns-then-messages-le-MAX_FLAGGED : goal.returns-then-messages-le-MAX_FLAGGED
returns-then-messages-le-MAX_FLAGGED c = sym (few_in_all max_flagged c.args.messages.now c.if-messages-le-MAX_FLAGGED.true)

pub loop-message-init : goal.loop-message-init
loop-message-init c = let empty = c.new-seen.ensures in (empty, omega (arith, ap length empty))

pub loop-message-preserved : goal.loop-message-preserved
loop-message-preserved c =
    let at = c.loop-message.message-index in (
      c.add_number.ensures.added c.if-not-add_number.false (numbers_of (take at c.args.messages.now)) c.loop-message.invariant.0
          ∙ ap (distinct nat_cmp) (sym (numbers_of-more c.args.messages.now at _ c.loop-message-test.true)),
      c.add_number.ensures.room,
    )

pub returns-then-not-add_number : goal.returns-then-not-add_number
returns-then-not-add_number c =
    let at = c.loop-message.message-index in
    let many = c.add_number.ensures.full c.if-not-add_number.true (numbers_of (take at c.args.messages.now)) c.loop-message.invariant.0 in
    sym (too_many max_flagged (at + 1) c.args.messages.now
    (subst (λ (numbers : List ℕ). max_flagged < length (distinct nat_cmp numbers)) (sym (numbers_of-more c.args.messages.now at _ c.loop-message-test.true)) many))

pub returns : goal.returns
returns c =
    let at = c.loop-message.message-index in
    let all = take_all at c.args.messages.now c.loop-message-test.false in
    sym (counted max_flagged c.args.messages.now c.loop-message.seen.items
    (c.loop-message.invariant.0 ∙ ap (λ ms. distinct nat_cmp (numbers_of ms)) all) c.loop-message.invariant.1)
