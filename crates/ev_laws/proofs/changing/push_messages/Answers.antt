use Rattle.std.proofs.Common.{◌≡◌, ◌∙◌, ◌++◌, ap, map, rules}
use Rattle.std.proofs.lemmas.Result.{IfOk-equal}
use Rattle.ev_rows.specs.Rows.{kept, one_of}
use Rattle.ev_base.specs.Orders.{message_cmp}
use Rattle.ev_types.specs.declared.event.Event.TheVariants.{MessageGone}
use Rattle.ev_types.specs.Changes.{flag_events, move_events}
use Rattle.ev_laws.specs.Kept.{kept_row}
use Rattle.ev_laws.proofs.Loops.{joined, joined_last}
use Rattle.ev_laws.proofs.changing.push_messages.Goals as goal

pub returns : goal.returns
returns c =
    let before = c.args.before.now.messages.now.rows in
    let after = c.args.after.now.messages.now.rows in
    let rows : map kept_row c.deref.result.now ≡ kept message_cmp before after = ap (map kept_row) c.deref.ensures.value ∙ c.in_ok-kept.ensures in
    let other_rows : map kept_row c.deref-2.result.now ≡ kept message_cmp before after = ap (map kept_row) c.deref-2.ensures.value ∙ c.in_ok-kept.ensures in
    let moves = joined _ _ _ _ _ c.in_ok-push_arrivals.ensures (c.in_ok-push_moves.ensures ∙ ap (λ l. c.push_arrivals.new.events.items ++ move_events l) rows) in
    let edits = joined _ _ _ _ _ moves c.in_ok-push_kept.ensures in
    let flags = joined _ _ _ _ _ edits (c.in_ok-push_flags.ensures ∙ ap (λ l. c.push_kept.new.events.items ++ flag_events l) other_rows) in
    let reactions = joined _ _ _ _ _ flags c.in_ok-push_reactions.ensures in
    let gone = c.push_one_of.ensures MessageGone (λ list made called. search rules) in
    joined_last _ _ _ _ _ reactions _ (IfOk-equal _ _ _ _ gone (ap (λ keys. c.push_reactions.new.events.items ++ one_of MessageGone keys) c.in_ok-gone.ensures))
