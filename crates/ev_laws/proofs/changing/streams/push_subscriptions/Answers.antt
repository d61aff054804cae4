use Rattle.std.proofs.Common.{◌∙◌, ◌++◌, ap, rules}
use Rattle.std.proofs.lemmas.Result.{IfOk-equal}
use Rattle.ev_rows.specs.Rows.{one_of}
use Rattle.ev_types.specs.declared.event.Event.TheVariants.{SubAdd, SubRemove}
use Rattle.ev_laws.proofs.Loops.{joined, joined_last}
use Rattle.ev_laws.proofs.changing.streams.push_subscriptions.Goals as goal

pub returns : goal.returns
returns c =
    let first = c.in_ok-push_one_of.ensures SubAdd (λ list made called. search rules) in
    let gained_first = first ∙ ap (λ rows. c.args.events.now.items ++ one_of SubAdd rows) c.in_ok-added.ensures in
    let last = c.push_one_of-2.ensures SubRemove (λ list made called. search rules) in
    let lost_last = IfOk-equal _ _ _ _ last (ap (λ keys. c.push_kept.new.events.items ++ one_of SubRemove keys) c.in_ok-removed.ensures) in
    joined_last _ _ _ _ _ (joined _ _ _ _ _ gained_first c.in_ok-push_kept.ensures) _ lost_last
