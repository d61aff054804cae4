use Rattle.std.proofs.Common.{rules}
use Rattle.ev_types.specs.declared.event.StreamField.TheVariants as stream_field
use Rattle.ev_types.specs.declared.event.Event.TheVariants.{StreamChange}
use Rattle.ev_laws.proofs.Loops.{joined, joined_last}
use Rattle.ev_laws.proofs.changing.streams.ShownStreamChangingStreamId.push_changes.Goals as goal

pub returns : goal.returns
returns c =
    let stream = c.args.stream in
    let old = c.args.before.now in
    let new = c.args.after.now in
    let name = c.in_ok-push_change.ensures (λ value. StreamChange stream (stream_field.Name value)) (λ value made called. search rules) in
    let text = c.in_ok-push_change-2.ensures (λ value. StreamChange stream (stream_field.Description value)) (λ value made called. search rules) in
    let invite = c.in_ok-push_change-3.ensures (λ value. StreamChange stream (stream_field.InviteOnly value)) (λ value made called. search rules) in
    let history = c.push_change-4.ensures (λ value. StreamChange stream (stream_field.HistoryPublicToSubscribers value)) (λ value made called. search rules) in
    joined_last _ _ _ _ _ (joined _ _ _ _ _ (joined _ _ _ _ _ name text) invite) _ history
