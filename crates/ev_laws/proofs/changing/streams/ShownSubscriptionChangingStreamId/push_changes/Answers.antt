use Rattle.std.proofs.Common.{rules}
use Rattle.ev_types.specs.declared.event.SubscriptionField.TheVariants as subscription_field
use Rattle.ev_types.specs.declared.event.Event.TheVariants.{SubChange}
use Rattle.ev_laws.proofs.Loops.{joined, joined_last}
use Rattle.ev_laws.proofs.changing.streams.ShownSubscriptionChangingStreamId.push_changes.Goals as goal

pub returns : goal.returns
returns c =
    let stream = c.args.stream in
    let old = c.args.before.now in
    let new = c.args.after.now in
    let color = c.in_ok-push_change.ensures (λ value. SubChange stream (subscription_field.Color value)) (λ value made called. search rules) in
    let muted = c.in_ok-push_change-2.ensures (λ value. SubChange stream (subscription_field.IsMuted value)) (λ value made called. search rules) in
    let pinned = c.push_change-3.ensures (λ value. SubChange stream (subscription_field.PinToTop value)) (λ value made called. search rules) in
    joined_last _ _ _ _ _ (joined _ _ _ _ _ color muted) _ pinned
