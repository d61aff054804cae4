use Rattle.std.proofs.Common.{◌∙◌, ◌++◌, ap, rules}
use Rattle.ev_rows.specs.Rows.{one_of}
use Rattle.ev_types.specs.declared.event.Event.TheVariants.{PeerAdd}
use Rattle.nt_streams.proofs.parts.found_peers.Goals as goal

pub returns : goal.returns
returns c =
    let told = c.in_ok-push_one_of.ensures (PeerAdd c.args.turn.now.stream) (λ users made called. search rules) in
    told
    ∙ ap (λ events. events ++ one_of (PeerAdd c.args.turn.now.stream) c.in_ok-users.users.items) c.new-events.ensures.items
    ∙ ap (one_of (PeerAdd c.args.turn.now.stream)) c.in_ok-users.ensures
