use Rattle.std.proofs.Common.{rules}
use Rattle.ev_types.specs.declared.event.Event.TheVariants.{PeerAdd, PeerRemove}
use Rattle.ev_laws.proofs.Loops.{joined_last}
use Rattle.ev_laws.proofs.changing.peers.push_peers.Goals as goal

pub returns : goal.returns
returns c =
    let added = c.in_ok-push_gained_peers.ensures PeerAdd (λ peers made called. search rules) in
    let removed = c.push_gained_peers-2.ensures PeerRemove (λ peers made called. search rules) in
    joined_last _ _ _ _ _ added _ removed
