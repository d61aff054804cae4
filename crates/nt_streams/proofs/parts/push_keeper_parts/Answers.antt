use Rattle.std.proofs.Common.{◌∙◌, ◌++◌, ap, ap₂}
use Rattle.std.proofs.lemmas.Result.{IfOk-equal}
use Rattle.ev_laws.proofs.Loops.{joined, joined_last}
use Rattle.nt_streams.specs.Sights.{peer_change_part}
use Rattle.nt_streams.specs.StreamParts.{told}
use Rattle.nt_streams.proofs.parts.push_keeper_parts.Goals as goal

pub returns : goal.returns
returns c =
    let users_are = c.in_ok-users.ensures in
    let first = c.in_ok-push_told.ensures
    ∙ ap₂ (λ users events. c.args.parts.now.items ++ told users events) (c.deref.ensures.value ∙ users_are) c.in_ok-changed.ensures in
    let peers = IfOk-equal _ _ _ _ c.push_peer_change.ensures
    (ap (λ users. c.push_own_change.new.parts.items ++ peer_change_part c.args.realm.now.state.tables c.args.turn.now users) (c.deref-2.ensures.value ∙ users_are)) in
    joined_last _ _ _ _ _ (joined _ _ _ _ _ first c.in_ok-push_own_change.ensures) _ peers
