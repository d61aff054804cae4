use Rattle.ev_laws.proofs.Loops.{joined, joined_last}
use Rattle.ev_laws.proofs.changing.push_people_and_streams.Goals as goal

pub returns : goal.returns
returns c =
    let users = joined _ _ _ _ _ c.in_ok-push_realm.ensures c.in_ok-push_users.ensures in
    let streams = joined _ _ _ _ _ users c.in_ok-push_streams.ensures in
    let subscriptions = joined _ _ _ _ _ streams c.in_ok-push_subscriptions.ensures in
    joined_last _ _ _ _ _ subscriptions _ c.push_peers.ensures
