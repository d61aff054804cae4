-- The changes between two views, group by group.
use Rattle.std.proofs.Common.{◌≡◌, List, ◌++◌}
use Rattle.ev_types.specs.declared.event.Event.{Event}
use Rattle.ev_types.specs.Changes.{changes_between, message_events, peer_events, realm_changes, stream_events, subscription_events, user_events}
use Rattle.ev_types.specs.Sections.{Sections}

-- what each of the six groups is, all changes are in turn
pub six : (before after : Sections)
    {realm users streams subscriptions peers messages : List Event}
    → realm_changes before.realm after.realm ≡ realm
    → user_events before.realm_users after.realm_users ≡ users
    → stream_events before.streams after.streams ≡ streams
    → subscription_events before.subscriptions after.subscriptions ≡ subscriptions
    → peer_events before after ≡ peers
    → message_events before after ≡ messages
    → changes_between before after ≡ realm ++ users ++ streams ++ subscriptions ++ peers ++ messages
six before after a b c d e f = λ i. a i ++ b i ++ c i ++ d i ++ e i ++ f i
