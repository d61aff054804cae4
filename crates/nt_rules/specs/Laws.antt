-- What a user hears of parts, and what changes in views, in few words.
use Rattle.std.specs.Prelude.{◌≡◌, if◌then◌else◌, List, [], ◌++◌, flat_map, map}
use Rattle.ev_base.specs.Orders.{message_cmp}
use Rattle.ev_base.specs.declared.ids.UserId.{UserId}
use Rattle.ev_base.specs.declared.ids.StreamId.{StreamId}
use Rattle.ev_base.specs.declared.ids.MessageId.{MessageId}
use Rattle.ev_rows.specs.Rows.{gained, keys_of, lost, one_of}
use Rattle.ev_types.specs.Audiences.{has_user}
use Rattle.ev_types.specs.Changes.{arrivals, changes_between, full_message, message_events, peer_events}
use Rattle.ev_types.specs.Sections.{Sections}
use Rattle.ev_types.specs.declared.event.Event.{Event}
use Rattle.ev_types.specs.declared.event.Event.TheVariants.{MessageGone, PeerAdd, PeerRemove}
use Rattle.ev_types.specs.declared.notice.Audience.{Audience}
use Rattle.ev_types.specs.declared.notice.Audience.TheVariants.{Only}
use Rattle.nt_rules.specs.Parts.{gained_peers, heard_of, lost_peers, readers, to, viewers}
use Rattle.zr_types.specs.Sound.{TablesSorted}
use Rattle.zr_types.specs.Tables.{Tables}
use Rattle.zr_types.specs.Visibility.{sees_stream}
use Rattle.zw_views.specs.Views.{has_message, peers, view_of}

-- the events of messages that come and go
abbrev pub come_and_go : Sections → Sections → List Event
come_and_go before after =
    arrivals (map (full_message after.reactions) (gained message_cmp before.messages after.messages))
    ++ one_of MessageGone (keys_of (lost message_cmp before.messages after.messages))

-- where messages, receipts and reactions stay, a user's messages only come and go
abbrev pub MessagesComeAndGo : Type 0
MessagesComeAndGo =
    (before after : Tables) (user : UserId) → TablesSorted before → TablesSorted after
    → after.messages ≡ before.messages → after.receipts ≡ before.receipts → after.reactions ≡ before.reactions
    → message_events (view_of before user) (view_of after user) ≡ come_and_go (view_of before user) (view_of after user)

-- where the realm, the users, the streams and the subscriptions stay, nothing changes but messages
abbrev pub MessagesAloneChange : Type 0
MessagesAloneChange =
    (before after : Tables) (user : UserId) → TablesSorted before
    → after.realm ≡ before.realm → after.users ≡ before.users → after.streams ≡ before.streams → after.subscriptions ≡ before.subscriptions
    → changes_between (view_of before user) (view_of after user) ≡ message_events (view_of before user) (view_of after user)

-- a user is told of subscribers stream by stream: those who are gained, and then those who are lost
abbrev pub PeersChangeByStream : Type 0
PeersChangeByStream =
    (before after : Tables) (user : UserId) → TablesSorted before → TablesSorted after
    → peer_events (view_of before user) (view_of after user)
    ≡ flat_map (λ row. one_of (PeerAdd row.0)
    (keys_of (gained_peers (sees_stream before user row.0) (sees_stream after user row.0) (peers before row.0) (peers after row.0)))) after.streams
    ++ flat_map (λ row. one_of (PeerRemove row.0)
    (keys_of (lost_peers (sees_stream before user row.0) (sees_stream after user row.0) (peers before row.0) (peers after row.0)))) after.streams

-- of parts with one audience a user hears all or nothing
abbrev pub PartsAreHeard : Type 0
PartsAreHeard = (user : UserId) (audience : Audience) (events : List Event) → heard_of user (to audience events) ≡ (if has_user user audience then events else [])

-- the viewers of a stream are those who see it
abbrev pub ViewersSee : Type 0
ViewersSee = (tables : Tables) (user : UserId) (stream : StreamId) → TablesSorted tables
    → has_user user (Only (keys_of (viewers tables stream))) ≡ sees_stream tables user stream

-- the readers of a message are those who have it
abbrev pub ReadersHave : Type 0
ReadersHave = (tables : Tables) (user : UserId) (message : MessageId)
    → has_user user (Only (keys_of (readers tables message))) ≡ has_message tables user message
