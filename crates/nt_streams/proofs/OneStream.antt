-- What changes in a user's view where one stream's row, and one user's subscription to it, may change.
use Rattle.std.proofs.Common.{◌≡◌, Bool, true, false, not, ◌&&◌, ◌==◌, cond, List, [], ◌++◌, map, flat_map, Option, None, Some, is_some, option_map, option_and_then, sym, ap, refl, ◌∙◌, Ordering, Less, Equal, Greater}
use Rattle.std.specs.BTreeMap.{is_at}
use Rattle.std.specs.Option.{option_map_or}
use Rattle.std.specs.Ordering.{is_eq, ordering_then}
use Rattle.std.proofs.lemmas.Bool.{false≢true}
use Rattle.ev_rows.specs.Rows.{AgreeBut, SortedByKey, events_at, fresh, gained, keys_of, lost, made_of, one_of, only_if, row_at, sift}
use Rattle.ev_rows.proofs.RiseLemmas.{rise-sift}
use Rattle.ev_rows.proofs.RowLemmas.{AgreeBut-sift, at_same, flat_map_at, only_if-None, row_at-sift}
use Rattle.ev_rows.proofs.ChangeLemmas.{gained_same, keyed_at}
use Rattle.ev_rows.proofs.SiftLemmas.{gained_sifts}
use Rattle.ev_base.specs.Orders.{message_cmp, message_order, stream_cmp, stream_order, user_cmp, user_order, user_stream_cmp}
use Rattle.ev_base.specs.declared.ids.UserId.{UserId}
use Rattle.ev_base.specs.declared.ids.StreamId.{StreamId}
use Rattle.ev_base.specs.declared.ids.MessageId.{MessageId}
use Rattle.ev_base.specs.declared.place.Place.{Place}
use Rattle.ev_base.specs.declared.place.Place.TheVariants as place
use Rattle.ev_types.specs.Changes.{arrivals, full_message, message_events, peer_events, stream_changes, stream_events, subscription_changes, subscription_events}
use Rattle.ev_types.specs.declared.event.Event.{Event}
use Rattle.ev_types.specs.declared.event.Event.TheVariants.{MessageGone, PeerAdd, PeerRemove, StreamCreate, StreamDelete, SubAdd, SubRemove}
use Rattle.ev_types.specs.declared.rows.ShownMessage.{ShownMessage}
use Rattle.ev_types.specs.declared.rows.ShownStream.{ShownStream}
use Rattle.ev_types.specs.declared.rows.ShownSubscription.{ShownSubscription}
use Rattle.nt_rules.specs.Parts.{gained_peers, lost_peers}
use Rattle.nt_rules.proofs.FieldsStay.{stream_stays, subscription_stays}
use Rattle.nt_rules.proofs.Heard.{same_at}
use Rattle.nt_rules.proofs.PeerChanges.{peers_change}
use Rattle.nt_rules.proofs.Sight.{sift_same, sight_changes, whole_arrivals}
use Rattle.nt_streams.specs.StreamParts.{is_in, messages_in}
use Rattle.nt_streams.specs.Turned.{finds, loses, peers_after, saw, sees, subscription_after}
use Rattle.nt_streams.specs.declared.turn.Turn.{Turn}
use Rattle.nt_streams.proofs.OneRow.{OneRow}
use Rattle.nt_streams.proofs.Pieces.{and_false, and_true, never, seen_there, sift_none, turned}
use Rattle.zr_types.specs.declared.people.User.{User}
use Rattle.zr_types.specs.declared.posts.Message.{Message}
use Rattle.zr_types.specs.declared.posts.Receipt.{Receipt}
use Rattle.zr_types.specs.declared.streams.Stream.{Stream}
use Rattle.zr_types.specs.declared.streams.Subscription.{Subscription}
use Rattle.zr_types.specs.Sound.{TablesSorted}
use Rattle.zr_types.specs.Tables.{Tables, message_at, receipt_of, stream_at, subscription_of}
use Rattle.zr_types.specs.Visibility.{is_subscribed, role_of, sees_at, sees_by, sees_stream}
use Rattle.zw_views.specs.RowViews.{message_in, stream_in, subscription_in}
use Rattle.zw_views.specs.Views.{messages, peers, shown_message, shown_stream, shown_subscription, streams, subscriptions, view_of}

abbrev Users : Type 0
Users = List (UserId × Unit {0})

-- pairs differ where a part does
first_off : (a b : Ordering) → is_eq a ≡ false → is_eq (ordering_then a b) ≡ false
first_off Less b off = refl
first_off Equal b off = absurd (false≢true (sym off))
first_off Greater b off = refl

second_off : (a b : Ordering) → is_eq b ≡ false → is_eq (ordering_then a b) ≡ false
second_off Less b off = refl
second_off Equal b off = off
second_off Greater b off = refl

-- streams are the same where their numbers are
same_stream : (a b : StreamId) → (a.0 == b.0) ≡ is_at (stream_cmp b) a
same_stream a b = same_at (record { 0 = a.0 }) (record { 0 = b.0 })

-- subscribers who stay make no events
gained_quiet : (b : Bool) (rows : Users) → SortedByKey user_cmp rows → gained_peers b b rows rows ≡ []
gained_quiet true rows rise = gained_same user_order rows rise
gained_quiet false rows rise = refl

lost_quiet : (b : Bool) (rows : Users) → SortedByKey user_cmp rows → lost_peers b b rows rows ≡ []
lost_quiet true rows rise = gained_same user_order rows rise
lost_quiet false rows rise = refl

-- the cells of a stream and of a subscription to it
abbrev pub shown_row : Bool → Option Stream → Option ShownStream
shown_row b row = option_and_then (λ (v : Stream). only_if b (Some (shown_stream v))) row

abbrev pub shown_own : Bool → Option Stream → Option Subscription → Option ShownSubscription
shown_own b row own = option_and_then (λ (v : Stream). only_if b (option_map shown_subscription own)) row

-- and their events
abbrev pub stream_at_key : StreamId → Option ShownStream → Option ShownStream → List Event
stream_at_key stream old new = events_at (one_of StreamCreate) stream_changes (λ rows. one_of StreamDelete (keys_of rows)) stream old new

abbrev pub subscription_at_key : StreamId → Option ShownSubscription → Option ShownSubscription → List Event
subscription_at_key stream old new = events_at (one_of SubAdd) subscription_changes (λ rows. one_of SubRemove (keys_of rows)) stream old new

module _ (tables : Tables) (rise : TablesSorted tables) (turn : Turn)
    (new_streams : List (StreamId × Stream)) (new_subscriptions : List ((UserId × StreamId) × Subscription))
    (one : OneRow stream_cmp turn.stream turn.row tables.streams new_streams)
    (own : OneRow user_stream_cmp (turn.user, turn.stream) turn.subscription tables.subscriptions new_subscriptions) where
  abbrev pub after : Tables
  after = record tables { streams = new_streams; subscriptions = new_subscriptions }

  pub after_rise : TablesSorted after
  after_rise = record {
    users = rise.users;
    streams = one.rise;
    subscriptions = own.rise;
    messages = rise.messages;
    receipts = rise.receipts;
    reactions = rise.reactions;
  }

  -- subscriptions to the stream, and to others
  own_cell : (q : UserId) → subscription_of after q turn.stream ≡ subscription_after tables turn q
  own_cell q = go (is_at (user_cmp q) turn.user) refl ∙ ap (λ b. cond b turn.subscription (subscription_of tables q turn.stream)) (sym (same_at turn.user q))
    where
      go : (b : Bool) → is_at (user_cmp q) turn.user ≡ b
          → subscription_of after q turn.stream ≡ cond (is_at (user_cmp q) turn.user) turn.subscription (subscription_of tables q turn.stream)
      go true at =
          ap (λ u. subscription_of after u turn.stream) (at_same user_order q turn.user at) ∙ own.here
          ∙ sym (ap (λ b. cond b turn.subscription (subscription_of tables q turn.stream)) at)
      go false off =
          own.others (q, turn.stream) (first_off (user_cmp q turn.user) (stream_cmp turn.stream turn.stream) off)
          ∙ sym (ap (λ b. cond b turn.subscription (subscription_of tables q turn.stream)) off)

  other_cell : (q : UserId) (t : StreamId) → is_at (stream_cmp t) turn.stream ≡ false → subscription_of after q t ≡ subscription_of tables q t
  other_cell q t off = own.others (q, t) (second_off (user_cmp q turn.user) (stream_cmp t turn.stream) off)

  -- the subscribers
  abbrev peer_test : Tables → StreamId → UserId × User → Option (Unit {0})
  peer_test of t row = only_if (row.1.is_active && is_subscribed of row.0 t) (Some (tt {0}))

  peers_rise : (t : StreamId) → SortedByKey user_cmp (peers tables t)
  peers_rise t = rise-sift user_cmp (peer_test tables t) tables.users rise.users

  peers_other : (t : StreamId) → is_at (stream_cmp t) turn.stream ≡ false → peers after t ≡ peers tables t
  peers_other t off =
      sift_same user_order (peer_test after t) (peer_test tables t) tables.users rise.users
      (λ u v is. ap (λ (o : Option Subscription). only_if (v.is_active && is_some o) (Some (tt {0}))) (other_cell u t off))

  peers_there : peers after turn.stream ≡ peers_after tables turn
  peers_there =
      sift_same user_order (peer_test after turn.stream) (λ row. only_if (row.1.is_active && is_some (subscription_after tables turn row.0)) (Some (tt {0}))) tables.users rise.users
      (λ u v is. ap (λ (o : Option Subscription). only_if (v.is_active && is_some o) (Some (tt {0}))) (own_cell u))

  module _ (user : UserId) where
    abbrev was : Bool
    was = saw tables turn user

    abbrev is_seen : Bool
    is_seen = sees tables turn user

    sees_there : sees_stream after user turn.stream ≡ is_seen
    sees_there =
        ap (λ (row : Option Stream). sees_by (role_of tables user) row (is_subscribed after user turn.stream)) one.here
        ∙ ap (λ (o : Option Subscription). sees_by (role_of tables user) turn.row (is_some o)) (own_cell user)

    sees_other : (t : StreamId) → is_at (stream_cmp t) turn.stream ≡ false → sees_stream after user t ≡ sees_stream tables user t
    sees_other t off =
        ap (λ (row : Option Stream). sees_by (role_of tables user) row (is_subscribed after user t)) (one.others t off)
        ∙ ap (λ (o : Option Subscription). sees_by (role_of tables user) (stream_at tables t) (is_some o)) (other_cell user t off)

    streams_agree : AgreeBut stream_cmp turn.stream (streams tables user) (streams after user)
    streams_agree =
        AgreeBut-sift stream_order (stream_in tables user) (stream_in after user) tables.streams new_streams turn.stream rise.streams one.rise one.others
        (λ q v off. ap (λ b. only_if b (Some (shown_stream v))) (sees_other q off))

    pub stream_turn : stream_events (streams tables user) (streams after user)
        ≡ stream_at_key turn.stream (shown_row was (stream_at tables turn.stream)) (shown_row is_seen turn.row)
    stream_turn =
        keyed_at stream_order (one_of StreamCreate) stream_changes (λ rows. one_of StreamDelete (keys_of rows)) stream_stays (streams tables user) (streams after user) turn.stream
        (rise-sift stream_cmp (stream_in tables user) tables.streams rise.streams) (rise-sift stream_cmp (stream_in after user) new_streams one.rise) streams_agree
        ∙ ap (λ (o : Option ShownStream). stream_at_key turn.stream o (row_at stream_cmp (streams after user) turn.stream))
        (row_at-sift stream_order (stream_in tables user) tables.streams turn.stream rise.streams)
        ∙ ap (λ (o : Option ShownStream). stream_at_key turn.stream (shown_row was (stream_at tables turn.stream)) o)
        (row_at-sift stream_order (stream_in after user) new_streams turn.stream one.rise
        ∙ ap (λ (row : Option Stream). shown_row (sees_stream after user turn.stream) row) one.here
        ∙ ap (λ b. shown_row b turn.row) sees_there)

    subscriptions_agree : AgreeBut stream_cmp turn.stream (subscriptions tables user) (subscriptions after user)
    subscriptions_agree =
        AgreeBut-sift stream_order (subscription_in tables user) (subscription_in after user) tables.streams new_streams turn.stream rise.streams one.rise one.others
        (λ q v off. ap (λ b. only_if b (option_map shown_subscription (subscription_of after user q))) (sees_other q off)
        ∙ ap (λ (o : Option Subscription). only_if (sees_stream tables user q) (option_map shown_subscription o)) (other_cell user q off))

    pub subscription_turn : subscription_events (subscriptions tables user) (subscriptions after user)
        ≡ subscription_at_key turn.stream (shown_own was (stream_at tables turn.stream) (subscription_of tables user turn.stream))
        (shown_own is_seen turn.row (subscription_after tables turn user))
    subscription_turn =
        keyed_at stream_order (one_of SubAdd) subscription_changes (λ rows. one_of SubRemove (keys_of rows)) subscription_stays (subscriptions tables user) (subscriptions after user) turn.stream
        (rise-sift stream_cmp (subscription_in tables user) tables.streams rise.streams) (rise-sift stream_cmp (subscription_in after user) new_streams one.rise) subscriptions_agree
        ∙ ap (λ (o : Option ShownSubscription). subscription_at_key turn.stream o (row_at stream_cmp (subscriptions after user) turn.stream))
        (row_at-sift stream_order (subscription_in tables user) tables.streams turn.stream rise.streams)
        ∙ ap (λ (o : Option ShownSubscription). subscription_at_key turn.stream (shown_own was (stream_at tables turn.stream) (subscription_of tables user turn.stream)) o)
        (row_at-sift stream_order (subscription_in after user) new_streams turn.stream one.rise
        ∙ ap (λ (row : Option Stream). shown_own (sees_stream after user turn.stream) row (subscription_of after user turn.stream)) one.here
        ∙ ap (λ b. shown_own b turn.row (subscription_of after user turn.stream)) sees_there
        ∙ ap (λ (o : Option Subscription). shown_own is_seen turn.row o) (own_cell user))

    abbrev added : Bool → Users → StreamId → List Event
    added b rows t = one_of (PeerAdd t) (keys_of (gained_peers (sees_stream tables user t) b (peers tables t) rows))

    abbrev removed : Bool → Users → StreamId → List Event
    removed b rows t = one_of (PeerRemove t) (keys_of (lost_peers (sees_stream tables user t) b (peers tables t) rows))

    added_quiet : (t : StreamId) → is_at (stream_cmp t) turn.stream ≡ false → added (sees_stream after user t) (peers after t) t ≡ []
    added_quiet t off =
        ap (λ b. added b (peers after t) t) (sees_other t off)
        ∙ ap (λ (rows : Users). added (sees_stream tables user t) rows t) (peers_other t off)
        ∙ ap (λ (rows : Users). one_of (PeerAdd t) (keys_of rows)) (gained_quiet (sees_stream tables user t) (peers tables t) (peers_rise t))

    removed_quiet : (t : StreamId) → is_at (stream_cmp t) turn.stream ≡ false → removed (sees_stream after user t) (peers after t) t ≡ []
    removed_quiet t off =
        ap (λ b. removed b (peers after t) t) (sees_other t off)
        ∙ ap (λ (rows : Users). removed (sees_stream tables user t) rows t) (peers_other t off)
        ∙ ap (λ (rows : Users). one_of (PeerRemove t) (keys_of rows)) (lost_quiet (sees_stream tables user t) (peers tables t) (peers_rise t))

    added_there : flat_map (λ row. added (sees_stream after user row.0) (peers after row.0) row.0) new_streams
        ≡ made_of (λ (row : Stream). added is_seen (peers_after tables turn) turn.stream) turn.row
    added_there =
        flat_map_at stream_order (λ (row : StreamId × Stream). added (sees_stream after user row.0) (peers after row.0) row.0) new_streams turn.stream one.rise (λ q v off is. added_quiet q off)
        ∙ ap (made_of (λ (row : Stream). added (sees_stream after user turn.stream) (peers after turn.stream) turn.stream)) one.here
        ∙ ap (λ b. made_of (λ (row : Stream). added b (peers after turn.stream) turn.stream) turn.row) sees_there
        ∙ ap (λ (rows : Users). made_of (λ (row : Stream). added is_seen rows turn.stream) turn.row) peers_there

    removed_there : flat_map (λ row. removed (sees_stream after user row.0) (peers after row.0) row.0) new_streams
        ≡ made_of (λ (row : Stream). removed is_seen (peers_after tables turn) turn.stream) turn.row
    removed_there =
        flat_map_at stream_order (λ (row : StreamId × Stream). removed (sees_stream after user row.0) (peers after row.0) row.0) new_streams turn.stream one.rise (λ q v off is. removed_quiet q off)
        ∙ ap (made_of (λ (row : Stream). removed (sees_stream after user turn.stream) (peers after turn.stream) turn.stream)) one.here
        ∙ ap (λ b. made_of (λ (row : Stream). removed b (peers after turn.stream) turn.stream) turn.row) sees_there
        ∙ ap (λ (rows : Users). made_of (λ (row : Stream). removed is_seen rows turn.stream) turn.row) peers_there

    pub peer_turn : peer_events (view_of tables user) (view_of after user)
        ≡ made_of (λ (row : Stream). one_of (PeerAdd turn.stream) (keys_of (gained_peers was is_seen (peers tables turn.stream) (peers_after tables turn)))) turn.row
        ++ made_of (λ (row : Stream). one_of (PeerRemove turn.stream) (keys_of (lost_peers was is_seen (peers tables turn.stream) (peers_after tables turn)))) turn.row
    peer_turn = peers_change tables after rise.streams one.rise user ∙ (λ i. added_there i ++ removed_there i)

    -- the messages there come and go
    place_found : (q : MessageId) (sender : UserId) (at : Place) → is_some (receipt_of tables user q) ≡ true
        → (sees_at after user q sender at && not (sees_at tables user q sender at)) ≡ (finds tables turn user && is_in turn.stream at)
    place_found q sender (place.Stream t topic) has =
        ap (λ b. b && not (sees_at tables user q sender (place.Stream t topic))) (seen_there after user q sender t topic has)
        ∙ ap (λ b. sees_stream after user t && not b) (seen_there tables user q sender t topic has)
        ∙ go (is_at (stream_cmp t) turn.stream) refl
        ∙ ap (λ b. finds tables turn user && b) (sym (same_stream turn.stream t))
      where
        go : (b : Bool) → is_at (stream_cmp t) turn.stream ≡ b
            → (sees_stream after user t && not (sees_stream tables user t)) ≡ (finds tables turn user && is_at (stream_cmp t) turn.stream)
        go true at =
            ap (λ x. sees_stream after user x && not (sees_stream tables user x)) (at_same stream_order t turn.stream at)
            ∙ ap (λ b. b && not was) sees_there ∙ sym (and_true (finds tables turn user)) ∙ ap (λ b. finds tables turn user && b) (sym at)
        go false off =
            ap (λ b. b && not (sees_stream tables user t)) (sees_other t off) ∙ never (sees_stream tables user t)
            ∙ sym (and_false (finds tables turn user)) ∙ ap (λ b. finds tables turn user && b) (sym off)
    place_found q sender (place.Direct recipients) has = never (sees_at tables user q sender (place.Direct recipients)) ∙ sym (and_false (finds tables turn user))

    place_lost : (q : MessageId) (sender : UserId) (at : Place) → is_some (receipt_of tables user q) ≡ true
        → (sees_at tables user q sender at && not (sees_at after user q sender at)) ≡ (loses tables turn user && is_in turn.stream at)
    place_lost q sender (place.Stream t topic) has =
        ap (λ b. b && not (sees_at after user q sender (place.Stream t topic))) (seen_there tables user q sender t topic has)
        ∙ ap (λ b. sees_stream tables user t && not b) (seen_there after user q sender t topic has)
        ∙ go (is_at (stream_cmp t) turn.stream) refl
        ∙ ap (λ b. loses tables turn user && b) (sym (same_stream turn.stream t))
      where
        go : (b : Bool) → is_at (stream_cmp t) turn.stream ≡ b
            → (sees_stream tables user t && not (sees_stream after user t)) ≡ (loses tables turn user && is_at (stream_cmp t) turn.stream)
        go true at =
            ap (λ x. sees_stream tables user x && not (sees_stream after user x)) (at_same stream_order t turn.stream at)
            ∙ ap (λ b. was && not b) sees_there ∙ sym (and_true (loses tables turn user)) ∙ ap (λ b. loses tables turn user && b) (sym at)
        go false off =
            ap (λ b. sees_stream tables user t && not b) (sees_other t off) ∙ never (sees_stream tables user t)
            ∙ sym (and_false (loses tables turn user)) ∙ ap (λ b. loses tables turn user && b) (sym off)
    place_lost q sender (place.Direct recipients) has = never (sees_at tables user q sender (place.Direct recipients)) ∙ sym (and_false (loses tables turn user))

    abbrev coming : Bool → MessageId × Message → Option ShownMessage
    coming b row = only_if (b && is_in turn.stream row.1.place) (option_map (shown_message row.1) (receipt_of tables user row.0))

    arrives : (q : MessageId) (v : Message) → message_at tables q ≡ Some v
        → fresh (message_in tables user (q, v)) (message_in after user (q, v)) ≡ coming (finds tables turn user) (q, v)
    arrives q v is =
        ap (λ (o : Option Message). fresh (only_if (option_map_or (λ row. sees_at tables user q row.sender row.place) o false) (option_map (shown_message v) (receipt_of tables user q)))
        (only_if (option_map_or (λ row. sees_at after user q row.sender row.place) o false) (option_map (shown_message v) (receipt_of tables user q)))) is
        ∙ turned (sees_at tables user q v.sender v.place) (sees_at after user q v.sender v.place) (option_map (shown_message v) (receipt_of tables user q))
        ∙ go (receipt_of tables user q) refl
      where
        go : (receipt : Option Receipt) → receipt_of tables user q ≡ receipt
            → only_if (sees_at after user q v.sender v.place && not (sees_at tables user q v.sender v.place)) (option_map (shown_message v) receipt)
            ≡ only_if (finds tables turn user && is_in turn.stream v.place) (option_map (shown_message v) receipt)
        go None has = only_if-None _ ∙ sym (only_if-None _)
        go (Some receipt) has = ap (λ b. only_if b (Some (shown_message v receipt))) (place_found q v.sender v.place (ap is_some has))

    leaves : (q : MessageId) (v : Message) → message_at tables q ≡ Some v
        → fresh (message_in after user (q, v)) (message_in tables user (q, v)) ≡ coming (loses tables turn user) (q, v)
    leaves q v is =
        ap (λ (o : Option Message). fresh (only_if (option_map_or (λ row. sees_at after user q row.sender row.place) o false) (option_map (shown_message v) (receipt_of tables user q)))
        (only_if (option_map_or (λ row. sees_at tables user q row.sender row.place) o false) (option_map (shown_message v) (receipt_of tables user q)))) is
        ∙ turned (sees_at after user q v.sender v.place) (sees_at tables user q v.sender v.place) (option_map (shown_message v) (receipt_of tables user q))
        ∙ go (receipt_of tables user q) refl
      where
        go : (receipt : Option Receipt) → receipt_of tables user q ≡ receipt
            → only_if (sees_at tables user q v.sender v.place && not (sees_at after user q v.sender v.place)) (option_map (shown_message v) receipt)
            ≡ only_if (loses tables turn user && is_in turn.stream v.place) (option_map (shown_message v) receipt)
        go None has = only_if-None _ ∙ sym (only_if-None _)
        go (Some receipt) has = ap (λ b. only_if b (Some (shown_message v receipt))) (place_lost q v.sender v.place (ap is_some has))

    all_or_none : (b : Bool) → sift (coming b) tables.messages ≡ cond b (messages_in tables turn.stream user) []
    all_or_none true = refl
    all_or_none false = sift_none (coming false) (λ row. refl) tables.messages

    gained_messages : gained message_cmp (messages tables user) (messages after user) ≡ cond (finds tables turn user) (messages_in tables turn.stream user) []
    gained_messages =
        gained_sifts message_order (message_in tables user) (message_in after user) tables.messages rise.messages
        ∙ sift_same message_order (λ row. fresh (message_in tables user row) (message_in after user row)) (coming (finds tables turn user)) tables.messages rise.messages arrives
        ∙ all_or_none (finds tables turn user)

    lost_messages : lost message_cmp (messages tables user) (messages after user) ≡ cond (loses tables turn user) (messages_in tables turn.stream user) []
    lost_messages =
        gained_sifts message_order (message_in after user) (message_in tables user) tables.messages rise.messages
        ∙ sift_same message_order (λ row. fresh (message_in after user row) (message_in tables user row)) (coming (loses tables turn user)) tables.messages rise.messages leaves
        ∙ all_or_none (loses tables turn user)

    abbrev Shown : Type 0
    Shown = List (MessageId × ShownMessage)

    pub message_turn : message_events (view_of tables user) (view_of after user)
        ≡ arrivals (map (full_message tables.reactions) (cond (finds tables turn user) (messages_in tables turn.stream user) []))
        ++ one_of MessageGone (keys_of (cond (loses tables turn user) (messages_in tables turn.stream user) []))
    message_turn =
        sight_changes tables after rise after_rise user refl refl refl
        ∙ ap (λ full. arrivals full ++ one_of MessageGone (keys_of (lost message_cmp (messages tables user) (messages after user)))) (whole_arrivals after after_rise user (messages tables user))
        ∙ (λ i. arrivals (map (full_message tables.reactions) (gained_messages i)) ++ one_of MessageGone (keys_of (lost_messages i)))
