-- What changes for one user number where a realm's users change: the streams and messages that come and go with the user's role,
-- and the subscribers.
use Rattle.std.proofs.Common.{◌≡◌, Bool, true, false, not, ◌&&◌, ◌||◌, List, [], ◌∷◌, ◌++◌, map, flat_map, Option, None, Some, is_some, option_map, option_and_then, sym, ap, refl, ◌∙◌, append-nil, append_assoc}
use Rattle.std.specs.Option.{option_map_or}
use Rattle.std.proofs.lemmas.Option.{same_Some}
use Rattle.ev_rows.specs.Rows.{SortedByKey, fresh, gained, keys_of, lost, made_of, one_of, only_if, row_at}
use Rattle.ev_rows.proofs.RiseLemmas.{rise-sift}
use Rattle.ev_rows.proofs.RowLemmas.{only_if-None, row_at-sift}
use Rattle.ev_rows.proofs.ChangeLemmas.{fresh-same, gained_same, keyed_quiet}
use Rattle.ev_rows.proofs.SiftLemmas.{gained_sifts}
use Rattle.ev_base.specs.Orders.{message_cmp, message_order, stream_cmp, stream_order, user_cmp, user_order}
use Rattle.ev_base.specs.declared.ids.UserId.{UserId}
use Rattle.ev_base.specs.declared.ids.StreamId.{StreamId}
use Rattle.ev_base.specs.declared.ids.MessageId.{MessageId}
use Rattle.ev_base.specs.declared.kinds.Role.{Role}
use Rattle.ev_base.specs.declared.place.Place.{Place}
use Rattle.ev_base.specs.declared.place.Place.TheVariants as place
use Rattle.ev_types.specs.Changes.{arrivals, changes_between, full_message, message_events, peer_events, stream_changes, stream_events, subscription_changes, subscription_events, user_events}
use Rattle.ev_types.specs.declared.event.Event.{Event}
use Rattle.ev_types.specs.declared.event.Event.TheVariants.{MessageGone, PeerAdd, PeerRemove, StreamCreate, StreamDelete, SubAdd, SubRemove}
use Rattle.ev_types.specs.declared.rows.ShownStream.{ShownStream}
use Rattle.zr_types.specs.declared.people.User.{User}
use Rattle.zr_types.specs.declared.posts.Message.{Message}
use Rattle.zr_types.specs.declared.posts.Receipt.{Receipt}
use Rattle.zr_types.specs.declared.streams.Stream.{Stream}
use Rattle.zr_types.specs.declared.streams.Subscription.{Subscription}
use Rattle.zr_types.specs.Sound.{TablesSorted}
use Rattle.zr_types.specs.Tables.{Tables, message_at, receipt_of, stream_at, subscription_of, user_at}
use Rattle.zr_types.specs.Visibility.{has_protected_history, is_among, is_subscribed, same_user, is_user, role_of, sees_at, sees_by, sees_stream}
use Rattle.zw_views.specs.RowViews.{message_in, stream_in, subscription_in}
use Rattle.zw_views.specs.Views.{messages, peers, realm_users, shown_message, shown_realm, shown_stream, shown_subscription, streams, subscriptions, view_of}
use Rattle.nt_rules.specs.Parts.{gained_peers, lost_peers}
use Rattle.nt_rules.proofs.Alike.{AlikeWhereKept, keyed_alike}
use Rattle.nt_rules.proofs.FieldsStay.{realm_stays, stream_stays, subscription_stays}
use Rattle.nt_rules.proofs.PeerChanges.{flat_map_keys, flat_map_same, peers_change}
use Rattle.nt_rules.proofs.Sight.{sift_same, sight_changes, whole_arrivals}
use Rattle.nt_rules.proofs.Six.{six}
use Rattle.nt_people.specs.PeopleParts.{arrived, message_sight, opened, opens, opens_place, stream_sight}

-- a cell that was hidden or shown by one test, and is by another
turned : {W : Type 0} (saw sees : Bool) (cell : Option W) → fresh (only_if saw cell) (only_if sees cell) ≡ only_if (sees && not saw) cell
turned true true cell = fresh-same cell
turned true false None = refl
turned true false (Some w) = refl
turned false true None = refl
turned false true (Some w) = refl
turned false false cell = refl

-- a list gains all over none
gained_of_none : (rows : List (UserId × Unit {0})) → gained user_cmp {V = Unit {0}} [] rows ≡ rows
gained_of_none [] = refl
gained_of_none (row ∷ rows) = ap (λ l. row ∷ l) (gained_of_none rows)

abbrev pub quiet : {X : Type 0} → X → List Event
quiet x = []

pub nothing : {X : Type 0} (xs : List X) → flat_map quiet xs ≡ []
nothing [] = refl
nothing (x ∷ xs) = nothing xs

together : (a b c d : List Event) → [] ++ a ++ b ++ [] ++ c ++ d ≡ a ++ ((b ++ c) ++ d)
together a b c d =
    ap (λ l. l ++ c ++ d) (append-nil (a ++ b))
    ∙ ap (λ l. l ++ d) (append_assoc a b c)
    ∙ append_assoc a (b ++ c) d

module _ (before : Tables) (rise : TablesSorted before) (users : List (UserId × User)) (users_rise : SortedByKey user_cmp users) where
  abbrev pub with_users : Tables
  with_users = record before { users = users }

  pub still_rise : TablesSorted with_users
  still_rise = record {
    users = users_rise;
    streams = rise.streams;
    subscriptions = rise.subscriptions;
    messages = rise.messages;
    receipts = rise.receipts;
    reactions = rise.reactions;
  }

  module _ (user : UserId) where
    abbrev old : Option Role
    old = role_of before user

    abbrev new : Option Role
    new = role_of with_users user

    seen_cell : (tables : Tables) → TablesSorted tables → (q : StreamId)
        → row_at stream_cmp (streams tables user) q ≡ option_and_then (λ row. only_if (sees_stream tables user q) (Some (shown_stream row))) (stream_at tables q)
    seen_cell tables tables_rise q = row_at-sift stream_order (stream_in tables user) tables.streams q tables_rise.streams

    streams_alike : AlikeWhereKept stream_cmp (streams before user) (streams with_users user)
    streams_alike q a b is now =
        go (stream_at before q) (sees_stream before user q) (sees_stream with_users user q) (sym (seen_cell before rise q) ∙ is) (sym (seen_cell with_users still_rise q) ∙ now)
      where
        go : (o : Option Stream) (saw sees : Bool) → option_and_then (λ row. only_if saw (Some (shown_stream row))) o ≡ Some a → option_and_then (λ row. only_if sees (Some (shown_stream row))) o ≡ Some b → a ≡ b
        go None saw sees is now = cc
        go (Some row) true true is now = same_Some a b (sym is ∙ now)
        go (Some row) true false is now = cc
        go (Some row) false sees is now = cc

    gained_streams : gained stream_cmp (streams before user) (streams with_users user) ≡ opened before user old new
    gained_streams =
        gained_sifts stream_order (stream_in before user) (stream_in with_users user) before.streams rise.streams
        ∙ sift_same stream_order _ _ before.streams rise.streams (λ q v is. turned (sees_stream before user q) (sees_stream with_users user q) (Some (shown_stream v)))

    lost_streams : lost stream_cmp (streams before user) (streams with_users user) ≡ opened before user new old
    lost_streams =
        gained_sifts stream_order (stream_in with_users user) (stream_in before user) before.streams rise.streams
        ∙ sift_same stream_order _ _ before.streams rise.streams (λ q v is. turned (sees_stream with_users user q) (sees_stream before user q) (Some (shown_stream v)))

    -- streams come and go
    pub stream_shift : stream_events (streams before user) (streams with_users user)
        ≡ one_of StreamCreate (opened before user old new) ++ one_of StreamDelete (keys_of (opened before user new old))
    stream_shift =
        keyed_alike stream_order (one_of StreamCreate) stream_changes (λ rows. one_of StreamDelete (keys_of rows)) stream_stays
        (streams before user) (streams with_users user) (rise-sift stream_cmp (stream_in with_users user) before.streams rise.streams) streams_alike
        ∙ ap (λ rows. one_of StreamCreate rows ++ one_of StreamDelete (keys_of (lost stream_cmp (streams before user) (streams with_users user)))) gained_streams
        ∙ ap (λ rows. one_of StreamCreate (opened before user old new) ++ one_of StreamDelete (keys_of rows)) lost_streams

    module _ (subscriber_stays : (stream : StreamId) → is_subscribed before user stream ≡ true → is_some new ≡ is_some old) where
      -- a role changes nothing in what a subscriber sees
      by_subscription : (was is : Option Role) (stream : Option Stream) → is_some is ≡ is_some was → sees_by was stream true ≡ sees_by is stream true
      by_subscription None None stream same = refl
      by_subscription None (Some is) stream same = cc
      by_subscription (Some was) None stream same = cc
      by_subscription (Some was) (Some is) None same = refl
      by_subscription (Some was) (Some is) (Some stream) same = refl

      subscription_cell : (q : StreamId) (v : Stream) → subscription_in before user (q, v) ≡ subscription_in with_users user (q, v)
      subscription_cell q v = go (subscription_of before user q) refl
        where
          go : (own : Option Subscription) → subscription_of before user q ≡ own
              → only_if (sees_by old (stream_at before q) (is_some own)) (option_map shown_subscription own)
              ≡ only_if (sees_by new (stream_at before q) (is_some own)) (option_map shown_subscription own)
          go None is = only_if-None _ ∙ sym (only_if-None _)
          go (Some own) is = ap (λ b. only_if b (Some (shown_subscription own))) (by_subscription old new (stream_at before q) (subscriber_stays q (ap is_some is)))

      subscriptions_stay : subscriptions with_users user ≡ subscriptions before user
      subscriptions_stay = sym (sift_same stream_order (subscription_in before user) (subscription_in with_users user) before.streams rise.streams (λ q v is. subscription_cell q v))

      -- so no subscription changes
      pub no_subscription : subscription_events (subscriptions before user) (subscriptions with_users user) ≡ []
      no_subscription =
          ap (subscription_events (subscriptions before user)) subscriptions_stay
          ∙ keyed_quiet stream_order (one_of SubAdd) subscription_changes (λ rows. one_of SubRemove (keys_of rows)) subscription_stays
          (subscriptions before user) (rise-sift stream_cmp (subscription_in before user) before.streams rise.streams) refl refl

    module _ (reader_stays : (message : MessageId) → is_some (receipt_of before user message) ≡ true → is_some new ≡ is_some old) where
      roles_are_users : (tables : Tables) → is_some (role_of tables user) ≡ is_user tables user
      roles_are_users tables = go (user_at tables user)
        where
          go : (o : Option User) → is_some (option_map (λ (row : User). row.role) o) ≡ is_some o
          go None = refl
          go (Some row) = refl

      or_true : (b : Bool) → (b || true) ≡ true
      or_true true = refl
      or_true false = refl

      and_true : (b : Bool) → (b && true) ≡ b
      and_true true = refl
      and_true false = refl

      -- of a message with a receipt, the stream alone tells whether it is seen
      seen_there : (tables : Tables) (message : MessageId) (sender : UserId) (stream : StreamId) (topic : List _) → is_some (receipt_of tables user message) ≡ true
          → sees_at tables user message sender (place.Stream stream topic) ≡ sees_stream tables user stream
      seen_there tables message sender stream topic has =
          ap (λ b. sees_stream tables user stream && (not (has_protected_history tables user stream) || b)) has
          ∙ ap (λ b. sees_stream tables user stream && b) (or_true (not (has_protected_history tables user stream)))
          ∙ and_true (sees_stream tables user stream)

      place_opens : (q : MessageId) (sender : UserId) (at : Place) → is_some (receipt_of before user q) ≡ true
          → (sees_at with_users user q sender at && not (sees_at before user q sender at)) ≡ opens_place before user old new at
      place_opens q sender (place.Stream stream topic) has =
          ap (λ b. b && not (sees_at before user q sender (place.Stream stream topic))) (seen_there with_users q sender stream topic has)
          ∙ ap (λ b. sees_stream with_users user stream && not b) (seen_there before q sender stream topic has)
      place_opens q sender (place.Direct recipients) has =
          ap (λ b. (b && (same_user user sender || is_among user recipients)) && not (sees_at before user q sender (place.Direct recipients)))
          (sym (roles_are_users with_users) ∙ reader_stays q has ∙ roles_are_users before)
          ∙ never (sees_at before user q sender (place.Direct recipients))
        where
          never : (b : Bool) → (b && not b) ≡ false
          never true = refl
          never false = refl

      place_closes : (q : MessageId) (sender : UserId) (at : Place) → is_some (receipt_of before user q) ≡ true
          → (sees_at before user q sender at && not (sees_at with_users user q sender at)) ≡ opens_place before user new old at
      place_closes q sender (place.Stream stream topic) has =
          ap (λ b. b && not (sees_at with_users user q sender (place.Stream stream topic))) (seen_there before q sender stream topic has)
          ∙ ap (λ b. sees_stream before user stream && not b) (seen_there with_users q sender stream topic has)
      place_closes q sender (place.Direct recipients) has =
          ap (λ b. (b && (same_user user sender || is_among user recipients)) && not (sees_at with_users user q sender (place.Direct recipients)))
          (sym (roles_are_users before) ∙ sym (reader_stays q has) ∙ roles_are_users with_users)
          ∙ never (sees_at with_users user q sender (place.Direct recipients))
        where
          never : (b : Bool) → (b && not b) ≡ false
          never true = refl
          never false = refl

      arrives : (q : MessageId) (v : Message) → message_at before q ≡ Some v
          → fresh (message_in before user (q, v)) (message_in with_users user (q, v))
          ≡ only_if (opens_place before user old new v.place) (option_map (shown_message v) (receipt_of before user q))
      arrives q v is =
          ap (λ (o : Option Message). fresh (only_if (option_map_or (λ row. sees_at before user q row.sender row.place) o false) (option_map (shown_message v) (receipt_of before user q)))
          (only_if (option_map_or (λ row. sees_at with_users user q row.sender row.place) o false) (option_map (shown_message v) (receipt_of before user q)))) is
          ∙ turned (sees_at before user q v.sender v.place) (sees_at with_users user q v.sender v.place) (option_map (shown_message v) (receipt_of before user q))
          ∙ go (receipt_of before user q) refl
        where
          go : (receipt : Option Receipt) → receipt_of before user q ≡ receipt
              → only_if (sees_at with_users user q v.sender v.place && not (sees_at before user q v.sender v.place)) (option_map (shown_message v) receipt)
              ≡ only_if (opens_place before user old new v.place) (option_map (shown_message v) receipt)
          go None has = only_if-None _ ∙ sym (only_if-None _)
          go (Some receipt) has = ap (λ b. only_if b (Some (shown_message v receipt))) (place_opens q v.sender v.place (ap is_some has))

      leaves : (q : MessageId) (v : Message) → message_at before q ≡ Some v
          → fresh (message_in with_users user (q, v)) (message_in before user (q, v))
          ≡ only_if (opens_place before user new old v.place) (option_map (shown_message v) (receipt_of before user q))
      leaves q v is =
          ap (λ (o : Option Message). fresh (only_if (option_map_or (λ row. sees_at with_users user q row.sender row.place) o false) (option_map (shown_message v) (receipt_of before user q)))
          (only_if (option_map_or (λ row. sees_at before user q row.sender row.place) o false) (option_map (shown_message v) (receipt_of before user q)))) is
          ∙ turned (sees_at with_users user q v.sender v.place) (sees_at before user q v.sender v.place) (option_map (shown_message v) (receipt_of before user q))
          ∙ go (receipt_of before user q) refl
        where
          go : (receipt : Option Receipt) → receipt_of before user q ≡ receipt
              → only_if (sees_at before user q v.sender v.place && not (sees_at with_users user q v.sender v.place)) (option_map (shown_message v) receipt)
              ≡ only_if (opens_place before user new old v.place) (option_map (shown_message v) receipt)
          go None has = only_if-None _ ∙ sym (only_if-None _)
          go (Some receipt) has = ap (λ b. only_if b (Some (shown_message v receipt))) (place_closes q v.sender v.place (ap is_some has))

      gained_messages : gained message_cmp (messages before user) (messages with_users user) ≡ arrived before user old new
      gained_messages =
          gained_sifts message_order (message_in before user) (message_in with_users user) before.messages rise.messages
          ∙ sift_same message_order _ _ before.messages rise.messages arrives

      lost_messages : lost message_cmp (messages before user) (messages with_users user) ≡ arrived before user new old
      lost_messages =
          gained_sifts message_order (message_in with_users user) (message_in before user) before.messages rise.messages
          ∙ sift_same message_order _ _ before.messages rise.messages leaves

      messages_rise : SortedByKey message_cmp (messages with_users user)
      messages_rise = rise-sift message_cmp (message_in with_users user) before.messages rise.messages

      -- messages come and go
      pub message_shift : message_events (view_of before user) (view_of with_users user) ≡ message_sight before user old new
      message_shift =
          sight_changes before with_users rise still_rise user refl refl refl
          ∙ ap (λ full. arrivals full ++ one_of MessageGone (keys_of (lost message_cmp (messages before user) (messages with_users user)))) (whole_arrivals with_users still_rise user (messages before user))
          ∙ ap (λ rows. arrivals (map (full_message before.reactions) rows) ++ one_of MessageGone (keys_of (lost message_cmp (messages before user) (messages with_users user)))) gained_messages
          ∙ ap (λ rows. arrivals (map (full_message before.reactions) (arrived before user old new)) ++ one_of MessageGone (keys_of rows)) lost_messages

    module _ (peers_stay : (stream : StreamId) → peers with_users stream ≡ peers before stream) where
      peers_rise : (stream : StreamId) → SortedByKey user_cmp (peers before stream)
      peers_rise stream = rise-sift user_cmp (λ row. only_if (row.1.is_active && is_subscribed before row.0 stream) (Some (tt {0}))) before.users rise.users

      added : (row : StreamId × Stream)
          → one_of (PeerAdd row.0) (keys_of (gained_peers (sees_stream before user row.0) (sees_stream with_users user row.0) (peers before row.0) (peers with_users row.0)))
          ≡ made_of (λ (shown : ShownStream). one_of (PeerAdd row.0) (keys_of (peers before row.0))) (only_if (opens before user old new row.0) (Some (shown_stream row.1)))
      added row =
          ap (λ rows. one_of (PeerAdd row.0) (keys_of (gained_peers (sees_stream before user row.0) (sees_stream with_users user row.0) (peers before row.0) rows))) (peers_stay row.0)
          ∙ go (sees_stream before user row.0) (sees_stream with_users user row.0)
        where
          go : (saw sees : Bool) → one_of (PeerAdd row.0) (keys_of (gained_peers saw sees (peers before row.0) (peers before row.0)))
              ≡ made_of (λ (shown : ShownStream). one_of (PeerAdd row.0) (keys_of (peers before row.0))) (only_if (sees && not saw) (Some (shown_stream row.1)))
          go true true = ap (λ rows. one_of (PeerAdd row.0) (keys_of rows)) (gained_same user_order (peers before row.0) (peers_rise row.0))
          go true false = refl
          go false true = ap (λ rows. one_of (PeerAdd row.0) (keys_of rows)) (gained_of_none (peers before row.0))
          go false false = refl

      removed : (row : StreamId × Stream)
          → one_of (PeerRemove row.0) (keys_of (lost_peers (sees_stream before user row.0) (sees_stream with_users user row.0) (peers before row.0) (peers with_users row.0))) ≡ []
      removed row =
          ap (λ rows. one_of (PeerRemove row.0) (keys_of (lost_peers (sees_stream before user row.0) (sees_stream with_users user row.0) (peers before row.0) rows))) (peers_stay row.0)
          ∙ go (sees_stream before user row.0) (sees_stream with_users user row.0)
        where
          go : (saw sees : Bool) → one_of (PeerRemove row.0) (keys_of (lost_peers saw sees (peers before row.0) (peers before row.0))) ≡ []
          go true true = ap (λ rows. one_of (PeerRemove row.0) (keys_of rows)) (gained_same user_order (peers before row.0) (peers_rise row.0))
          go true false = refl
          go false true = refl
          go false false = refl

      -- subscribers come with their streams
      pub peer_shift : peer_events (view_of before user) (view_of with_users user) ≡ flat_map (λ stream. one_of (PeerAdd stream) (keys_of (peers before stream))) (keys_of (opened before user old new))
      peer_shift =
          peers_change before with_users rise.streams rise.streams user
          ∙ ap (λ (l : List Event). l ++ flat_map (λ row. one_of (PeerRemove row.0) (keys_of (lost_peers (sees_stream before user row.0) (sees_stream with_users user row.0) (peers before row.0) (peers with_users row.0)))) before.streams)
          (flat_map_same _ _ added before.streams ∙ sym (flat_map_keys (λ stream. one_of (PeerAdd stream) (keys_of (peers before stream))) (λ row. only_if (opens before user old new row.0) (Some (shown_stream row.1))) before.streams))
          ∙ ap (λ (l : List Event). flat_map (λ stream. one_of (PeerAdd stream) (keys_of (peers before stream))) (keys_of (opened before user old new)) ++ l)
          (flat_map_same _ quiet removed before.streams ∙ nothing before.streams)
          ∙ append-nil (flat_map (λ stream. one_of (PeerAdd stream) (keys_of (peers before stream))) (keys_of (opened before user old new)))

    -- what everyone is told of the rows of users, and what the user is told of the streams, their subscribers and their messages
    pub shifted : ((stream : StreamId) → peers with_users stream ≡ peers before stream)
        → ((stream : StreamId) → is_subscribed before user stream ≡ true → is_some new ≡ is_some old)
        → ((message : MessageId) → is_some (receipt_of before user message) ≡ true → is_some new ≡ is_some old)
        → changes_between (view_of before user) (view_of with_users user)
        ≡ user_events (realm_users before) (realm_users with_users) ++ (stream_sight before user old new ++ message_sight before user old new)
    shifted peers_stay subscriber_stays reader_stays =
        six (view_of before user) (view_of with_users user) (realm_stays (shown_realm before.realm)) refl stream_shift (no_subscription subscriber_stays) (peer_shift peers_stay) (message_shift reader_stays)
        ∙ together (user_events (realm_users before) (realm_users with_users)) (one_of StreamCreate (opened before user old new) ++ one_of StreamDelete (keys_of (opened before user new old)))
        (flat_map (λ stream. one_of (PeerAdd stream) (keys_of (peers before stream))) (keys_of (opened before user old new))) (message_sight before user old new)
