-- Where the realm, the users, the streams and the subscriptions stay, only messages and their reactions change.
use Rattle.std.proofs.Common.{◌≡◌, Bool, true, false, ◌&&◌, cond, List, [], ◌∷◌, ◌++◌, map, flat_map, Some, sym, ap, refl, ◌∙◌, subst}
use Rattle.ev_rows.specs.Rows.{SortedByKey, gained, keys_of, one_of, only_if, sift}
use Rattle.ev_rows.proofs.RiseLemmas.{rise-nil, rise-sift}
use Rattle.ev_rows.proofs.ChangeLemmas.{gained_same, keyed_quiet}
use Rattle.ev_base.specs.Orders.{stream_cmp, stream_order, user_cmp, user_order}
use Rattle.ev_base.specs.declared.ids.UserId.{UserId}
use Rattle.ev_base.specs.declared.ids.StreamId.{StreamId}
use Rattle.ev_types.specs.Changes.{changes_between, message_events, peers_of, stream_changes, stream_events, subscription_changes, subscription_events, user_changes, user_events}
use Rattle.ev_types.specs.declared.event.Event.{Event}
use Rattle.ev_types.specs.declared.event.Event.TheVariants.{PeerAdd, PeerRemove, StreamCreate, StreamDelete, SubAdd, SubRemove, UserAdd}
use Rattle.zr_types.specs.Sound.{TablesSorted}
use Rattle.zr_types.specs.Tables.{Tables}
use Rattle.zr_types.specs.Visibility.{is_subscribed, sees_stream}
use Rattle.zw_views.specs.RowViews.{stream_in, subscription_in}
use Rattle.zw_views.specs.Views.{peers, realm_users, shown_realm, shown_user, streams, subscribers, subscriptions, view_of}
use Rattle.zw_views.proofs.ViewLemmas.{users_are_sifted}
use Rattle.nt_rules.proofs.FieldsStay.{realm_stays, stream_stays, subscription_stays, user_stays}
use Rattle.nt_rules.proofs.PeerChanges.{peers_seen}
use Rattle.nt_rules.proofs.Six.{six}

-- users that stay make no events
pub no_user : (tables : Tables) → SortedByKey user_cmp tables.users → user_events (realm_users tables) (realm_users tables) ≡ []
no_user tables rise =
    ap (λ rows. user_events rows rows) (users_are_sifted tables)
    ∙ keyed_quiet user_order (map (λ row. UserAdd row.0 row.1)) user_changes (λ _. []) user_stays
    (sift (λ row. Some (shown_user row.1)) tables.users) (rise-sift user_cmp (λ row. Some (shown_user row.1)) tables.users rise) refl refl

module _ (before : Tables) (rise : TablesSorted before) (user : UserId) where
  no_stream : stream_events (streams before user) (streams before user) ≡ []
  no_stream =
      keyed_quiet stream_order (one_of StreamCreate) stream_changes (λ rows. one_of StreamDelete (keys_of rows)) stream_stays
      (streams before user) (rise-sift stream_cmp (stream_in before user) before.streams rise.streams) refl refl

  no_subscription : subscription_events (subscriptions before user) (subscriptions before user) ≡ []
  no_subscription =
      keyed_quiet stream_order (one_of SubAdd) subscription_changes (λ rows. one_of SubRemove (keys_of rows)) subscription_stays
      (subscriptions before user) (rise-sift stream_cmp (subscription_in before user) before.streams rise.streams) refl refl

  peers_rise : (stream : StreamId) → SortedByKey user_cmp (peers_of stream (subscribers before user))
  peers_rise stream = subst (SortedByKey user_cmp) (sym (peers_seen before rise.streams user stream)) (go (sees_stream before user stream))
    where
      go : (b : Bool) → SortedByKey user_cmp (cond b (peers before stream) [])
      go true = rise-sift user_cmp (λ row. only_if (row.1.is_active && is_subscribed before row.0 stream) (Some (tt {0}))) before.users rise.users
      go false = rise-nil user_cmp

  no_peer : (tell : StreamId → List UserId → Event) (keys : List StreamId)
      → flat_map (λ stream. one_of (tell stream) (keys_of (gained user_cmp (peers_of stream (subscribers before user)) (peers_of stream (subscribers before user))))) keys ≡ []
  no_peer tell [] = refl
  no_peer tell (stream ∷ keys) =
      let none = gained_same user_order (peers_of stream (subscribers before user)) (peers_rise stream) in
      rw none (no_peer tell keys)

  module _ (after : Tables) where
    -- the messages of the one tables, and all else of the other
    abbrev mixed : Tables
    mixed = record before { messages = after.messages; receipts = after.receipts; reactions = after.reactions }

    alone : changes_between (view_of before user) (view_of mixed user) ≡ message_events (view_of before user) (view_of mixed user)
    alone =
        six (view_of before user) (view_of mixed user) (realm_stays (shown_realm before.realm)) (no_user before rise.users) no_stream no_subscription
        (λ i. no_peer PeerAdd (keys_of (streams before user)) i ++ no_peer PeerRemove (keys_of (streams before user)) i) refl

    pub messages_alone : after.realm ≡ before.realm → after.users ≡ before.users → after.streams ≡ before.streams → after.subscriptions ≡ before.subscriptions
        → changes_between (view_of before user) (view_of after user) ≡ message_events (view_of before user) (view_of after user)
    messages_alone realm users streams subscriptions =
        let same : mixed ≡ after = λ i. record {
          realm = sym realm i;
          users = sym users i;
          streams = sym streams i;
          subscriptions = sym subscriptions i;
          messages = after.messages;
          receipts = after.receipts;
          reactions = after.reactions;
        } in
        subst (λ tables. changes_between (view_of before user) (view_of tables user) ≡ message_events (view_of before user) (view_of tables user)) same alone
