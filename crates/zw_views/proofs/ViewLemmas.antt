-- A user's view: its rows rise, and the sections that are made another way than they are defined.
use Rattle.std.proofs.Common.{◌≡◌, Bool, true, false, not, ◌&&◌, List, [], ◌∷◌, map, Option, None, Some, is_some, option_and_then, ap, refl, ◌∙◌, true≢false}
use Rattle.std.specs.Option.{option_map_or}
use Rattle.ev_base.specs.declared.ids.UserId.{UserId}
use Rattle.ev_base.specs.declared.ids.StreamId.{StreamId}
use Rattle.ev_base.specs.Orders.{user_cmp, stream_cmp, message_cmp, stream_user_cmp, reaction_cmp, user_order, stream_order}
use Rattle.ev_rows.specs.Rows.{SortedByKey, only_if, row_at, sift}
use Rattle.ev_rows.proofs.RiseLemmas.{rise-sift}
use Rattle.ev_rows.proofs.RowLemmas.{row_at-sift}
use Rattle.ev_rows.proofs.SiftLemmas.{sift-sift}
use Rattle.ev_types.specs.declared.rows.ShownStream.{ShownStream}
use Rattle.ev_types.specs.Sections.{SectionsSorted}
use Rattle.zr_types.specs.declared.people.User.{User}
use Rattle.zr_types.specs.declared.streams.Stream.{Stream}
use Rattle.zr_types.specs.declared.streams.Subscription.{Subscription}
use Rattle.zr_types.specs.Tables.{Tables, stream_at, subscription_of, user_at}
use Rattle.zr_types.specs.Sound.{TablesSorted}
use Rattle.zr_types.specs.Visibility.{is_active_user, is_subscribed, role_of, sees_by, sees_stream}
use Rattle.zw_views.specs.RowViews as row
use Rattle.zw_views.specs.Views.{messages, peers, realm_users, shown_stream, shown_user, starred_messages, streams, subscribers, unread_messages, view_of}
use Rattle.zw_views.proofs.NestedLemmas.{rise-nested, row_at-nested}

-- all users, as rows made of each
pub users_are_sifted : (tables : Tables) → realm_users tables ≡ sift (λ user. Some (shown_user user.1)) tables.users
users_are_sifted tables = go tables.users
  where
    go : (users : List (UserId × User)) → map (λ user. (user.0, shown_user user.1)) users ≡ sift (λ user. Some (shown_user user.1)) users
    go [] = refl
    go (user ∷ users) = ap (λ shown. (user.0, shown_user user.1) ∷ shown) (go users)

module _ (tables : Tables) (user : UserId) where
  pub starred_are_sifted : starred_messages tables user ≡ sift (row.starred_in tables user) tables.messages
  starred_are_sifted = sift-sift (λ shown. only_if shown.1.flags.starred (Some (tt {0}))) (row.message_in tables user) tables.messages

  pub unread_are_sifted : unread_messages tables user ≡ sift (row.unread_in tables user) tables.messages
  unread_are_sifted = sift-sift (λ shown. only_if (not shown.1.flags.read) (Some shown.1.place)) (row.message_in tables user) tables.messages

-- nobody sees a stream that isn't there
unseen : (tables : Tables) (user : UserId) (stream : StreamId) → stream_at tables stream ≡ None → sees_stream tables user stream ≡ false
unseen tables user stream none = rw none (go (role_of tables user))
  where
    go : (role : _) → sees_by role None (is_subscribed tables user stream) ≡ false
    go None = refl
    go (Some role) = refl

module _ (tables : Tables) (rise : TablesSorted tables) where
  peers_rise : (stream : StreamId) → SortedByKey user_cmp (peers tables stream)
  peers_rise stream = rise-sift user_cmp (λ peer. only_if (peer.1.is_active && is_subscribed tables peer.0 stream) (Some (tt {0}))) tables.users rise.users

  -- the rows of every section of a view rise
  pub sections_rise : (user : UserId) → SectionsSorted (view_of tables user)
  sections_rise user =
      let seen : SortedByKey stream_cmp (streams tables user) = rise-sift stream_cmp (row.stream_in tables user) tables.streams rise.streams in
      let shown : SortedByKey message_cmp (messages tables user) = rise-sift message_cmp (row.message_in tables user) tables.messages rise.messages in
      record {
        realm_users = rw (users_are_sifted tables) (rise-sift user_cmp (λ user. Some (shown_user user.1)) tables.users rise.users);
        streams = seen;
        subscriptions = rise-sift stream_cmp (row.subscription_in tables user) tables.streams rise.streams;
        subscribers = rise-nested user_cmp stream_order (peers tables) peers_rise (streams tables user) seen;
        messages = shown;
        reactions = rise-sift reaction_cmp (row.reaction_in tables user) tables.reactions rise.reactions;
        starred_messages = rise-sift message_cmp (λ shown. only_if shown.1.flags.starred (Some (tt {0}))) (messages tables user) shown;
        unread_messages = rise-sift message_cmp (λ shown. only_if (not shown.1.flags.read) (Some shown.1.place)) (messages tables user) shown;
      }

  -- the row of a stream's subscriber
  pub at_subscribers : (user : UserId) (stream : StreamId) (peer : UserId)
      → row_at stream_user_cmp (subscribers tables user) (stream, peer)
      ≡ option_and_then (λ (own : Subscription). only_if (sees_stream tables user stream && is_active_user tables peer) (Some (tt {0}))) (subscription_of tables peer stream)
  at_subscribers user stream peer =
      row_at-nested user_cmp stream_order (peers tables) (streams tables user) stream peer
      (rise-sift stream_cmp (row.stream_in tables user) tables.streams rise.streams)
      ∙ ap (option_and_then (λ (shown : ShownStream). row_at user_cmp (peers tables stream) peer)) (row_at-sift stream_order (row.stream_in tables user) tables.streams stream rise.streams)
      ∙ ap (λ o. option_and_then (λ (shown : ShownStream). o) (option_and_then (λ (v : Stream). only_if (sees_stream tables user stream) (Some (shown_stream v))) (stream_at tables stream)))
      (row_at-sift user_order (λ other. only_if (other.1.is_active && is_subscribed tables other.0 stream) (Some (tt {0}))) tables.users peer rise.users)
      ∙ go (sees_stream tables user stream) (stream_at tables stream) (user_at tables peer) (subscription_of tables peer stream) (unseen tables user stream)
    where
      none : (o : Option Subscription) → only_if false (Some (tt {0})) ≡ option_and_then (λ (own : Subscription). only_if false (Some (tt {0}))) o
      none None = refl
      none (Some own) = refl

      one : (active : Bool) (o : Option Subscription)
          → only_if (active && is_some o) (Some (tt {0})) ≡ option_and_then (λ (own : Subscription). only_if active (Some (tt {0}))) o
      one true None = refl
      one true (Some own) = refl
      one false None = refl
      one false (Some own) = refl

      go : (sees : Bool) (there : Option Stream) (person : Option User) (own : Option Subscription) → (there ≡ None → sees ≡ false)
          → option_and_then (λ (shown : ShownStream). option_and_then (λ (w : User). only_if (w.is_active && is_some own) (Some (tt {0}))) person)
          (option_and_then (λ (v : Stream). only_if sees (Some (shown_stream v))) there)
          ≡ option_and_then (λ (o : Subscription). only_if (sees && option_map_or (λ (w : User). w.is_active) person false) (Some (tt {0}))) own
      go false None person own unseen_there = none own
      go true None person own unseen_there = absurd (true≢false (unseen_there refl))
      go false (Some v) person own unseen_there = none own
      go true (Some v) None own unseen_there = none own
      go true (Some v) (Some w) own unseen_there = one w.is_active own
