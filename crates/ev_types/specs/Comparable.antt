-- When events can tell what differs between two views.
use Rattle.std.specs.Prelude.{◌≡◌, true, not, Some, is_some}
use Rattle.ev_rows.specs.Rows.{only_if, row_at, sift}
use Rattle.ev_base.specs.Orders.{message_cmp, reaction_cmp, stream_cmp, stream_user_cmp, user_cmp}
use Rattle.ev_base.specs.declared.ids.UserId.{UserId}
use Rattle.ev_base.specs.declared.ids.StreamId.{StreamId}
use Rattle.ev_base.specs.declared.ids.MessageId.{MessageId}
use Rattle.ev_base.specs.declared.place.Place.{Place}
use Rattle.ev_base.specs.declared.place.Place.TheVariants as place
use Rattle.ev_types.specs.declared.rows.ShownUser.{ShownUser}
use Rattle.ev_types.specs.declared.rows.ShownMessage.{ShownMessage}
use Rattle.ev_types.specs.Sections.{Sections, SectionsSorted, ReactionKey}

-- a view hangs together: starred and unread are as the flags say, and reactions, subscriptions and subscribers name rows that are there
pub record IsCoherent (view : Sections) : Type 0 where
  pub rises : SectionsSorted view
  pub starred : view.starred_messages ≡ sift (λ row. only_if row.1.flags.starred (Some tt)) view.messages
  pub unread : view.unread_messages ≡ sift (λ row. only_if (not row.1.flags.read) (Some row.1.place)) view.messages
  pub reactions : (key : ReactionKey) → is_some (row_at reaction_cmp view.reactions key) ≡ true → is_some (row_at message_cmp view.messages key.0) ≡ true
  pub subscriptions : (stream : StreamId) → is_some (row_at stream_cmp view.subscriptions stream) ≡ true → is_some (row_at stream_cmp view.streams stream) ≡ true
  pub subscribers : (key : StreamId × UserId) → is_some (row_at stream_user_cmp view.subscribers key) ≡ true → is_some (row_at stream_cmp view.streams key.0) ≡ true

-- the place of a direct message stays, and no other place becomes one
abbrev pub KeepsDirect : Place → Place → Type 0
KeepsDirect (place.Stream stream topic) (place.Stream other_stream other_topic) = Unit {0}
KeepsDirect before after = before ≡ after

-- the fields of a message that no event names
pub record SameMessage (before after : ShownMessage) : Type 0 where
  pub sender : after.sender ≡ before.sender
  pub timestamp : after.timestamp ≡ before.timestamp
  pub place : KeepsDirect before.place after.place

-- events can tell what differs between these views: both hang together, no user is lost, and what no event names stays
pub record Comparable (before after : Sections) : Type 0 where
  pub before_coheres : IsCoherent before
  pub after_coheres : IsCoherent after
  pub users : (user : UserId) (old : ShownUser) → row_at user_cmp before.realm_users user ≡ Some old →
      (new : ShownUser) × (row_at user_cmp after.realm_users user ≡ Some new) × (new.email ≡ old.email)
  pub messages : (message : MessageId) (old new : ShownMessage) → row_at message_cmp before.messages message ≡ Some old →
      row_at message_cmp after.messages message ≡ Some new → SameMessage old new
