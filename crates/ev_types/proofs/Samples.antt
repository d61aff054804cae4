-- Facts that compute, on small lists: what each kind of write does, and what events do in each section.
use Rattle.std.proofs.Common.{◌≡◌, ℕ, Bool, true, false, codes, None, List, [], ◌∷◌, refl}
use Rattle.ev_base.specs.declared.ids.UserId.{UserId}
use Rattle.ev_base.specs.declared.ids.StreamId.{StreamId}
use Rattle.ev_base.specs.declared.ids.MessageId.{MessageId}
use Rattle.ev_base.specs.declared.kinds.Flag.TheVariants.{Read, Starred}
use Rattle.ev_base.specs.declared.kinds.Role.TheVariants.{Member, Guest}
use Rattle.ev_base.specs.declared.place.Place.{Place}
use Rattle.ev_base.specs.declared.place.Place.TheVariants as place
use Rattle.ev_types.specs.declared.rows.ShownRealm.{ShownRealm}
use Rattle.ev_types.specs.declared.rows.ShownUser.{ShownUser}
use Rattle.ev_types.specs.declared.rows.ShownStream.{ShownStream}
use Rattle.ev_types.specs.declared.rows.ShownSubscription.{ShownSubscription}
use Rattle.ev_types.specs.declared.rows.MessageFlags.{MessageFlags}
use Rattle.ev_types.specs.declared.rows.ShownMessage.{ShownMessage}
use Rattle.ev_types.specs.declared.event.RealmField.TheVariants as realm_field
use Rattle.ev_types.specs.declared.event.UserField.TheVariants as user_field
use Rattle.ev_types.specs.declared.event.StreamField.TheVariants as stream_field
use Rattle.ev_types.specs.declared.event.SubscriptionField.TheVariants as subscription_field
use Rattle.ev_types.specs.declared.event.FullMessage.{FullMessage}
use Rattle.ev_types.specs.declared.event.Event.{Event}
use Rattle.ev_types.specs.declared.event.Event.TheVariants.{RealmUpdate, UserAdd, UserChange, StreamCreate, StreamChange, StreamDelete, SubAdd, SubChange, SubRemove, PeerAdd, PeerRemove, MessageNew, MessagesRestored, MessageMoved, MessageEdited, Flags, MessageGone, ReactionAdd, ReactionRemove, Heartbeat}
use Rattle.ev_types.specs.declared.section.Section.TheVariants as section
use Rattle.ev_types.specs.declared.kind.EventKind.TheVariants as kind
use Rattle.ev_types.specs.declared.kind.Types.TheVariants.{All, Only}
use Rattle.ev_types.specs.declared.notice.Audience.TheVariants as audience
use Rattle.ev_types.specs.declared.notice.Notice.{Notice}
use Rattle.ev_types.specs.Sections.{ReactionKey}
use Rattle.ev_types.specs.Writes.{put, patch, drop_row, drop_under, after_writes}
use Rattle.ev_types.specs.EventWrites.{user_rules, user_writes, stream_rules, stream_writes, subscription_rules, subscription_writes, subscriber_rules, subscriber_writes, message_rules, message_writes, reaction_rules, reaction_writes, starred_rules, starred_writes, unread_rules, unread_writes}
use Rattle.ev_types.specs.Applying.{realm_applied, rows_applied}
use Rattle.ev_types.specs.Feeders.{covers}
use Rattle.ev_types.specs.Audiences.{events_for}

abbrev user : ℕ → UserId
user n = record { 0 = n }

abbrev stream : ℕ → StreamId
stream n = record { 0 = n }

abbrev message : ℕ → MessageId
message n = record { 0 = n }

-- the kinds of writes, on subscribers and on unread messages
abbrev in_topic : List ℕ → Place
in_topic topic = place.Stream (stream 1) topic

pub a_put_stands_in_order : after_writes unread_rules ((message 1, in_topic (codes "a")) ∷ (message 3, in_topic (codes "c")) ∷ []) (put (message 2) (in_topic (codes "b")) ∷ [])
    ≡ (message 1, in_topic (codes "a")) ∷ (message 2, in_topic (codes "b")) ∷ (message 3, in_topic (codes "c")) ∷ []
a_put_stands_in_order = refl

pub a_put_replaces_the_row : after_writes unread_rules ((message 1, in_topic (codes "a")) ∷ []) (put (message 1) (in_topic (codes "b")) ∷ []) ≡ (message 1, in_topic (codes "b")) ∷ []
a_put_replaces_the_row = refl

pub a_patch_sets_a_field : after_writes unread_rules ((message 1, in_topic (codes "a")) ∷ []) (patch (message 1) (in_topic (codes "b")) ∷ []) ≡ (message 1, in_topic (codes "b")) ∷ []
a_patch_sets_a_field = refl

pub a_patch_of_an_absent_key_does_nothing : after_writes unread_rules ((message 1, in_topic (codes "a")) ∷ []) (patch (message 2) (in_topic (codes "b")) ∷ []) ≡ (message 1, in_topic (codes "a")) ∷ []
a_patch_of_an_absent_key_does_nothing = refl

pub a_drop_leaves_the_others : after_writes subscriber_rules (((stream 1, user 1), tt) ∷ ((stream 1, user 2), tt) ∷ []) (drop_row (stream 1, user 1) ∷ []) ≡ ((stream 1, user 2), tt) ∷ []
a_drop_leaves_the_others = refl

pub a_drop_of_a_prefix_leaves_the_others : after_writes subscriber_rules (((stream 1, user 2), tt) ∷ ((stream 2, user 1), tt) ∷ ((stream 2, user 2), tt) ∷ []) (drop_under (stream 2) ∷ [])
    ≡ ((stream 1, user 2), tt) ∷ []
a_drop_of_a_prefix_leaves_the_others = refl

pub writes_are_done_in_order : after_writes subscriber_rules [] (put (stream 1, user 1) tt ∷ drop_under (stream 1) ∷ put (stream 1, user 2) tt ∷ []) ≡ ((stream 1, user 2), tt) ∷ []
writes_are_done_in_order = refl

-- the realm
abbrev realm_named : List ℕ → ShownRealm
realm_named name = record { name = name; description = codes "all of us" }

pub the_realm_is_renamed : realm_applied (RealmUpdate (realm_field.Name (codes "Acme")) ∷ Heartbeat ∷ []) (realm_named (codes "Zulip")) ≡ realm_named (codes "Acme")
the_realm_is_renamed = refl

-- users
abbrev ann : List ℕ → Bool → ShownUser
ann full_name is_active = record { email = codes "ann@x.org"; full_name = full_name; role = Member; is_active = is_active }

pub a_user_is_added_and_changed :
    rows_applied user_rules user_writes (UserAdd (user 2) (ann (codes "Ann") true) ∷ UserChange (user 2) (user_field.FullName (codes "Anna")) ∷ UserChange (user 2) (user_field.IsActive false) ∷ []) []
    ≡ (user 2, ann (codes "Anna") false) ∷ []
a_user_is_added_and_changed = refl

pub a_change_of_an_absent_user_does_nothing :
    rows_applied user_rules user_writes (UserChange (user 3) (user_field.Role Guest) ∷ []) ((user 2, ann (codes "Ann") true) ∷ []) ≡ (user 2, ann (codes "Ann") true) ∷ []
a_change_of_an_absent_user_does_nothing = refl

-- streams
abbrev stream_named : List ℕ → Bool → ShownStream
stream_named name invite_only = record { name = name; description = []; invite_only = invite_only; history_public_to_subscribers = true }

pub streams_are_created_changed_and_deleted :
    rows_applied stream_rules stream_writes
    (StreamCreate ((stream 1, stream_named (codes "all") false) ∷ (stream 2, stream_named (codes "rust") false) ∷ []) ∷ StreamChange (stream 2) (stream_field.InviteOnly true) ∷ StreamDelete (stream 1 ∷ []) ∷ [])
    []
    ≡ (stream 2, stream_named (codes "rust") true) ∷ []
streams_are_created_changed_and_deleted = refl

-- subscriptions
abbrev colored : List ℕ → Bool → ShownSubscription
colored color pin_to_top = record { color = color; is_muted = false; pin_to_top = pin_to_top }

pub subscriptions_are_added_changed_and_removed :
    rows_applied subscription_rules subscription_writes
    (SubAdd ((stream 1, colored (codes "#c2c2c2") false) ∷ (stream 2, colored (codes "#c2c2c2") false) ∷ []) ∷ SubChange (stream 1) (subscription_field.PinToTop true) ∷ SubRemove (stream 2 ∷ []) ∷ []) []
    ≡ (stream 1, colored (codes "#c2c2c2") true) ∷ []
subscriptions_are_added_changed_and_removed = refl

-- subscribers
pub subscribers_come_and_go :
    rows_applied subscriber_rules subscriber_writes (PeerAdd (stream 2) (user 1 ∷ user 2 ∷ []) ∷ PeerAdd (stream 1) (user 1 ∷ []) ∷ PeerRemove (stream 2) (user 1 ∷ []) ∷ []) []
    ≡ ((stream 1, user 1), tt) ∷ ((stream 2, user 2), tt) ∷ []
subscribers_come_and_go = refl

pub a_deleted_stream_takes_its_subscribers :
    rows_applied subscriber_rules subscriber_writes (StreamDelete (stream 2 ∷ []) ∷ []) (((stream 1, user 1), tt) ∷ ((stream 2, user 1), tt) ∷ ((stream 2, user 2), tt) ∷ []) ≡ ((stream 1, user 1), tt) ∷ []
a_deleted_stream_takes_its_subscribers = refl

-- messages: the second one is starred, the first one isn't read
abbrev flagged : Bool → Bool → MessageFlags
flagged read starred = record { read = read; starred = starred; collapsed = false }

abbrev said : Place → List ℕ → MessageFlags → ShownMessage
said where_said content flags = record { sender = user 1; place = where_said; content = content; timestamp = 7; flags = flags }

abbrev first : FullMessage
first = record { message = message 1; row = said (in_topic (codes "t")) (codes "hello") (flagged false false); reactions = (user 1, codes "tada") ∷ (user 2, codes "heart") ∷ [] }

abbrev second : FullMessage
second = record { message = message 2; row = said (place.Direct (user 1 ∷ user 2 ∷ [])) (codes "psst") (flagged true true); reactions = [] }

abbrev both : List Event
both = MessageNew first ∷ MessagesRestored (second ∷ []) ∷ []

abbrev first_reaction : ReactionKey
first_reaction = (message 1, user 1, codes "tada")

abbrev second_reaction : ReactionKey
second_reaction = (message 1, user 2, codes "heart")

abbrev flag_event : Event
flag_event = Flags (record { flag = Starred; add = true; messages = message 1 ∷ []; details = [] })

abbrev unread_event : Event
unread_event = Flags (record { flag = Read; add = false; messages = message 2 ∷ []; details = (message 2, second.row.place) ∷ [] })

abbrev read_event : Event
read_event = Flags (record { flag = Read; add = true; messages = message 1 ∷ []; details = [] })

pub messages_are_added : rows_applied message_rules message_writes both [] ≡ (message 1, first.row) ∷ (message 2, second.row) ∷ []
messages_are_added = refl

pub a_message_is_moved_edited_and_flagged :
    rows_applied message_rules message_writes (MessageMoved (message 1 ∷ []) (stream 1) (codes "u") ∷ MessageEdited (message 1) (codes "bye") ∷ flag_event ∷ MessageGone (message 2 ∷ []) ∷ [])
    ((message 1, first.row) ∷ (message 2, second.row) ∷ [])
    ≡ (message 1, said (in_topic (codes "u")) (codes "bye") (flagged false true)) ∷ []
a_message_is_moved_edited_and_flagged = refl

-- reactions
pub a_new_message_brings_its_reactions : rows_applied reaction_rules reaction_writes both [] ≡ (first_reaction, tt) ∷ (second_reaction, tt) ∷ []
a_new_message_brings_its_reactions = refl

pub reactions_come_and_go :
    rows_applied reaction_rules reaction_writes (ReactionRemove (message 1) (user 1) (codes "tada") ∷ ReactionAdd (message 1) (user 2) (codes "heart") ∷ []) ((first_reaction, tt) ∷ [])
    ≡ (second_reaction, tt) ∷ []
reactions_come_and_go = refl

pub a_message_that_is_gone_takes_its_reactions :
    rows_applied reaction_rules reaction_writes (MessageGone (message 1 ∷ []) ∷ []) ((first_reaction, tt) ∷ (second_reaction, tt) ∷ ((message 2, user 1, codes "tada"), tt) ∷ [])
    ≡ ((message 2, user 1, codes "tada"), tt) ∷ []
a_message_that_is_gone_takes_its_reactions = refl

-- starred messages
pub a_new_message_is_starred_where_its_flags_say_so : rows_applied starred_rules starred_writes both [] ≡ (message 2, tt) ∷ []
a_new_message_is_starred_where_its_flags_say_so = refl

pub a_message_is_starred : rows_applied starred_rules starred_writes (flag_event ∷ read_event ∷ []) ((message 2, tt) ∷ []) ≡ (message 1, tt) ∷ (message 2, tt) ∷ []
a_message_is_starred = refl

pub a_message_is_no_longer_starred :
    rows_applied starred_rules starred_writes (Flags (record { flag = Starred; add = false; messages = message 2 ∷ []; details = [] }) ∷ []) ((message 2, tt) ∷ []) ≡ []
a_message_is_no_longer_starred = refl

-- unread messages
pub a_new_message_is_unread_where_its_flags_say_so : rows_applied unread_rules unread_writes both [] ≡ (message 1, first.row.place) ∷ []
a_new_message_is_unread_where_its_flags_say_so = refl

pub a_message_is_read : rows_applied unread_rules unread_writes (read_event ∷ flag_event ∷ []) ((message 1, first.row.place) ∷ []) ≡ []
a_message_is_read = refl

pub a_message_is_unread_again_at_the_place_of_the_details :
    rows_applied unread_rules unread_writes (unread_event ∷ MessageMoved (message 1 ∷ message 3 ∷ []) (stream 1) (codes "u") ∷ []) ((message 1, first.row.place) ∷ [])
    ≡ (message 1, in_topic (codes "u")) ∷ (message 2, second.row.place) ∷ []
a_message_is_unread_again_at_the_place_of_the_details = refl

-- what a queue's types cover
pub subscribers_need_both_feeders : covers (Only (kind.Subscription ∷ kind.Realm ∷ [])) section.Subscribers ≡ false
subscribers_need_both_feeders = refl

pub both_feeders_cover_subscribers : covers (Only (kind.Subscription ∷ kind.Stream ∷ [])) section.Subscribers ≡ true
both_feeders_cover_subscribers = refl

pub all_types_cover_messages : covers All section.Messages ≡ true
all_types_cover_messages = refl

-- who hears what: everyone, the first user alone, the others alone
abbrev three_parts : Notice
three_parts = record {
  number = 1;
  ends = None;
  parts = record { audience = audience.Everyone; event = Heartbeat }
      ∷ record { audience = audience.Only (user 1 ∷ []); event = StreamDelete (stream 1 ∷ []) }
      ∷ record { audience = audience.Only (user 2 ∷ user 3 ∷ []); event = PeerRemove (stream 1) (user 1 ∷ []) }
      ∷ [];
}

pub the_first_user_hears_two_parts : events_for (user 1) three_parts ≡ Heartbeat ∷ StreamDelete (stream 1 ∷ []) ∷ []
the_first_user_hears_two_parts = refl

pub an_unknown_user_hears_what_everyone_does : events_for (user 9) three_parts ≡ Heartbeat ∷ []
an_unknown_user_hears_what_everyone_does = refl
