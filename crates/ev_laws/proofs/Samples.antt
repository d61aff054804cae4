-- Facts that compute on small views: one for each of the eleven places of the order of events.
use Rattle.std.proofs.Common.{◌≡◌, ℕ, Bool, true, false, codes, List, [], ◌∷◌, refl}
use Rattle.ev_base.specs.declared.ids.UserId.{UserId}
use Rattle.ev_base.specs.declared.ids.StreamId.{StreamId}
use Rattle.ev_base.specs.declared.ids.MessageId.{MessageId}
use Rattle.ev_base.specs.declared.kinds.Flag.TheVariants as flag
use Rattle.ev_base.specs.declared.kinds.Role.{Role}
use Rattle.ev_base.specs.declared.kinds.Role.TheVariants.{Member, Guest}
use Rattle.ev_base.specs.declared.place.Place.TheVariants as place
use Rattle.ev_types.specs.declared.rows.ShownRealm.{ShownRealm}
use Rattle.ev_types.specs.declared.rows.ShownUser.{ShownUser}
use Rattle.ev_types.specs.declared.rows.ShownStream.{ShownStream}
use Rattle.ev_types.specs.declared.rows.ShownSubscription.{ShownSubscription}
use Rattle.ev_types.specs.declared.rows.MessageFlags.{MessageFlags}
use Rattle.ev_types.specs.declared.rows.ShownMessage.{ShownMessage}
use Rattle.ev_types.specs.declared.event.RealmField.TheVariants as realm_field
use Rattle.ev_types.specs.declared.event.UserField.TheVariants as user_field
use Rattle.ev_types.specs.declared.event.StreamField.TheVariants as stream_field
use Rattle.ev_types.specs.declared.event.SubscriptionField.TheVariants as subscription_field
use Rattle.ev_types.specs.declared.event.FullMessage.{FullMessage}
use Rattle.ev_types.specs.declared.event.Event.TheVariants.{RealmUpdate, UserAdd, UserChange, StreamCreate, StreamChange, StreamDelete, SubAdd, SubChange, SubRemove, PeerAdd, PeerRemove, MessageNew, MessagesRestored, MessageMoved, MessageEdited, Flags, MessageGone, ReactionAdd, ReactionRemove}
use Rattle.ev_types.specs.Sections.{Sections, ReactionKey}
use Rattle.ev_types.specs.Changes.{changes_between, realm_changes, user_events, stream_events, subscription_events, Peers}

abbrev user : ℕ → UserId
user n = record { 0 = n }

abbrev stream : ℕ → StreamId
stream n = record { 0 = n }

abbrev message : ℕ → MessageId
message n = record { 0 = n }

-- 1. the realm: name, then description
abbrev realm : List ℕ → List ℕ → ShownRealm
realm name description = record { name = name; description = description }

pub a_name_comes_before_a_description : realm_changes (realm (codes "Zulip") (codes "chat")) (realm (codes "Acme") (codes "all"))
    ≡ RealmUpdate (realm_field.Name (codes "Acme")) ∷ RealmUpdate (realm_field.Description (codes "all")) ∷ []
a_name_comes_before_a_description = refl

pub a_realm_that_stays_is_not_told : realm_changes (realm (codes "Zulip") (codes "chat")) (realm (codes "Zulip") (codes "chat")) ≡ []
a_realm_that_stays_is_not_told = refl

-- 2. new users, then changes
abbrev ann : List ℕ → Role → Bool → ShownUser
ann full_name rank is_active = record { email = codes "a@x.org"; full_name = full_name; role = rank; is_active = is_active }

pub new_users_come_before_changes :
    user_events ((user 1, ann (codes "Ann") Member true) ∷ []) ((user 1, ann (codes "Anna") Guest false) ∷ (user 2, ann (codes "Bo") Member true) ∷ [])
    ≡ UserAdd (user 2) (ann (codes "Bo") Member true) ∷ UserChange (user 1) (user_field.FullName (codes "Anna")) ∷ UserChange (user 1) (user_field.Role Guest) ∷ UserChange (user 1) (user_field.IsActive false) ∷ []
new_users_come_before_changes = refl

-- 3. new streams at once, then changes, then lost streams at once
abbrev stream_named : List ℕ → Bool → ShownStream
stream_named name invite_only = record { name = name; description = []; invite_only = invite_only; history_public_to_subscribers = true }

pub streams_are_created_changed_and_deleted :
    stream_events ((stream 1, stream_named (codes "a") false) ∷ (stream 2, stream_named (codes "b") false) ∷ (stream 3, stream_named (codes "c") false) ∷ [])
    ((stream 2, stream_named (codes "d") true) ∷ (stream 4, stream_named (codes "e") false) ∷ (stream 5, stream_named (codes "f") false) ∷ [])
    ≡ StreamCreate ((stream 4, stream_named (codes "e") false) ∷ (stream 5, stream_named (codes "f") false) ∷ [])
    ∷ StreamChange (stream 2) (stream_field.Name (codes "d")) ∷ StreamChange (stream 2) (stream_field.InviteOnly true) ∷ StreamDelete (stream 1 ∷ stream 3 ∷ []) ∷ []
streams_are_created_changed_and_deleted = refl

-- 4. subscriptions in the same way
abbrev colored : List ℕ → Bool → Bool → ShownSubscription
colored color is_muted pin_to_top = record { color = color; is_muted = is_muted; pin_to_top = pin_to_top }

pub subscriptions_are_added_changed_and_removed :
    subscription_events ((stream 1, colored (codes "#000000") false false) ∷ (stream 2, colored (codes "#000000") false false) ∷ []) ((stream 2, colored (codes "#ffffff") true true) ∷ (stream 3, colored (codes "#000000") false false) ∷ [])
    ≡ SubAdd ((stream 3, colored (codes "#000000") false false) ∷ []) ∷ SubChange (stream 2) (subscription_field.Color (codes "#ffffff")) ∷ SubChange (stream 2) (subscription_field.IsMuted true)
    ∷ SubChange (stream 2) (subscription_field.PinToTop true) ∷ SubRemove (stream 1 ∷ []) ∷ []
subscriptions_are_added_changed_and_removed = refl

-- views with streams, subscribers, messages and reactions alone
abbrev view : List (StreamId × ShownStream) → Peers → List (MessageId × ShownMessage) → List (ReactionKey × Unit {0}) → Sections
view streams subscribers messages reactions = record {
  realm = realm (codes "Zulip") [];
  realm_users = [];
  streams = streams;
  subscriptions = [];
  subscribers = subscribers;
  messages = messages;
  reactions = reactions;
  starred_messages = [];
  unread_messages = [];
}

-- 5. who joined, then who left, by stream; those of a lost stream aren't told
abbrev two_streams : List (StreamId × ShownStream)
two_streams = (stream 1, stream_named (codes "a") false) ∷ (stream 2, stream_named (codes "b") false) ∷ []

pub peers_join_and_leave_by_stream :
    changes_between (view two_streams (((stream 1, user 1), tt) ∷ ((stream 2, user 2), tt) ∷ []) [] []) (view two_streams (((stream 1, user 2), tt) ∷ ((stream 1, user 3), tt) ∷ ((stream 2, user 1), tt) ∷ []) [] [])
    ≡ PeerAdd (stream 1) (user 2 ∷ user 3 ∷ []) ∷ PeerAdd (stream 2) (user 1 ∷ []) ∷ PeerRemove (stream 1) (user 1 ∷ []) ∷ PeerRemove (stream 2) (user 2 ∷ []) ∷ []
peers_join_and_leave_by_stream = refl

pub peers_of_a_lost_stream_are_not_told :
    changes_between (view two_streams (((stream 1, user 1), tt) ∷ ((stream 2, user 2), tt) ∷ []) [] []) (view ((stream 1, stream_named (codes "a") false) ∷ []) (((stream 1, user 1), tt) ∷ []) [] []) ≡ StreamDelete (stream 2 ∷ []) ∷ []
peers_of_a_lost_stream_are_not_told = refl

-- messages
abbrev flagged : Bool → Bool → Bool → MessageFlags
flagged read starred collapsed = record { read = read; starred = starred; collapsed = collapsed }

abbrev said : ℕ → List ℕ → List ℕ → MessageFlags → ShownMessage
said where_said topic content flags = record { sender = user 1; place = place.Stream (stream where_said) topic; content = content; timestamp = 7; flags = flags }

abbrev plain : List ℕ → ShownMessage
plain content = said 1 (codes "t") content (flagged false false false)

abbrev full : ℕ → List ℕ → List (UserId × List ℕ) → FullMessage
full n content reactions = record { message = message n; row = plain content; reactions = reactions }

-- 6. one new message alone, or several restored, with their reactions
pub a_new_message_brings_its_reactions :
    changes_between (view [] [] [] []) (view [] [] ((message 1, plain (codes "a")) ∷ []) (((message 1, user 2, codes "tada"), tt) ∷ [])) ≡ MessageNew (full 1 (codes "a") ((user 2, codes "tada") ∷ [])) ∷ []
a_new_message_brings_its_reactions = refl

pub several_new_messages_are_restored :
    changes_between (view [] [] [] []) (view [] [] ((message 1, plain (codes "a")) ∷ (message 2, plain (codes "b")) ∷ []) []) ≡ MessagesRestored (full 1 (codes "a") [] ∷ full 2 (codes "b") [] ∷ []) ∷ []
several_new_messages_are_restored = refl

-- 7. moves together by new place, by stream and then by topic
abbrev at : ℕ → ℕ → List ℕ → MessageId × ShownMessage
at n where_at topic = (message n, said where_at topic (codes "a") (flagged false false false))

pub moves_are_told_by_new_place :
    changes_between (view [] [] (at 1 1 (codes "t") ∷ at 2 1 (codes "t") ∷ at 3 1 (codes "t") ∷ at 4 1 (codes "t") ∷ []) [])
    (view [] [] (at 1 2 (codes "v") ∷ at 2 1 (codes "z") ∷ at 3 2 (codes "u") ∷ at 4 2 (codes "v") ∷ []) [])
    ≡ MessageMoved (message 2 ∷ []) (stream 1) (codes "z") ∷ MessageMoved (message 3 ∷ []) (stream 2) (codes "u") ∷ MessageMoved (message 1 ∷ message 4 ∷ []) (stream 2) (codes "v") ∷ []
moves_are_told_by_new_place = refl

-- 8. edits
pub edits_are_told_by_message :
    changes_between (view [] [] ((message 1, plain (codes "a")) ∷ (message 2, plain (codes "b")) ∷ (message 3, plain (codes "c")) ∷ []) [])
    (view [] [] ((message 1, plain (codes "x")) ∷ (message 2, plain (codes "b")) ∷ (message 3, plain (codes "z")) ∷ []) []) ≡ MessageEdited (message 1) (codes "x") ∷ MessageEdited (message 3) (codes "z") ∷ []
edits_are_told_by_message = refl

-- 9. flags: of each those added and then those removed, with details where messages are unread again
abbrev marked : ℕ → Bool → Bool → Bool → MessageId × ShownMessage
marked n read starred collapsed = (message n, said 1 (codes "t") (codes "a") (flagged read starred collapsed))

pub flags_are_told_in_turn :
    changes_between (view [] [] (marked 1 false true false ∷ marked 2 true false true ∷ []) []) (view [] [] (marked 1 true false true ∷ marked 2 false true false ∷ []) [])
    ≡ Flags (record { flag = flag.Read; add = true; messages = message 1 ∷ []; details = [] })
    ∷ Flags (record { flag = flag.Read; add = false; messages = message 2 ∷ []; details = (message 2, place.Stream (stream 1) (codes "t")) ∷ [] })
    ∷ Flags (record { flag = flag.Starred; add = true; messages = message 2 ∷ []; details = [] })
    ∷ Flags (record { flag = flag.Starred; add = false; messages = message 1 ∷ []; details = [] })
    ∷ Flags (record { flag = flag.Collapsed; add = true; messages = message 1 ∷ []; details = [] })
    ∷ Flags (record { flag = flag.Collapsed; add = false; messages = message 2 ∷ []; details = [] }) ∷ []
flags_are_told_in_turn = refl

-- 10. reactions to messages that stand in both
pub reactions_are_added_and_then_removed :
    changes_between (view [] [] ((message 1, plain (codes "a")) ∷ []) (((message 1, user 1, codes "tada"), tt) ∷ [])) (view [] [] ((message 1, plain (codes "a")) ∷ []) (((message 1, user 2, codes "heart"), tt) ∷ []))
    ≡ ReactionAdd (message 1) (user 2) (codes "heart") ∷ ReactionRemove (message 1) (user 1) (codes "tada") ∷ []
reactions_are_added_and_then_removed = refl

-- 11. lost messages at once, without their reactions
pub lost_messages_are_told_at_once :
    changes_between (view [] [] ((message 1, plain (codes "a")) ∷ (message 2, plain (codes "b")) ∷ []) (((message 1, user 1, codes "tada"), tt) ∷ [])) (view [] [] [] []) ≡ MessageGone (message 1 ∷ message 2 ∷ []) ∷ []
lost_messages_are_told_at_once = refl
