-- The definitions on a small realm: two users, a public stream and a shared one, both subscribed to both, and two messages.
use Rattle.std.specs.Prelude.{◌≡◌, true, false, List, [], ◌∷◌, map, fold, filter, length, ◌==◌, Option, None, Some, option_map, codes}
use Rattle.std.proofs.Common.{refl}
use Rattle.std.specs.Str.{chars}
use Rattle.ev_base.specs.Texts.{fault_of}
use Rattle.ev_base.specs.declared.ids.UserId.{UserId}
use Rattle.ev_base.specs.declared.ids.StreamId.{StreamId}
use Rattle.ev_base.specs.declared.ids.MessageId.{MessageId}
use Rattle.ev_base.specs.declared.kinds.Role.TheVariants as role
use Rattle.ev_base.specs.declared.kinds.Privacy.TheVariants as privacy
use Rattle.ev_base.specs.declared.kinds.Flag.TheVariants as flag
use Rattle.zr_types.specs.declared.command.NameField.TheVariants as field
use Rattle.zr_types.specs.declared.command.SubField.TheVariants as sub
use Rattle.zr_types.specs.declared.command.StreamRef.TheVariants as ref
use Rattle.zr_types.specs.declared.command.Mode.TheVariants.{Later, All}
use Rattle.zr_types.specs.declared.command.Command.{Command}
use Rattle.zr_types.specs.declared.command.Command.TheVariants.{People, Streams, Posts, Marks}
use Rattle.zr_types.specs.declared.command.PeopleCommand.TheVariants as of_people
use Rattle.zr_types.specs.declared.command.StreamCommand.TheVariants as of_streams
use Rattle.zr_types.specs.declared.command.PostCommand.TheVariants as of_posts
use Rattle.zr_types.specs.declared.command.MarkCommand.TheVariants as of_marks
use Rattle.zr_types.specs.declared.command.Refusal.{Refusal}
use Rattle.zr_types.specs.declared.command.Refusal.TheVariants.{ActorUnknown, NotPermitted, NoSuchUser, NoSuchStream, NoSuchMessage, NameTaken, AlreadySo, NotSo, BadText}
use Rattle.ev_base.specs.declared.place.Place.{Place}
use Rattle.ev_base.specs.declared.place.Place.TheVariants as place
use Rattle.zr_types.specs.Tables.{RealmState, message_at, opening_state, reaction_of, stream_at, subscription_of, user_at}
use Rattle.zr_types.specs.Visibility.{is_active_user, is_subscribed, role_of, sees_message, sees_stream}
use Rattle.zr_types.specs.Refusals.{refusal}
use Rattle.zr_types.specs.Effects.{after_command}
use Rattle.zr_types.specs.Checks.{ids_of, resolved, stored_texts}

abbrev pub ann : UserId
ann = record { 0 = 1 }

abbrev pub bob : UserId
bob = record { 0 = 2 }

abbrev pub nobody : UserId
nobody = record { 0 = 9 }

abbrev pub lab : StreamId
lab = record { 0 = 1 }

abbrev pub den : StreamId
den = record { 0 = 2 }

abbrev pub one : MessageId
one = record { 0 = 1 }

abbrev pub two : MessageId
two = record { 0 = 2 }

-- a command with its actor
abbrev pub Asked : Type 0
Asked = UserId × Command

abbrev pub sample : List Asked
sample =
    (record { 0 = 0 }, People (of_people.UserAdd (codes "ann@x.org") (codes "Ann") role.Owner (codes "k1")))
    ∷ (ann, People (of_people.UserAdd (codes "bob@x.org") (codes "Bob") role.Member (codes "k2")))
    ∷ (ann, Streams (of_streams.Create (codes "lab") [] privacy.Public))
    ∷ (ann, Streams (of_streams.Create (codes "den") [] privacy.Shared))
    ∷ (ann, Streams (of_streams.Subscribe lab bob))
    ∷ (ann, Streams (of_streams.Subscribe den bob))
    ∷ (ann, Posts (of_posts.SendStream (ref.Id lab) (codes "t") (codes "one")))
    ∷ (ann, Posts (of_posts.SendStream (ref.Name (codes "lab")) (codes "t") (codes "two")))
    ∷ []

abbrev pub with_asked : RealmState → Asked → RealmState
with_asked state asked = after_command asked.0 0 asked.1 state

-- the realm after the first n commands
abbrev pub after : List Asked → RealmState
after commands = fold with_asked opening_state commands

abbrev pub realm : RealmState
realm = after sample

-- none of the commands is refused
abbrev accepted_from : RealmState → List Asked → List (Option Refusal)
accepted_from state [] = []
accepted_from state (asked ∷ others) = refusal state asked.0 asked.1 ∷ accepted_from (with_asked state asked) others

all_accepted : accepted_from opening_state sample ≡ None ∷ None ∷ None ∷ None ∷ None ∷ None ∷ None ∷ None ∷ []
unfolding fault_of chars
all_accepted = refl

eight_commits : realm.commits ≡ 8
eight_commits = refl

two_sent : realm.sent ≡ 2
two_sent = refl

-- both see both streams, and nobody sees none
bob_sees_the_shared_stream : sees_stream realm.tables bob den ≡ true
bob_sees_the_shared_stream = refl

nobody_sees_no_stream : sees_stream realm.tables nobody lab ≡ false
nobody_sees_no_stream = refl

bob_sees_a_message : sees_message realm.tables bob two ≡ true
bob_sees_a_message = refl

nobody_sees_no_message : sees_message realm.tables nobody two ≡ false
nobody_sees_no_message = refl

-- the refusals of commands on this realm
abbrev refused : UserId → Command → Option Refusal
refused actor command = refusal realm actor command

unknown_actor : refused nobody (People (of_people.UserAdd (codes "a") (codes "b") role.Member (codes "k"))) ≡ Some ActorUnknown
unknown_actor = refl

others_edit : refused bob (Posts (of_posts.EditContent one (codes "x"))) ≡ Some NotPermitted
others_edit = refl

no_such_user : refused ann (Streams (of_streams.Subscribe lab nobody)) ≡ Some NoSuchUser
no_such_user = refl

no_such_stream : refused bob (Posts (of_posts.SendStream (ref.Name (codes "nope")) (codes "t") (codes "x"))) ≡ Some NoSuchStream
no_such_stream = refl

no_such_message : refused bob (Posts (of_posts.Delete (record { 0 = 9 }))) ≡ Some NoSuchMessage
no_such_message = refl

name_taken : refused bob (Streams (of_streams.Create (codes "lab") [] privacy.Public)) ≡ Some NameTaken
name_taken = refl

already_so : refused ann (People (of_people.UserUpdate ann (codes "Ann"))) ≡ Some AlreadySo
already_so = refl

not_so : refused bob (Marks (of_marks.ReactionRemove one (codes "tada"))) ≡ Some NotSo
not_so = refl

bad_text : refused bob (Streams (of_streams.SubProperty lab (sub.Color (codes "red")))) ≡ Some BadText
unfolding fault_of chars
bad_text = refl

flags_once : refused bob (Marks (of_marks.Flags true flag.Read (one ∷ two ∷ []))) ≡ None
flags_once = refl

flags_twice : refusal (with_asked realm (bob, Marks (of_marks.Flags true flag.Read (one ∷ two ∷ [])))) bob (Marks (of_marks.Flags true flag.Read (one ∷ two ∷ []))) ≡ Some AlreadySo
flags_twice = refl

-- what a command of an actor makes of this realm
abbrev pub made : UserId → Command → RealmState
made actor command = with_asked realm (actor, command)

abbrev pub gus : UserId
gus = record { 0 = 3 }

abbrev pub arc : StreamId
arc = record { 0 = 3 }

abbrev pub three : MessageId
three = record { 0 = 3 }

abbrev place_at : RealmState → MessageId → Option Place
place_at state message = option_map (λ row. row.place) (message_at state.tables message)

-- each command's effect
realm_update : (made ann (People (of_people.RealmUpdate field.Name (codes "New")))).tables.realm.name ≡ codes "New"
realm_update = refl

user_add : option_map (λ row. row.full_name) (user_at (made ann (People (of_people.UserAdd (codes "gus@x.org") (codes "Gus") role.Guest (codes "k3")))).tables gus) ≡ Some (codes "Gus")
user_add = refl

user_update : option_map (λ row. row.full_name) (user_at (made bob (People (of_people.UserUpdate bob (codes "Bo")))).tables bob) ≡ Some (codes "Bo")
user_update = refl

user_role : role_of (made ann (People (of_people.UserRole bob role.Guest))).tables bob ≡ Some role.Guest
user_role = refl

abbrev pub without_bob : RealmState
without_bob = made ann (People (of_people.UserDeactivate bob))

user_deactivate : is_active_user without_bob.tables bob ≡ false
user_deactivate = refl

user_reactivate : is_active_user (with_asked without_bob (ann, People (of_people.UserReactivate bob))).tables bob ≡ true
user_reactivate = refl

stream_create : is_subscribed (made bob (Streams (of_streams.Create (codes "arc") [] privacy.Protected))).tables bob arc ≡ true
stream_create = refl

stream_update : option_map (λ row. row.name) (stream_at (made ann (Streams (of_streams.Update den field.Name (codes "pit")))).tables den) ≡ Some (codes "pit")
stream_update = refl

stream_privacy : option_map (λ row. row.privacy) (stream_at (made ann (Streams (of_streams.SetPrivacy lab privacy.Shared))).tables lab) ≡ Some privacy.Shared
stream_privacy = refl

abbrev pub left : RealmState
left = made bob (Streams (of_streams.Unsubscribe den bob))

unsubscribe : is_subscribed left.tables bob den ≡ false
unsubscribe = refl

subscribe : subscription_of (with_asked left (ann, Streams (of_streams.Subscribe den bob))).tables bob den ≡ Some (record { color = codes "#c2c2c2"; is_muted = false; pin_to_top = false })
subscribe = refl

sub_property : option_map (λ row. row.is_muted) (subscription_of (made bob (Streams (of_streams.SubProperty den (sub.IsMuted true)))).tables bob den) ≡ Some true
sub_property = refl

abbrev with_third : RealmState
with_third = made bob (Posts (of_posts.SendStream (ref.Id den) (codes "u") (codes "three")))

send_stream : place_at with_third three ≡ Some (place.Stream den (codes "u"))
send_stream = refl

send_stream_receipts : map (λ row. row.1.read) (filter (λ row. row.0.0.0 == 3) with_third.tables.receipts) ≡ false ∷ true ∷ []
send_stream_receipts = refl

send_dm : place_at (made bob (Posts (of_posts.SendDm (ann ∷ ann ∷ []) (codes "psst")))) three ≡ Some (place.Direct (ann ∷ bob ∷ []))
send_dm = refl

edit_content : option_map (λ row. row.content) (message_at (made ann (Posts (of_posts.EditContent two (codes "2")))).tables two) ≡ Some (codes "2")
edit_content = refl

move_later : map (place_at (made ann (Posts (of_posts.Move two (Some den) None Later)))) (one ∷ two ∷ []) ≡ Some (place.Stream lab (codes "t")) ∷ Some (place.Stream den (codes "t")) ∷ []
move_later = refl

delete : length (made ann (Posts (of_posts.Delete one))).tables.receipts ≡ 2
delete = refl

flags : map (λ row. row.1.starred) (made bob (Marks (of_marks.Flags true flag.Starred (two ∷ [])))).tables.receipts
    ≡ false ∷ false ∷ false ∷ true ∷ []
flags = refl

abbrev pub with_reaction : RealmState
with_reaction = made bob (Marks (of_marks.ReactionAdd one (codes "tada")))

reaction_add : reaction_of with_reaction.tables bob one (codes "tada") ≡ Some tt
reaction_add = refl

reaction_remove : length (with_asked with_reaction (bob, Marks (of_marks.ReactionRemove one (codes "tada")))).tables.reactions ≡ 0
reaction_remove = refl

-- a guest sees a public stream only when subscribed
abbrev pub with_guest : RealmState
with_guest = made ann (People (of_people.UserAdd (codes "gus@x.org") (codes "Gus") role.Guest (codes "k3")))

guest_outside : sees_stream with_guest.tables gus lab ≡ false
guest_outside = refl

guest_subscribed : sees_stream (with_asked with_guest (ann, Streams (of_streams.Subscribe lab gus))).tables gus lab ≡ true
guest_subscribed = refl

-- a subscriber of a protected stream doesn't see what was sent before
abbrev pub with_protected : RealmState
with_protected =
    fold with_asked realm
    ((ann, Streams (of_streams.Create (codes "arc") [] privacy.Protected))
    ∷ (ann, Posts (of_posts.SendStream (ref.Id arc) (codes "u") (codes "three")))
    ∷ (ann, Streams (of_streams.Subscribe arc bob))
    ∷ [])

sender_sees : sees_message with_protected.tables ann three ≡ true
sender_sees = refl

late_subscriber : sees_message with_protected.tables bob three ≡ false
late_subscriber = refl

-- nobody sees an archived stream, nor its messages
abbrev pub archived : RealmState
archived = made ann (Streams (of_streams.Archive lab))

archived_stream : sees_stream archived.tables ann lab ≡ false
archived_stream = refl

archived_message : sees_message archived.tables ann one ≡ false
archived_message = refl

-- a direct message is seen by its sender and its recipients
abbrev pub direct : RealmState
direct = with_asked with_guest (bob, Posts (of_posts.SendDm (ann ∷ []) (codes "psst")))

seen_by : map (λ user. sees_message direct.tables user three) (ann ∷ bob ∷ gus ∷ nobody ∷ []) ≡ true ∷ true ∷ false ∷ false ∷ []
seen_by = refl

-- what a change holds besides its command
sent_ids : ids_of realm.tables bob (Posts (of_posts.SendStream (ref.Name (codes "lab")) (codes "u") (codes "x"))) ≡ 1 ∷ 2 ∷ []
sent_ids = refl

sent_texts : stored_texts realm.tables bob (Posts (of_posts.SendStream (ref.Name (codes "lab")) (codes "u") (codes "x"))) ≡ codes "u" ∷ codes "x" ∷ []
sent_texts = refl

named_by_number : resolved realm.tables bob (Posts (of_posts.SendStream (ref.Name (codes "lab")) (codes "u") (codes "x"))) ≡ Posts (of_posts.SendStream (ref.Id lab) (codes "u") (codes "x"))
named_by_number = refl

direct_ids : ids_of realm.tables bob (Posts (of_posts.SendDm (ann ∷ []) (codes "x"))) ≡ 1 ∷ 2 ∷ []
direct_ids = refl

moved_ids : ids_of realm.tables ann (Posts (of_posts.Move one (Some den) None All)) ≡ 1 ∷ 2 ∷ []
moved_ids = refl

moved_texts : stored_texts realm.tables ann (Posts (of_posts.Move one (Some den) None All)) ≡ codes "t" ∷ codes "t" ∷ []
moved_texts = refl

flagged_ids : ids_of realm.tables bob (Marks (of_marks.Flags true flag.Read (two ∷ one ∷ two ∷ []))) ≡ 1 ∷ 2 ∷ []
flagged_ids = refl
