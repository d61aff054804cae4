-- The sections of the small realm's view, as its two users see them, and as somebody does who isn't there.
use Rattle.std.specs.Prelude.{◌≡◌, Bool, true, false, [], ◌∷◌, map, ⊤, codes}
use Rattle.std.proofs.Common.{refl}
use Rattle.ev_base.specs.declared.ids.UserId.{UserId}
use Rattle.ev_base.specs.declared.ids.StreamId.{StreamId}
use Rattle.ev_base.specs.declared.ids.MessageId.{MessageId}
use Rattle.ev_base.specs.declared.kinds.Flag.TheVariants as flag
use Rattle.ev_base.specs.declared.kinds.Role.TheVariants as role
use Rattle.ev_base.specs.declared.place.Place.{Place}
use Rattle.ev_base.specs.declared.place.Place.TheVariants as place
use Rattle.ev_types.specs.declared.rows.ShownUser.{ShownUser}
use Rattle.ev_types.specs.declared.rows.ShownStream.{ShownStream}
use Rattle.ev_types.specs.declared.rows.ShownSubscription.{ShownSubscription}
use Rattle.ev_types.specs.declared.rows.ShownMessage.{ShownMessage}
use Rattle.zr_types.specs.declared.command.Command.TheVariants.{Marks}
use Rattle.zr_types.specs.declared.command.MarkCommand.TheVariants as of_marks
use Rattle.zr_types.specs.Tables.{RealmState}
use Rattle.zr_types.proofs.Samples.{ann, archived, bob, den, direct, gus, lab, left, made, nobody, one, realm, three, two, with_guest, with_protected, with_reaction, without_bob}
use Rattle.zw_views.specs.Views.{messages, reactions, realm_users, shown_realm, starred_messages, streams, subscribers, subscriptions, unread_messages}

-- the realm's name and all users are shown to everybody
the_realm : shown_realm realm.tables.realm ≡ record { name = codes "Realm"; description = [] }
the_realm = refl

abbrev shown_ann : UserId × ShownUser
shown_ann = (ann, record { email = codes "ann@x.org"; full_name = codes "Ann"; role = role.Owner; is_active = true })

abbrev shown_bob : Bool → UserId × ShownUser
shown_bob active = (bob, record { email = codes "bob@x.org"; full_name = codes "Bob"; role = role.Member; is_active = active })

max_users : realm_users realm.tables ≡ shown_ann ∷ shown_bob true ∷ []
max_users = refl

an_inactive_user : realm_users without_bob.tables ≡ shown_ann ∷ shown_bob false ∷ []
an_inactive_user = refl

-- both see both streams, and nobody sees none
abbrev shown_lab : StreamId × ShownStream
shown_lab = (lab, record { name = codes "lab"; description = []; invite_only = false; history_public_to_subscribers = true })

abbrev shown_den : StreamId × ShownStream
shown_den = (den, record { name = codes "den"; description = []; invite_only = true; history_public_to_subscribers = true })

streams_of_ann : streams realm.tables ann ≡ shown_lab ∷ shown_den ∷ []
streams_of_ann = refl

streams_of_bob : streams realm.tables bob ≡ shown_lab ∷ shown_den ∷ []
streams_of_bob = refl

streams_of_nobody : streams realm.tables nobody ≡ []
streams_of_nobody = refl

-- one who left a shared stream doesn't see it, and nobody sees an archived one
streams_after_leaving : streams left.tables bob ≡ shown_lab ∷ []
streams_after_leaving = refl

streams_after_archiving : streams archived.tables ann ≡ shown_den ∷ []
streams_after_archiving = refl

streams_of_a_guest : streams with_guest.tables gus ≡ []
streams_of_a_guest = refl

abbrev plain : ShownSubscription
plain = record { color = codes "#c2c2c2"; is_muted = false; pin_to_top = false }

subscriptions_of_bob : subscriptions realm.tables bob ≡ (lab, plain) ∷ (den, plain) ∷ []
subscriptions_of_bob = refl

subscriptions_after_leaving : subscriptions left.tables bob ≡ (lab, plain) ∷ []
subscriptions_after_leaving = refl

subscriptions_of_nobody : subscriptions realm.tables nobody ≡ []
subscriptions_of_nobody = refl

-- the subscribers of the streams that one sees, without those who aren't active
abbrev peer : StreamId → UserId → (StreamId × UserId) × ⊤
peer stream user = ((stream, user), tt)

subscribers_for_bob : subscribers realm.tables bob ≡ peer lab ann ∷ peer lab bob ∷ peer den ann ∷ peer den bob ∷ []
subscribers_for_bob = refl

subscribers_after_leaving : subscribers left.tables bob ≡ peer lab ann ∷ peer lab bob ∷ []
subscribers_after_leaving = refl

subscribers_without_bob : subscribers without_bob.tables ann ≡ peer lab ann ∷ peer den ann ∷ []
subscribers_without_bob = refl

subscribers_for_nobody : subscribers realm.tables nobody ≡ []
subscribers_for_nobody = refl

-- messages with the reader's own flags: what one sent is read
abbrev in_lab : Place
in_lab = place.Stream lab (codes "t")

abbrev shown_one : Bool → MessageId × ShownMessage
shown_one read = (one, record { sender = ann; place = in_lab; content = codes "one"; timestamp = 0; flags = record { read = read; starred = false; collapsed = false } })

abbrev shown_two : Bool → MessageId × ShownMessage
shown_two read = (two, record { sender = ann; place = in_lab; content = codes "two"; timestamp = 0; flags = record { read = read; starred = false; collapsed = false } })

messages_of_ann : messages realm.tables ann ≡ shown_one true ∷ shown_two true ∷ []
messages_of_ann = refl

messages_of_bob : messages realm.tables bob ≡ shown_one false ∷ shown_two false ∷ []
messages_of_bob = refl

messages_of_nobody : messages realm.tables nobody ≡ []
messages_of_nobody = refl

-- a late subscriber of a protected stream has what came afterwards alone; a direct message is its own people's
messages_of_a_late_subscriber : messages with_protected.tables bob ≡ shown_one false ∷ shown_two false ∷ []
messages_of_a_late_subscriber = refl

direct_to_ann : map (λ row. row.0) (messages direct.tables ann) ≡ one ∷ two ∷ three ∷ []
direct_to_ann = refl

not_to_gus : messages direct.tables gus ≡ []
not_to_gus = refl

unread_of_bob : unread_messages realm.tables bob ≡ (one, in_lab) ∷ (two, in_lab) ∷ []
unread_of_bob = refl

unread_of_ann : unread_messages realm.tables ann ≡ []
unread_of_ann = refl

abbrev flagged : RealmState
flagged = made bob (Marks (of_marks.Flags true flag.Starred (two ∷ [])))

starred_of_bob : starred_messages flagged.tables bob ≡ (two, tt) ∷ []
starred_of_bob = refl

starred_of_ann : starred_messages flagged.tables ann ≡ []
starred_of_ann = refl

reactions_for_ann : reactions with_reaction.tables ann ≡ ((one, bob, codes "tada"), tt) ∷ []
reactions_for_ann = refl

reactions_for_nobody : reactions with_reaction.tables nobody ≡ []
reactions_for_nobody = refl
