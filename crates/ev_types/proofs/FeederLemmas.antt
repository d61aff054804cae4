-- Events write only in the sections that their kind feeds.
use Rattle.std.proofs.Common.{◌≡◌, Bool, true, false, ◌&&◌, ◌||◌, List, [], ◌∷◌, sym, ap, refl, ◌∙◌, true≢false}
use Rattle.std.specs.List.{list_all, list_any}
use Rattle.ev_types.specs.declared.section.Section.{Section}
use Rattle.ev_types.specs.declared.section.Section.TheVariants as section
use Rattle.ev_types.specs.declared.kind.EventKind.{EventKind}
use Rattle.ev_types.specs.declared.kind.EventKind.TheVariants as kind
use Rattle.ev_types.specs.declared.kind.Types.{Types}
use Rattle.ev_types.specs.declared.rows.ShownRealm.{ShownRealm}
use Rattle.ev_types.specs.declared.event.Event.{Event}
use Rattle.ev_types.specs.declared.event.Event.TheVariants.{RealmUpdate, UserAdd, UserChange, StreamCreate, StreamChange, StreamDelete, SubAdd, SubChange, SubRemove, PeerAdd, PeerRemove, MessageNew, MessagesRestored, MessageMoved, MessageEdited, Flags, MessageGone, ReactionAdd, ReactionRemove}
use Rattle.ev_types.specs.EventWrites.{realm_after, user_writes, stream_writes, subscription_writes, subscriber_writes, message_writes, reaction_writes, starred_writes, unread_writes}
use Rattle.ev_types.specs.Feeders.{kind_of, feeders, same_kind, is_fed, receives, covers}
use Rattle.ev_types.specs.Laws.{WritesNothing}

clash : {X : Type 0} → true ≡ false → X
clash same = absurd (true≢false same)

realm_quiet : (event : Event) → is_fed section.Realm (kind_of event) ≡ false → (realm : ShownRealm) → realm_after realm event ≡ realm
realm_quiet (RealmUpdate field) unfed realm = clash unfed
realm_quiet event unfed realm = refl

users_quiet : (event : Event) → is_fed section.RealmUsers (kind_of event) ≡ false → user_writes event ≡ []
users_quiet (UserAdd user row) unfed = clash unfed
users_quiet (UserChange user field) unfed = clash unfed
users_quiet event unfed = refl

streams_quiet : (event : Event) → is_fed section.Streams (kind_of event) ≡ false → stream_writes event ≡ []
streams_quiet (StreamCreate rows) unfed = clash unfed
streams_quiet (StreamChange stream field) unfed = clash unfed
streams_quiet (StreamDelete streams) unfed = clash unfed
streams_quiet event unfed = refl

subscriptions_quiet : (event : Event) → is_fed section.Subscriptions (kind_of event) ≡ false → subscription_writes event ≡ []
subscriptions_quiet (SubAdd rows) unfed = clash unfed
subscriptions_quiet (SubChange stream field) unfed = clash unfed
subscriptions_quiet (SubRemove streams) unfed = clash unfed
subscriptions_quiet event unfed = refl

subscribers_quiet : (event : Event) → is_fed section.Subscribers (kind_of event) ≡ false → subscriber_writes event ≡ []
subscribers_quiet (StreamDelete streams) unfed = clash unfed
subscribers_quiet (PeerAdd stream users) unfed = clash unfed
subscribers_quiet (PeerRemove stream users) unfed = clash unfed
subscribers_quiet event unfed = refl

messages_quiet : (event : Event) → is_fed section.Messages (kind_of event) ≡ false → message_writes event ≡ []
messages_quiet (MessageNew full) unfed = clash unfed
messages_quiet (MessagesRestored messages) unfed = clash unfed
messages_quiet (MessageMoved messages stream topic) unfed = clash unfed
messages_quiet (MessageEdited message content) unfed = clash unfed
messages_quiet (Flags change) unfed = clash unfed
messages_quiet (MessageGone messages) unfed = clash unfed
messages_quiet event unfed = refl

reactions_quiet : (event : Event) → is_fed section.Reactions (kind_of event) ≡ false → reaction_writes event ≡ []
reactions_quiet (MessageNew full) unfed = clash unfed
reactions_quiet (MessagesRestored messages) unfed = clash unfed
reactions_quiet (MessageGone messages) unfed = clash unfed
reactions_quiet (ReactionAdd message user emoji) unfed = clash unfed
reactions_quiet (ReactionRemove message user emoji) unfed = clash unfed
reactions_quiet event unfed = refl

starred_quiet : (event : Event) → is_fed section.StarredMessages (kind_of event) ≡ false → starred_writes event ≡ []
starred_quiet (MessageNew full) unfed = clash unfed
starred_quiet (MessagesRestored messages) unfed = clash unfed
starred_quiet (Flags change) unfed = clash unfed
starred_quiet (MessageGone messages) unfed = clash unfed
starred_quiet event unfed = refl

unread_quiet : (event : Event) → is_fed section.UnreadMessages (kind_of event) ≡ false → unread_writes event ≡ []
unread_quiet (MessageNew full) unfed = clash unfed
unread_quiet (MessagesRestored messages) unfed = clash unfed
unread_quiet (MessageMoved messages stream topic) unfed = clash unfed
unread_quiet (Flags change) unfed = clash unfed
unread_quiet (MessageGone messages) unfed = clash unfed
unread_quiet event unfed = refl

-- an event whose kind isn't among a section's feeders writes nothing there
pub quiet_unless_fed : (section : Section) (event : Event) → is_fed section (kind_of event) ≡ false → WritesNothing section event
quiet_unless_fed section.Realm = realm_quiet
quiet_unless_fed section.RealmUsers = users_quiet
quiet_unless_fed section.Streams = streams_quiet
quiet_unless_fed section.Subscriptions = subscriptions_quiet
quiet_unless_fed section.Subscribers = subscribers_quiet
quiet_unless_fed section.Messages = messages_quiet
quiet_unless_fed section.Reactions = reactions_quiet
quiet_unless_fed section.StarredMessages = starred_quiet
quiet_unless_fed section.UnreadMessages = unread_quiet

-- two kinds that are the same are equal
same_kind-equal : (a b : EventKind) → same_kind a b ≡ true → a ≡ b
same_kind-equal kind.Realm kind.Realm same = refl
same_kind-equal kind.RealmUser kind.RealmUser same = refl
same_kind-equal kind.Stream kind.Stream same = refl
same_kind-equal kind.Subscription kind.Subscription same = refl
same_kind-equal kind.Message kind.Message same = refl
same_kind-equal kind.MessagesRestored kind.MessagesRestored same = refl
same_kind-equal kind.UpdateMessage kind.UpdateMessage same = refl
same_kind-equal kind.UpdateMessageFlags kind.UpdateMessageFlags same = refl
same_kind-equal kind.DeleteMessage kind.DeleteMessage same = refl
same_kind-equal kind.Reaction kind.Reaction same = refl
same_kind-equal kind.Heartbeat kind.Heartbeat same = refl
same_kind-equal a b same = clash (sym same)

-- a kind that isn't received isn't among kinds that all are
unreceived : (types : Types) (kinds : List EventKind) (kind : EventKind) → list_all (receives types) kinds ≡ true → receives types kind ≡ false
    → list_any (λ feeder. same_kind feeder kind) kinds ≡ false
unreceived types [] kind all unheard = refl
unreceived types (one ∷ kinds) kind all unheard = go (unreceived types kinds kind) (receives types one) refl (same_kind one kind) refl all
  where
    go : (list_all (receives types) kinds ≡ true → receives types kind ≡ false → list_any (λ feeder. same_kind feeder kind) kinds ≡ false)
        → (b : Bool) → receives types one ≡ b → (s : Bool) → same_kind one kind ≡ s → (b && list_all (receives types) kinds) ≡ true
        → (s || list_any (λ feeder. same_kind feeder kind) kinds) ≡ false
    go rest true received true same all = clash (sym received ∙ ap (receives types) (same_kind-equal one kind same) ∙ unheard)
    go rest true received false same all = rest all unheard
    go rest false received s same all = clash (sym all)

-- an event that isn't received writes nothing in a covered section
pub quiet_unless_received : (types : Types) (section : Section) (event : Event) → covers types section ≡ true → receives types (kind_of event) ≡ false → WritesNothing section event
quiet_unless_received types section event covered unheard = quiet_unless_fed section event (unreceived types (feeders section) (kind_of event) covered unheard)
