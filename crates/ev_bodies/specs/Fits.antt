-- Values that fit their types: numbers within their bits, texts of some kind, and lists that rise. So is every value of the program.
use Rattle.std.specs.Prelude.{◌≡◌, ℕ, ◌<◌, ◌^◌, ℤ, pos, negsuc, Bool, true, false, List, [], ◌∷◌, Option, None, Some, IsUtf8}
use Rattle.std.specs.List.{AllByRecursion}
use Rattle.std.specs.declared.cmp.Ordering.{Ordering}
use Rattle.ev_rows.specs.Rows.{SortedByKey}
use Rattle.ev_base.specs.Orders.{user_cmp, stream_cmp, message_cmp, stream_user_cmp, reaction_cmp}
use Rattle.ev_base.specs.QueueIds.{FitsItsBits}
use Rattle.ev_base.specs.Texts.{IsText}
use Rattle.ev_base.specs.declared.ids.UserId.{UserId}
use Rattle.ev_base.specs.declared.ids.StreamId.{StreamId}
use Rattle.ev_base.specs.declared.ids.MessageId.{MessageId}
use Rattle.ev_base.specs.declared.place.Place.{Place}
use Rattle.ev_base.specs.declared.place.Place.TheVariants as place
use Rattle.ev_types.specs.declared.rows.ShownRealm.{ShownRealm}
use Rattle.ev_types.specs.declared.rows.ShownUser.{ShownUser}
use Rattle.ev_types.specs.declared.rows.ShownStream.{ShownStream}
use Rattle.ev_types.specs.declared.rows.ShownSubscription.{ShownSubscription}
use Rattle.ev_types.specs.declared.rows.ShownMessage.{ShownMessage}
use Rattle.ev_types.specs.declared.event.FullMessage.{FullMessage}
use Rattle.ev_types.specs.declared.event.RealmField.{RealmField}
use Rattle.ev_types.specs.declared.event.RealmField.TheVariants as realm_field
use Rattle.ev_types.specs.declared.event.UserField.{UserField}
use Rattle.ev_types.specs.declared.event.UserField.TheVariants as user_field
use Rattle.ev_types.specs.declared.event.StreamField.{StreamField}
use Rattle.ev_types.specs.declared.event.StreamField.TheVariants as stream_field
use Rattle.ev_types.specs.declared.event.SubscriptionField.{SubscriptionField}
use Rattle.ev_types.specs.declared.event.SubscriptionField.TheVariants as sub_field
use Rattle.ev_types.specs.declared.event.Event.{Event}
use Rattle.ev_types.specs.declared.event.Event.TheVariants.{RealmUpdate, UserAdd, UserChange, StreamCreate, StreamChange, StreamDelete, SubAdd, SubChange, SubRemove, PeerAdd, PeerRemove, MessageNew, MessagesRestored, MessageMoved, MessageEdited, Flags, MessageGone, ReactionAdd, ReactionRemove, Heartbeat}
use Rattle.ev_types.specs.declared.event.Item.{Item}
use Rattle.ev_types.specs.Sections.{ReactionKey, SomeSections}
use Rattle.ev_wire.specs.Events.{tells_details}
use Rattle.ev_read.specs.Lists.{below, below_by_key}
use Rattle.ev_read.specs.Rows.{full_message_below, own_reaction_below}
use Rattle.ev_bodies.specs.Bodies.{Register}

-- each is above the one before it
abbrev pub Rises : {T : Type 0} → (T → T → Bool) → List T → Type 0
Rises is_below [] = Unit {0}
Rises is_below (x ∷ []) = Unit {0}
Rises is_below (x ∷ y ∷ ys) = (is_below x y ≡ true) × Rises is_below (y ∷ ys)

-- a list of what fits, which rises
abbrev pub FitsList : {T : Type 0} → (T → Type 0) → (T → T → Bool) → List T → Type 0
FitsList Fits is_below list = AllByRecursion Fits list × Rises is_below list

abbrev pub FitsText : List ℕ → Type 0
FitsText text = IsText text × IsUtf8 text

abbrev pub FitsUser : UserId → Type 0
FitsUser user = user.0 < 2 ^ 32

abbrev pub FitsStream : StreamId → Type 0
FitsStream stream = stream.0 < 2 ^ 32

abbrev pub FitsMessage : MessageId → Type 0
FitsMessage message = message.0 < 2 ^ 32

abbrev pub FitsI64 : ℤ → Type 0
FitsI64 (pos n) = n < 2 ^ 63
FitsI64 (negsuc n) = n < 2 ^ 63

-- ---- rows

abbrev pub FitsRealm : ShownRealm → Type 0
FitsRealm realm = FitsText realm.name × FitsText realm.description

abbrev pub FitsUserRow : UserId × ShownUser → Type 0
FitsUserRow row = FitsUser row.0 × FitsText row.1.email × FitsText row.1.full_name

abbrev pub FitsStreamRow : StreamId × ShownStream → Type 0
FitsStreamRow row = FitsStream row.0 × FitsText row.1.name × FitsText row.1.description

abbrev pub FitsSubscription : StreamId × ShownSubscription → Type 0
FitsSubscription row = FitsStream row.0 × FitsText row.1.color

abbrev pub FitsSubscriber : (StreamId × UserId) × Unit {0} → Type 0
FitsSubscriber row = FitsStream row.0.0 × FitsUser row.0.1

abbrev pub FitsPlace : Place → Type 0
FitsPlace (place.Stream stream topic) = FitsStream stream × FitsText topic
FitsPlace (place.Direct recipients) = FitsList FitsUser (below user_cmp) recipients

abbrev pub FitsMessageRow : MessageId × ShownMessage → Type 0
FitsMessageRow row = FitsMessage row.0 × FitsUser row.1.sender × FitsPlace row.1.place × FitsText row.1.content × (row.1.timestamp < 2 ^ 64)

abbrev pub FitsOwnReaction : UserId × List ℕ → Type 0
FitsOwnReaction reaction = FitsUser reaction.0 × FitsText reaction.1

abbrev pub FitsFull : FullMessage → Type 0
FitsFull full = FitsMessageRow (full.message, full.row) × FitsList FitsOwnReaction own_reaction_below full.reactions

abbrev pub FitsReaction : ReactionKey × Unit {0} → Type 0
FitsReaction row = FitsMessage row.0.0 × FitsUser row.0.1 × FitsText row.0.2

abbrev pub FitsStarred : MessageId × Unit {0} → Type 0
FitsStarred row = FitsMessage row.0

abbrev pub FitsUnread : MessageId × Place → Type 0
FitsUnread row = FitsMessage row.0 × FitsPlace row.1

-- ---- events

abbrev pub FitsRealmField : RealmField → Type 0
FitsRealmField (realm_field.Name name) = FitsText name
FitsRealmField (realm_field.Description description) = FitsText description

abbrev pub FitsUserField : UserField → Type 0
FitsUserField (user_field.FullName name) = FitsText name
FitsUserField (user_field.Role role) = Unit {0}
FitsUserField (user_field.IsActive is_active) = Unit {0}

abbrev pub FitsStreamField : StreamField → Type 0
FitsStreamField (stream_field.Name name) = FitsText name
FitsStreamField (stream_field.Description description) = FitsText description
FitsStreamField (stream_field.InviteOnly invite_only) = Unit {0}
FitsStreamField (stream_field.HistoryPublicToSubscribers is_public) = Unit {0}

abbrev pub FitsSubField : SubscriptionField → Type 0
FitsSubField (sub_field.Color color) = FitsText color
FitsSubField (sub_field.IsMuted is_muted) = Unit {0}
FitsSubField (sub_field.PinToTop pin_to_top) = Unit {0}

abbrev pub FitsMessages : List MessageId → Type 0
FitsMessages messages = FitsList FitsMessage (below message_cmp) messages

-- the places of messages are told where they are no longer read, and nowhere else
abbrev pub FitsDetails : Bool → List (MessageId × Place) → Type 0
FitsDetails true details = FitsList FitsUnread (below_by_key message_cmp) details
FitsDetails false details = details ≡ []

abbrev pub FitsEvent : Event → Type 0
FitsEvent (RealmUpdate field) = FitsRealmField field
FitsEvent (UserAdd user row) = FitsUserRow (user, row)
FitsEvent (UserChange user field) = FitsUser user × FitsUserField field
FitsEvent (StreamCreate rows) = FitsList FitsStreamRow (below_by_key stream_cmp) rows
FitsEvent (StreamChange stream field) = FitsStream stream × FitsStreamField field
FitsEvent (StreamDelete streams) = FitsList FitsStream (below stream_cmp) streams
FitsEvent (SubAdd rows) = FitsList FitsSubscription (below_by_key stream_cmp) rows
FitsEvent (SubChange stream field) = FitsStream stream × FitsSubField field
FitsEvent (SubRemove streams) = FitsList FitsStream (below stream_cmp) streams
FitsEvent (PeerAdd stream users) = FitsStream stream × FitsList FitsUser (below user_cmp) users
FitsEvent (PeerRemove stream users) = FitsStream stream × FitsList FitsUser (below user_cmp) users
FitsEvent (MessageNew full) = FitsFull full
FitsEvent (MessagesRestored messages) = FitsList FitsFull full_message_below messages
FitsEvent (MessageMoved messages stream topic) = FitsMessages messages × FitsStream stream × FitsText topic
FitsEvent (MessageEdited message content) = FitsMessage message × FitsText content
FitsEvent (Flags change) = FitsMessages change.messages × FitsDetails (tells_details change.flag change.add) change.details
FitsEvent (MessageGone messages) = FitsMessages messages
FitsEvent (ReactionAdd message user emoji) = FitsMessage message × FitsUser user × FitsText emoji
FitsEvent (ReactionRemove message user emoji) = FitsMessage message × FitsUser user × FitsText emoji
FitsEvent Heartbeat = Unit {0}

abbrev pub FitsItem : Item → Type 0
FitsItem item = FitsI64 item.id × FitsEvent item.event

-- ---- bodies

-- where there is a value, it fits
abbrev pub IfThere : {T : Type 0} → (T → Type 0) → Option T → Type 0
IfThere Fits None = Unit {0}
IfThere Fits (Some value) = Fits value

-- the rows of a section, which are sorted by key
abbrev pub FitsRows : {K V : Type 0} → (K × V → Type 0) → (K → K → Ordering) → List (K × V) → Type 0
FitsRows Fits cmp rows = AllByRecursion Fits rows × SortedByKey cmp rows

pub record FitsSections (sections : SomeSections) : Type 0 where
  pub realm : IfThere FitsRealm sections.realm
  pub realm_users : IfThere (FitsRows FitsUserRow user_cmp) sections.realm_users
  pub streams : IfThere (FitsRows FitsStreamRow stream_cmp) sections.streams
  pub subscriptions : IfThere (FitsRows FitsSubscription stream_cmp) sections.subscriptions
  pub subscribers : IfThere (FitsRows FitsSubscriber stream_user_cmp) sections.subscribers
  pub messages : IfThere (FitsRows FitsMessageRow message_cmp) sections.messages
  pub reactions : IfThere (FitsRows FitsReaction reaction_cmp) sections.reactions
  pub starred_messages : IfThere (FitsRows FitsStarred message_cmp) sections.starred_messages
  pub unread_messages : IfThere (FitsRows FitsUnread message_cmp) sections.unread_messages

pub record FitsRegister (body : Register) : Type 0 where
  pub queue : FitsItsBits body.queue
  pub last_event_id : FitsI64 body.last_event_id
  pub sections : FitsSections body.sections
