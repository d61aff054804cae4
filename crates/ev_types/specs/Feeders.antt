-- Kinds of events, and which of them write in which section.
use Rattle.std.specs.Prelude.{ℕ, Bool, true, false, List, [], ◌∷◌, codes}
use Rattle.std.specs.List.{list_all, list_any}
use Rattle.ev_types.specs.declared.section.Section.{Section}
use Rattle.ev_types.specs.declared.section.Section.TheVariants as section
use Rattle.ev_types.specs.declared.kind.EventKind.{EventKind}
use Rattle.ev_types.specs.declared.kind.EventKind.TheVariants as kind
use Rattle.ev_types.specs.declared.kind.Types.{Types}
use Rattle.ev_types.specs.declared.kind.Types.TheVariants.{All, Only}
use Rattle.ev_types.specs.declared.event.Event.{Event}
use Rattle.ev_types.specs.declared.event.Event.TheVariants.{RealmUpdate, UserAdd, UserChange, StreamCreate, StreamChange, StreamDelete, SubAdd, SubChange, SubRemove, PeerAdd, PeerRemove, MessageNew, MessagesRestored, MessageMoved, MessageEdited, Flags, MessageGone, ReactionAdd, ReactionRemove, Heartbeat}

-- the kind of an event
abbrev pub kind_of : Event → EventKind
kind_of (RealmUpdate field) = kind.Realm
kind_of (UserAdd user row) = kind.RealmUser
kind_of (UserChange user field) = kind.RealmUser
kind_of (StreamCreate rows) = kind.Stream
kind_of (StreamChange stream field) = kind.Stream
kind_of (StreamDelete streams) = kind.Stream
kind_of (SubAdd rows) = kind.Subscription
kind_of (SubChange stream field) = kind.Subscription
kind_of (SubRemove streams) = kind.Subscription
kind_of (PeerAdd stream users) = kind.Subscription
kind_of (PeerRemove stream users) = kind.Subscription
kind_of (MessageNew full) = kind.Message
kind_of (MessagesRestored messages) = kind.MessagesRestored
kind_of (MessageMoved messages stream topic) = kind.UpdateMessage
kind_of (MessageEdited message content) = kind.UpdateMessage
kind_of (Flags change) = kind.UpdateMessageFlags
kind_of (MessageGone messages) = kind.DeleteMessage
kind_of (ReactionAdd message user emoji) = kind.Reaction
kind_of (ReactionRemove message user emoji) = kind.Reaction
kind_of Heartbeat = kind.Heartbeat

-- the name of a kind, which is the `type` of its events
abbrev pub kind_name : EventKind → List ℕ
kind_name kind.Realm = codes "realm"
kind_name kind.RealmUser = codes "realm_user"
kind_name kind.Stream = codes "stream"
kind_name kind.Subscription = codes "subscription"
kind_name kind.Message = codes "message"
kind_name kind.MessagesRestored = codes "messages_restored"
kind_name kind.UpdateMessage = codes "update_message"
kind_name kind.UpdateMessageFlags = codes "update_message_flags"
kind_name kind.DeleteMessage = codes "delete_message"
kind_name kind.Reaction = codes "reaction"
kind_name kind.Heartbeat = codes "heartbeat"

-- the kinds of the events that write in a section
abbrev pub feeders : Section → List EventKind
feeders section.Realm = kind.Realm ∷ []
feeders section.RealmUsers = kind.RealmUser ∷ []
feeders section.Streams = kind.Stream ∷ []
feeders section.Subscriptions = kind.Subscription ∷ []
feeders section.Subscribers = kind.Stream ∷ kind.Subscription ∷ []
feeders section.Messages = kind.Message ∷ kind.MessagesRestored ∷ kind.UpdateMessage ∷ kind.UpdateMessageFlags ∷ kind.DeleteMessage ∷ []
feeders section.Reactions = kind.Message ∷ kind.MessagesRestored ∷ kind.DeleteMessage ∷ kind.Reaction ∷ []
feeders section.StarredMessages = kind.Message ∷ kind.MessagesRestored ∷ kind.UpdateMessageFlags ∷ kind.DeleteMessage ∷ []
feeders section.UnreadMessages = kind.Message ∷ kind.MessagesRestored ∷ kind.UpdateMessage ∷ kind.UpdateMessageFlags ∷ kind.DeleteMessage ∷ []

-- both are the same kind
abbrev pub same_kind : EventKind → EventKind → Bool
same_kind kind.Realm kind.Realm = true
same_kind kind.RealmUser kind.RealmUser = true
same_kind kind.Stream kind.Stream = true
same_kind kind.Subscription kind.Subscription = true
same_kind kind.Message kind.Message = true
same_kind kind.MessagesRestored kind.MessagesRestored = true
same_kind kind.UpdateMessage kind.UpdateMessage = true
same_kind kind.UpdateMessageFlags kind.UpdateMessageFlags = true
same_kind kind.DeleteMessage kind.DeleteMessage = true
same_kind kind.Reaction kind.Reaction = true
same_kind kind.Heartbeat kind.Heartbeat = true
same_kind a b = false

-- events of this kind write in the section
abbrev pub is_fed : Section → EventKind → Bool
is_fed section kind = list_any (λ feeder. same_kind feeder kind) (feeders section)

-- a queue with these types receives events of this kind
abbrev pub receives : Types → EventKind → Bool
receives All kind = true
receives (Only kinds) kind = list_any (λ other. same_kind other kind) kinds

-- a queue with these types receives all that may write in the section
abbrev pub covers : Types → Section → Bool
covers types section = list_all (receives types) (feeders section)
