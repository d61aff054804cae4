-- The names that words are taken from.
use Rattle.std.specs.Prelude.{◌≡◌, ℕ, Bool, true, false, List, [], ◌∷◌, codes, find, bytes_eq, Some}
use Rattle.ev_base.specs.declared.kinds.Flag.{Flag}
use Rattle.ev_base.specs.declared.kinds.Flag.TheVariants as flag
use Rattle.ev_base.specs.declared.kinds.Privacy.{Privacy}
use Rattle.ev_base.specs.declared.kinds.Privacy.TheVariants.{Public, Shared, Protected}
use Rattle.ev_types.specs.declared.kind.EventKind.{EventKind}
use Rattle.ev_types.specs.declared.kind.EventKind.TheVariants as kind
use Rattle.ev_types.specs.declared.section.Section.{Section}
use Rattle.ev_types.specs.declared.section.Section.TheVariants as section
use Rattle.zr_types.specs.declared.command.Mode.{Mode}
use Rattle.zr_types.specs.declared.command.Mode.TheVariants as mode
use Rattle.zr_types.specs.declared.command.NameField.{NameField}
use Rattle.zr_types.specs.declared.command.NameField.TheVariants as field
use Rattle.zs_words.specs.declared.names.CommandName.{CommandName}
use Rattle.zs_words.specs.declared.names.CommandName.TheVariants as command
use Rattle.zs_words.specs.declared.names.LineName.{LineName}
use Rattle.zs_words.specs.declared.names.LineName.TheVariants as line
use Rattle.zs_words.specs.declared.names.Operation.{Operation}
use Rattle.zs_words.specs.declared.names.Operation.TheVariants as operation
use Rattle.zs_words.specs.declared.names.SubProperty.{SubProperty}
use Rattle.zs_words.specs.declared.names.SubProperty.TheVariants as sub

-- the name of a command
abbrev pub command_name : CommandName → List ℕ
command_name command.RealmUpdate = codes "realm_update"
command_name command.UserAdd = codes "user_add"
command_name command.UserUpdate = codes "user_update"
command_name command.UserRole = codes "user_role"
command_name command.UserDeactivate = codes "user_deactivate"
command_name command.UserReactivate = codes "user_reactivate"
command_name command.StreamCreate = codes "stream_create"
command_name command.StreamUpdate = codes "stream_update"
command_name command.StreamPrivacy = codes "stream_privacy"
command_name command.StreamArchive = codes "stream_archive"
command_name command.Subscribe = codes "subscribe"
command_name command.Unsubscribe = codes "unsubscribe"
command_name command.SubProperty = codes "sub_property"
command_name command.SendStream = codes "send_stream"
command_name command.SendDm = codes "send_dm"
command_name command.EditContent = codes "edit_content"
command_name command.Move = codes "move"
command_name command.Delete = codes "delete"
command_name command.Flags = codes "flags"
command_name command.ReactionAdd = codes "reaction_add"
command_name command.ReactionRemove = codes "reaction_remove"

-- the name of a line
abbrev pub line_name : LineName → List ℕ
line_name (line.Command command) = command_name command
line_name line.Shards = codes "shards"
line_name line.Notice = codes "notice"
line_name line.Push = codes "push"
line_name line.Open = codes "open"
line_name line.Fetch = codes "fetch"
line_name line.Finish = codes "finish"
line_name line.Register = codes "register"
line_name line.Poll = codes "poll"
line_name line.Beat = codes "beat"
line_name line.DeleteQueue = codes "delete_queue"
line_name line.Tick = codes "tick"
line_name line.Where = codes "where"
line_name line.View = codes "view"

-- the lines, commands first
abbrev pub lines : List LineName
lines =
    line.Command command.RealmUpdate
    ∷ line.Command command.UserAdd
    ∷ line.Command command.UserUpdate
    ∷ line.Command command.UserRole
    ∷ line.Command command.UserDeactivate
    ∷ line.Command command.UserReactivate
    ∷ line.Command command.StreamCreate
    ∷ line.Command command.StreamUpdate
    ∷ line.Command command.StreamPrivacy
    ∷ line.Command command.StreamArchive
    ∷ line.Command command.Subscribe
    ∷ line.Command command.Unsubscribe
    ∷ line.Command command.SubProperty
    ∷ line.Command command.SendStream
    ∷ line.Command command.SendDm
    ∷ line.Command command.EditContent
    ∷ line.Command command.Move
    ∷ line.Command command.Delete
    ∷ line.Command command.Flags
    ∷ line.Command command.ReactionAdd
    ∷ line.Command command.ReactionRemove
    ∷ line.Shards
    ∷ line.Notice
    ∷ line.Push
    ∷ line.Open
    ∷ line.Fetch
    ∷ line.Finish
    ∷ line.Register
    ∷ line.Poll
    ∷ line.Beat
    ∷ line.DeleteQueue
    ∷ line.Tick
    ∷ line.Where
    ∷ line.View
    ∷ []

-- the name of a property of a subscription
abbrev pub sub_name : SubProperty → List ℕ
sub_name sub.Color = codes "color"
sub_name sub.IsMuted = codes "is_muted"
sub_name sub.PinToTop = codes "pin_to_top"

abbrev pub sub_properties : List SubProperty
sub_properties = sub.Color ∷ sub.IsMuted ∷ sub.PinToTop ∷ []

-- the name of a property of the realm or of a stream
abbrev pub field_name : NameField → List ℕ
field_name field.Name = codes "name"
field_name field.Description = codes "description"

abbrev pub name_fields : List NameField
name_fields = field.Name ∷ field.Description ∷ []

-- the name of a privacy
abbrev pub privacy_name : Privacy → List ℕ
privacy_name Public = codes "public"
privacy_name Shared = codes "shared"
privacy_name Protected = codes "protected"

abbrev pub privacies : List Privacy
privacies = Public ∷ Shared ∷ Protected ∷ []

-- the name of a mode of moving messages
abbrev pub mode_name : Mode → List ℕ
mode_name mode.One = codes "one"
mode_name mode.Later = codes "later"
mode_name mode.All = codes "all"

abbrev pub modes : List Mode
modes = mode.One ∷ mode.Later ∷ mode.All ∷ []

-- the name of what is done with a flag, and whether that sets it
abbrev pub operation_name : Operation → List ℕ
operation_name operation.Add = codes "add"
operation_name operation.Remove = codes "remove"

abbrev pub operations : List Operation
operations = operation.Add ∷ operation.Remove ∷ []

abbrev pub adds : Operation → Bool
adds operation.Add = true
adds operation.Remove = false

-- the name of a flag
abbrev pub flag_name : Flag → List ℕ
flag_name flag.Read = codes "read"
flag_name flag.Starred = codes "starred"
flag_name flag.Collapsed = codes "collapsed"

abbrev pub flags : List Flag
flags = flag.Read ∷ flag.Starred ∷ flag.Collapsed ∷ []

-- the name of a truth value
abbrev pub truth_name : Bool → List ℕ
truth_name true = codes "true"
truth_name false = codes "false"

abbrev pub truth_values : List Bool
truth_values = false ∷ true ∷ []

-- the kinds of events
abbrev pub kinds : List EventKind
kinds =
    kind.Realm
    ∷ kind.RealmUser
    ∷ kind.Stream
    ∷ kind.Subscription
    ∷ kind.Message
    ∷ kind.MessagesRestored
    ∷ kind.UpdateMessage
    ∷ kind.UpdateMessageFlags
    ∷ kind.DeleteMessage
    ∷ kind.Reaction
    ∷ kind.Heartbeat
    ∷ []

-- the name of a section in a state
abbrev pub section_name : Section → List ℕ
section_name section.Realm = codes "realm"
section_name section.RealmUsers = codes "realm_users"
section_name section.Streams = codes "streams"
section_name section.Subscriptions = codes "subscriptions"
section_name section.Subscribers = codes "subscribers"
section_name section.Messages = codes "messages"
section_name section.Reactions = codes "reactions"
section_name section.StarredMessages = codes "starred_messages"
section_name section.UnreadMessages = codes "unread_msgs"

-- the name by which a section is fetched
abbrev pub fetch_name : Section → List ℕ
fetch_name section.Realm = codes "realm"
fetch_name section.RealmUsers = codes "realm_user"
fetch_name section.Streams = codes "stream"
fetch_name section.Subscriptions = codes "subscription"
fetch_name section.Subscribers = codes "subscription"
fetch_name section.Messages = codes "message"
fetch_name section.Reactions = codes "reaction"
fetch_name section.StarredMessages = codes "starred_messages"
fetch_name section.UnreadMessages = codes "message"

-- the sections in their order
abbrev pub all_sections : List Section
all_sections =
    section.Realm
    ∷ section.RealmUsers
    ∷ section.Streams
    ∷ section.Subscriptions
    ∷ section.Subscribers
    ∷ section.Messages
    ∷ section.Reactions
    ∷ section.StarredMessages
    ∷ section.UnreadMessages
    ∷ []

-- the word is the name of this one of these values
abbrev pub IsNameAmong : {A : Type 0} → List A → (A → List ℕ) → List ℕ → A → Type 0
IsNameAmong values name_of word value = find (λ other. bytes_eq (name_of other) word) values ≡ Some value

abbrev pub IsLineName : List ℕ → LineName → Type 0
IsLineName = IsNameAmong lines line_name

abbrev pub IsSubProperty : List ℕ → SubProperty → Type 0
IsSubProperty = IsNameAmong sub_properties sub_name

abbrev pub IsNameField : List ℕ → NameField → Type 0
IsNameField = IsNameAmong name_fields field_name

abbrev pub IsPrivacy : List ℕ → Privacy → Type 0
IsPrivacy = IsNameAmong privacies privacy_name

abbrev pub IsMode : List ℕ → Mode → Type 0
IsMode = IsNameAmong modes mode_name

abbrev pub IsOperation : List ℕ → Operation → Type 0
IsOperation = IsNameAmong operations operation_name

abbrev pub IsFlag : List ℕ → Flag → Type 0
IsFlag = IsNameAmong flags flag_name

abbrev pub IsTruth : List ℕ → Bool → Type 0
IsTruth = IsNameAmong truth_values truth_name

abbrev pub IsSection : List ℕ → Section → Type 0
IsSection = IsNameAmong all_sections section_name
