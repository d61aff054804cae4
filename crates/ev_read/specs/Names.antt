-- The names that texts of rows and events are.
use Rattle.std.specs.Prelude.{ℕ, List, codes, bytes_eq, if◌then◌else◌, Option, Some, None}
use Rattle.ev_base.specs.declared.kinds.Flag.{Flag}
use Rattle.ev_base.specs.declared.kinds.Flag.TheVariants as flag
use Rattle.ev_types.specs.declared.kind.EventKind.{EventKind}
use Rattle.ev_types.specs.declared.kind.EventKind.TheVariants as kind
use Rattle.ev_read.specs.declared.names.AddOrRemove.{AddOrRemove}
use Rattle.ev_read.specs.declared.names.AddOrRemove.TheVariants as either
use Rattle.ev_read.specs.declared.names.UserOperation.{UserOperation}
use Rattle.ev_read.specs.declared.names.UserOperation.TheVariants as user_op
use Rattle.ev_read.specs.declared.names.StreamOperation.{StreamOperation}
use Rattle.ev_read.specs.declared.names.StreamOperation.TheVariants as stream_op
use Rattle.ev_read.specs.declared.names.SubOperation.{SubOperation}
use Rattle.ev_read.specs.declared.names.SubOperation.TheVariants as sub_op
use Rattle.ev_read.specs.declared.names.PlaceKind.{PlaceKind}
use Rattle.ev_read.specs.declared.names.PlaceKind.TheVariants as place_kind
use Rattle.ev_read.specs.declared.names.RealmProperty.{RealmProperty}
use Rattle.ev_read.specs.declared.names.RealmProperty.TheVariants as of_realm
use Rattle.ev_read.specs.declared.names.StreamProperty.{StreamProperty}
use Rattle.ev_read.specs.declared.names.StreamProperty.TheVariants as of_stream
use Rattle.ev_read.specs.declared.names.SubProperty.{SubProperty}
use Rattle.ev_read.specs.declared.names.SubProperty.TheVariants as of_sub

abbrev pub flag_named : List ℕ → Option Flag
flag_named name =
    if bytes_eq name (codes "collapsed") then Some flag.Collapsed
    else if bytes_eq name (codes "read") then Some flag.Read
    else if bytes_eq name (codes "starred") then Some flag.Starred
    else None

abbrev pub place_named : List ℕ → Option PlaceKind
place_named name =
    if bytes_eq name (codes "stream") then Some place_kind.InStream
    else if bytes_eq name (codes "private") then Some place_kind.ToUsers
    else None

abbrev pub kind_named : List ℕ → Option EventKind
kind_named name =
    if bytes_eq name (codes "realm") then Some kind.Realm
    else if bytes_eq name (codes "realm_user") then Some kind.RealmUser
    else if bytes_eq name (codes "stream") then Some kind.Stream
    else if bytes_eq name (codes "subscription") then Some kind.Subscription
    else if bytes_eq name (codes "message") then Some kind.Message
    else if bytes_eq name (codes "messages_restored") then Some kind.MessagesRestored
    else if bytes_eq name (codes "update_message") then Some kind.UpdateMessage
    else if bytes_eq name (codes "update_message_flags") then Some kind.UpdateMessageFlags
    else if bytes_eq name (codes "delete_message") then Some kind.DeleteMessage
    else if bytes_eq name (codes "reaction") then Some kind.Reaction
    else if bytes_eq name (codes "heartbeat") then Some kind.Heartbeat
    else None

abbrev pub add_or_remove : List ℕ → Option AddOrRemove
add_or_remove name =
    if bytes_eq name (codes "add") then Some either.Add
    else if bytes_eq name (codes "remove") then Some either.Remove
    else None

abbrev pub user_operation : List ℕ → Option UserOperation
user_operation name =
    if bytes_eq name (codes "add") then Some user_op.Add
    else if bytes_eq name (codes "update") then Some user_op.Update
    else None

abbrev pub stream_operation : List ℕ → Option StreamOperation
stream_operation name =
    if bytes_eq name (codes "create") then Some stream_op.Create
    else if bytes_eq name (codes "update") then Some stream_op.Update
    else if bytes_eq name (codes "delete") then Some stream_op.Delete
    else None

abbrev pub sub_operation : List ℕ → Option SubOperation
sub_operation name =
    if bytes_eq name (codes "add") then Some sub_op.Add
    else if bytes_eq name (codes "update") then Some sub_op.Update
    else if bytes_eq name (codes "remove") then Some sub_op.Remove
    else if bytes_eq name (codes "peer_add") then Some sub_op.PeerAdd
    else if bytes_eq name (codes "peer_remove") then Some sub_op.PeerRemove
    else None

abbrev pub realm_property : List ℕ → Option RealmProperty
realm_property name =
    if bytes_eq name (codes "name") then Some of_realm.Name
    else if bytes_eq name (codes "description") then Some of_realm.Description
    else None

abbrev pub stream_property : List ℕ → Option StreamProperty
stream_property name =
    if bytes_eq name (codes "name") then Some of_stream.Name
    else if bytes_eq name (codes "description") then Some of_stream.Description
    else if bytes_eq name (codes "invite_only") then Some of_stream.InviteOnly
    else if bytes_eq name (codes "history_public_to_subscribers") then Some of_stream.HistoryPublicToSubscribers
    else None

abbrev pub sub_property : List ℕ → Option SubProperty
sub_property name =
    if bytes_eq name (codes "color") then Some of_sub.Color
    else if bytes_eq name (codes "is_muted") then Some of_sub.IsMuted
    else if bytes_eq name (codes "pin_to_top") then Some of_sub.PinToTop
    else None
