-- What requests ask of streams and subscriptions.
use Rattle.std.specs.Prelude.{ℕ, Bool, true, false, not, List, [], ◌∷◌, if◌then◌else◌, unwrap_or, Option, Some, Result, Ok, Err}
use Rattle.std.specs.Option.{is_some}
use Rattle.ev_base.specs.declared.ids.StreamId.{StreamId}
use Rattle.ev_base.specs.declared.ids.UserId.{UserId}
use Rattle.ev_base.specs.declared.kinds.Privacy.{Privacy}
use Rattle.ev_base.specs.declared.kinds.Privacy.TheVariants.{Public, Shared, Protected}
use Rattle.hw_routes.specs.Alternatives.{◌>>=◌, path_stream, without}
use Rattle.hw_routes.specs.declared.actions.StreamAction.{StreamAction}
use Rattle.hw_routes.specs.declared.actions.StreamAction.TheVariants as action
use Rattle.hw_routes.specs.declared.call.Call.{Call}
use Rattle.hw_routes.specs.declared.call.Call.TheVariants.{Commit}
use Rattle.hw_values.specs.Forms.{Pairs, any_given, is_given, needed, optional}
use Rattle.hw_values.specs.Numbers.{stream_of, user_of}
use Rattle.hw_values.specs.Words.{property_of, truth_of}
use Rattle.hw_values.specs.declared.fault.ValueFault.{ValueFault}
use Rattle.hw_values.specs.declared.fault.ValueFault.TheVariants.{Missing}
use Rattle.hw_values.specs.declared.param.Param.{Param}
use Rattle.hw_values.specs.declared.param.Param.TheVariants as param
use Rattle.zr_types.specs.declared.command.Command.TheVariants as command
use Rattle.zr_types.specs.declared.command.NameField.TheVariants as field
use Rattle.zr_types.specs.declared.command.StreamCommand.{StreamCommand}
use Rattle.zr_types.specs.declared.command.StreamCommand.TheVariants.{Create, Update, SetPrivacy, Archive, Subscribe, Unsubscribe, SubProperty}
use Rattle.zr_types.specs.declared.command.SubField.{SubField}
use Rattle.zr_types.specs.declared.command.SubField.TheVariants as sub_field
use Rattle.zs_words.specs.declared.names.SubProperty.{SubProperty as PropertyName}
use Rattle.zs_words.specs.declared.names.SubProperty.TheVariants as property

-- the call of a command that names its user, if it has one
abbrev pub committed : StreamCommand → Call
committed it = Commit (command.Streams it) false

-- the user 0, in whose place the actor is put
abbrev pub nobody : UserId
nobody = record { 0 = 0 }

-- the user who is named, and the call says whether none is
abbrev pub of_user : (UserId → StreamCommand) → Option UserId → Call
of_user make user = Commit (command.Streams (make (unwrap_or user nobody))) (not (is_some user))

-- the parameters of a stream's creation
abbrev pub of_creation : List Param
of_creation = param.Name ∷ param.Description ∷ param.InviteOnly ∷ param.HistoryPublic ∷ []

unfoldable pub subscribe : Pairs → Result Call ValueFault
subscribe pairs = do
  stream ← needed stream_of param.StreamId pairs
  user ← optional user_of param.UserId pairs
  _ ← without param.Name of_creation pairs
  Ok (of_user (Subscribe stream) user)

unfoldable pub leave : Pairs → Result Call ValueFault
leave pairs = do
  stream ← needed stream_of param.StreamId pairs
  user ← optional user_of param.UserId pairs
  Ok (of_user (Unsubscribe stream) user)

-- the description, which is empty where none is given
abbrev pub description_given : Pairs → Result (List ℕ) ValueFault
description_given pairs = optional Some param.Description pairs >>= λ text. Ok (unwrap_or text [])

-- all see a stream that isn't private; in a private one subscribers see what was sent before them, or don't
abbrev pub privacy_of : Bool → Bool → Privacy
privacy_of is_private history_public =
    if not is_private then Public else if history_public then Shared else Protected

unfoldable pub create : Pairs → Result StreamCommand ValueFault
create pairs = do
  name ← needed Some param.Name pairs
  description ← description_given pairs
  invite_only ← optional truth_of param.InviteOnly pairs
  history ← optional truth_of param.HistoryPublic pairs
  Ok (Create name description (privacy_of (unwrap_or invite_only false) (unwrap_or history true)))

-- a subscription or a new stream
unfoldable pub join : Pairs → Result Call ValueFault
join pairs =
    if any_given (param.StreamId ∷ param.UserId ∷ []) pairs then subscribe pairs
    else if any_given of_creation pairs then (create pairs >>= λ it. Ok (committed it))
    else Err (Missing param.StreamId)

abbrev pub property_value : PropertyName → Pairs → Result SubField ValueFault
property_value property.Color pairs = needed Some param.Value pairs >>= λ text. Ok (sub_field.Color text)
property_value property.IsMuted pairs = needed truth_of param.Value pairs >>= λ truth. Ok (sub_field.IsMuted truth)
property_value property.PinToTop pairs = needed truth_of param.Value pairs >>= λ truth. Ok (sub_field.PinToTop truth)

unfoldable pub set_property : Pairs → Result StreamCommand ValueFault
set_property pairs = do
  stream ← needed stream_of param.StreamId pairs
  property ← needed property_of param.Property pairs
  value ← property_value property pairs
  Ok (SubProperty stream value)

-- the parameters of a change of privacy
abbrev pub of_privacy : List Param
of_privacy = param.IsPrivate ∷ param.HistoryPublic ∷ []

unfoldable pub rename : StreamId → Pairs → Result StreamCommand ValueFault
rename stream pairs = do
  value ← needed Some param.NewName pairs
  _ ← without param.Description (param.Description ∷ []) pairs
  _ ← without param.IsPrivate of_privacy pairs
  Ok (Update stream field.Name value)

unfoldable pub describe : StreamId → Pairs → Result StreamCommand ValueFault
describe stream pairs = do
  value ← needed Some param.Description pairs
  _ ← without param.IsPrivate of_privacy pairs
  Ok (Update stream field.Description value)

unfoldable pub set_privacy : StreamId → Pairs → Result StreamCommand ValueFault
set_privacy stream pairs = do
  is_private ← needed truth_of param.IsPrivate pairs
  history ← optional truth_of param.HistoryPublic pairs
  Ok (SetPrivacy stream (privacy_of is_private (unwrap_or history true)))

-- a stream's name, its description or its privacy
unfoldable pub change : StreamId → Pairs → Result StreamCommand ValueFault
change stream pairs =
    if is_given pairs param.NewName then rename stream pairs
    else if is_given pairs param.Description then describe stream pairs
    else if any_given of_privacy pairs then set_privacy stream pairs
    else Err (Missing param.NewName)

-- the call of an action on streams and subscriptions
abbrev pub stream_call : StreamAction → List ℕ → Pairs → Result Call ValueFault
stream_call action.Join path pairs = join pairs
stream_call action.Leave path pairs = leave pairs
stream_call action.SetProperty path pairs = set_property pairs >>= λ it. Ok (committed it)
stream_call action.Change path pairs = (path_stream path >>= λ stream. change stream pairs) >>= λ it. Ok (committed it)
stream_call action.Archive path pairs = path_stream path >>= λ stream. Ok (committed (Archive stream))
