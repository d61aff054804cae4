-- What requests ask of messages.
use Rattle.std.specs.Prelude.{ℕ, List, [], ◌∷◌, if◌then◌else◌, unwrap_or, Some, Result, Ok, Err}
use Rattle.ev_base.specs.declared.ids.MessageId.{MessageId}
use Rattle.hw_routes.specs.Alternatives.{◌>>=◌, path_message, without}
use Rattle.hw_routes.specs.declared.actions.PostAction.{PostAction}
use Rattle.hw_routes.specs.declared.actions.PostAction.TheVariants as action
use Rattle.hw_values.specs.Forms.{Pairs, any_given, is_given, needed, optional}
use Rattle.hw_values.specs.Json.{stream_ref_of, user_in, values_of}
use Rattle.hw_values.specs.Numbers.{stream_of}
use Rattle.hw_values.specs.Words.{mode_of, type_of}
use Rattle.hw_values.specs.declared.fault.ValueFault.{ValueFault}
use Rattle.hw_values.specs.declared.fault.ValueFault.TheVariants.{Missing}
use Rattle.hw_values.specs.declared.param.Param.{Param}
use Rattle.hw_values.specs.declared.param.Param.TheVariants as param
use Rattle.hw_values.specs.declared.words.MessageType.{MessageType}
use Rattle.hw_values.specs.declared.words.MessageType.TheVariants as kind
use Rattle.zr_types.specs.declared.command.Mode.TheVariants.{One}
use Rattle.zr_types.specs.declared.command.PostCommand.{PostCommand}
use Rattle.zr_types.specs.declared.command.PostCommand.TheVariants.{SendStream, SendDm, EditContent, Move, Delete}

unfoldable pub send_stream : Pairs → Result PostCommand ValueFault
send_stream pairs = do
  to ← needed stream_ref_of param.To pairs
  topic ← needed Some param.Topic pairs
  content ← needed Some param.Content pairs
  Ok (SendStream to topic content)

unfoldable pub send_direct : Pairs → Result PostCommand ValueFault
send_direct pairs = do
  users ← needed (values_of user_in) param.To pairs
  content ← needed Some param.Content pairs
  Ok (SendDm users content)

abbrev pub send_by : MessageType → Pairs → Result PostCommand ValueFault
send_by kind.Stream pairs = send_stream pairs
send_by kind.Direct pairs = send_direct pairs

-- to a stream or to users, as the type says
unfoldable pub send : Pairs → Result PostCommand ValueFault
send pairs = needed type_of param.Type pairs >>= λ type. send_by type pairs

-- the parameters of a move
abbrev pub of_move : List Param
of_move = param.StreamId ∷ param.Topic ∷ param.PropagateMode ∷ []

unfoldable pub edit : MessageId → Pairs → Result PostCommand ValueFault
edit message pairs = do
  content ← needed Some param.Content pairs
  _ ← without param.StreamId of_move pairs
  Ok (EditContent message content)

unfoldable pub move_message : MessageId → Pairs → Result PostCommand ValueFault
move_message message pairs = do
  stream ← optional stream_of param.StreamId pairs
  topic ← optional Some param.Topic pairs
  mode ← optional mode_of param.PropagateMode pairs
  Ok (Move message stream topic (unwrap_or mode One))

-- an edit or a move
unfoldable pub change : MessageId → Pairs → Result PostCommand ValueFault
change message pairs =
    if is_given pairs param.Content then edit message pairs
    else if any_given of_move pairs then move_message message pairs
    else Err (Missing param.Content)

-- the command of an action on messages
abbrev pub post_command : PostAction → List ℕ → Pairs → Result PostCommand ValueFault
post_command action.Send path pairs = send pairs
post_command action.Change path pairs = path_message path >>= λ message. change message pairs
post_command action.Delete path pairs = path_message path >>= λ message. Ok (Delete message)
