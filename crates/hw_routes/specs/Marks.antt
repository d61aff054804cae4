-- What requests ask of flags and reactions.
use Rattle.std.specs.Prelude.{ℕ, List, Some, Result, Ok}
use Rattle.hw_routes.specs.Alternatives.{◌>>=◌, path_message}
use Rattle.hw_routes.specs.declared.actions.MarkAction.{MarkAction}
use Rattle.hw_routes.specs.declared.actions.MarkAction.TheVariants as action
use Rattle.hw_values.specs.Forms.{Pairs, needed}
use Rattle.hw_values.specs.Json.{message_in, values_of}
use Rattle.hw_values.specs.Words.{flag_of, operation_of}
use Rattle.hw_values.specs.declared.fault.ValueFault.{ValueFault}
use Rattle.hw_values.specs.declared.param.Param.TheVariants as param
use Rattle.zr_types.specs.declared.command.MarkCommand.{MarkCommand}
use Rattle.zr_types.specs.declared.command.MarkCommand.TheVariants.{Flags, ReactionAdd, ReactionRemove}
use Rattle.zs_words.specs.Names.{adds}

unfoldable pub change_flags : Pairs → Result MarkCommand ValueFault
change_flags pairs = do
  messages ← needed (values_of message_in) param.Messages pairs
  operation ← needed operation_of param.Operation pairs
  flag ← needed flag_of param.Flag pairs
  Ok (Flags (adds operation) flag messages)

unfoldable pub add_reaction : List ℕ → Pairs → Result MarkCommand ValueFault
add_reaction path pairs = do
  message ← path_message path
  emoji ← needed Some param.EmojiName pairs
  Ok (ReactionAdd message emoji)

unfoldable pub remove_reaction : List ℕ → Pairs → Result MarkCommand ValueFault
remove_reaction path pairs = do
  message ← path_message path
  emoji ← needed Some param.EmojiName pairs
  Ok (ReactionRemove message emoji)

-- the command of an action on flags and reactions
abbrev pub mark_command : MarkAction → List ℕ → Pairs → Result MarkCommand ValueFault
mark_command action.ChangeFlags path pairs = change_flags pairs
mark_command action.AddReaction path pairs = add_reaction path pairs
mark_command action.RemoveReaction path pairs = remove_reaction path pairs
