-- A change of streams that a check made has the effect and the texts of the command that was checked.
use Rattle.std.proofs.Common.{◌≡◌, ℕ, ap, sym}
use Rattle.ev_base.specs.declared.ids.UserId.{UserId}
use Rattle.ev_base.specs.declared.ids.MessageId.{MessageId}
use Rattle.nt_streams.specs.StreamParts.{texts_in}
use Rattle.zr_types.specs.Checks.{resolved, stored_texts}
use Rattle.zr_types.specs.declared.command.Command.{Command}
use Rattle.zr_types.specs.declared.command.Command.TheVariants.{Marks, People, Posts, Streams}
use Rattle.zr_types.specs.declared.command.StreamCommand.{StreamCommand}
use Rattle.zr_types.specs.Effects.{effect, stream_effect}
use Rattle.zr_types.specs.Tables.{Tables}

module _ (tables : Tables) (actor : UserId) (streams : StreamCommand) where
  abbrev streams_in : Command → StreamCommand
  streams_in (Streams command) = command
  streams_in command = streams

  pub same_effect : (moment : ℕ) (new : MessageId) (command : Command) → Streams streams ≡ resolved tables actor command
      → stream_effect actor streams tables ≡ effect actor moment new command tables
  same_effect moment new (People command) is = cc
  same_effect moment new (Streams command) is = ap (λ c. stream_effect actor (streams_in c) tables) is
  same_effect moment new (Posts command) is = cc
  same_effect moment new (Marks command) is = cc

  pub same_texts : (command : Command) → Streams streams ≡ resolved tables actor command → stored_texts tables actor command ≡ texts_in tables actor streams
  same_texts (People command) is = cc
  same_texts (Streams command) is = ap (λ c. texts_in tables actor (streams_in c)) (sym is)
  same_texts (Posts command) is = cc
  same_texts (Marks command) is = cc
