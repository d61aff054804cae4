-- A change of people that a check made has the effect and the texts of the command that was checked.
use Rattle.std.proofs.Common.{◌≡◌, ℕ, ap, sym}
use Rattle.ev_base.specs.declared.ids.UserId.{UserId}
use Rattle.ev_base.specs.declared.ids.MessageId.{MessageId}
use Rattle.nt_people.specs.PeopleParts.{texts_in}
use Rattle.zr_types.specs.Checks.{resolved, stored_texts}
use Rattle.zr_types.specs.declared.command.Command.{Command}
use Rattle.zr_types.specs.declared.command.Command.TheVariants.{Marks, People, Posts, Streams}
use Rattle.zr_types.specs.declared.command.PeopleCommand.{PeopleCommand}
use Rattle.zr_types.specs.Effects.{effect, people_effect}
use Rattle.zr_types.specs.Tables.{Tables}

module _ (tables : Tables) (actor : UserId) (people : PeopleCommand) where
  abbrev people_in : Command → PeopleCommand
  people_in (People command) = command
  people_in command = people

  pub same_effect : (moment : ℕ) (new : MessageId) (command : Command) → People people ≡ resolved tables actor command
      → people_effect people tables ≡ effect actor moment new command tables
  same_effect moment new (People command) is = ap (λ c. people_effect (people_in c) tables) is
  same_effect moment new (Streams command) is = cc
  same_effect moment new (Posts command) is = cc
  same_effect moment new (Marks command) is = cc

  pub same_texts : (command : Command) → People people ≡ resolved tables actor command → stored_texts tables actor command ≡ texts_in tables people
  same_texts (People command) is = ap (λ c. texts_in tables (people_in c)) (sym is)
  same_texts (Streams command) is = cc
  same_texts (Posts command) is = cc
  same_texts (Marks command) is = cc
