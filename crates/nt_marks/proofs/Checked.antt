-- A change of flags or reactions that a check made has the effect, the texts and the ids of the command that was checked.
use Rattle.std.proofs.Common.{◌≡◌, refl, sym}
use Rattle.ev_base.specs.declared.ids.UserId.{UserId}
use Rattle.nt_marks.specs.MarkParts.{texts_in}
use Rattle.zr_types.specs.Checks.{resolved, stored_texts}
use Rattle.zr_types.specs.Tables.{Tables}
use Rattle.zr_types.specs.declared.command.Command.{Command}
use Rattle.zr_types.specs.declared.command.Command.TheVariants.{Marks, People, Posts, Streams}
use Rattle.zr_types.specs.declared.command.MarkCommand.{MarkCommand}
use Rattle.zr_types.specs.declared.command.MarkCommand.TheVariants as of_marks

-- the command that is checked is the change's
pub same_command : (tables : Tables) (actor : UserId) (marks : MarkCommand) (command : Command) → Marks marks ≡ resolved tables actor command → command ≡ Marks marks
same_command tables actor marks (Marks command) is = sym is
same_command tables actor marks (People command) is = cc
same_command tables actor marks (Streams command) is = cc
same_command tables actor marks (Posts command) is = cc

pub same_texts : (tables : Tables) (actor : UserId) (marks : MarkCommand) → stored_texts tables actor (Marks marks) ≡ texts_in marks
same_texts tables actor (of_marks.Flags add flag messages) = refl
same_texts tables actor (of_marks.ReactionAdd message emoji) = refl
same_texts tables actor (of_marks.ReactionRemove message emoji) = refl
