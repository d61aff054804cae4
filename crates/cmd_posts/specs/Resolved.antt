-- What a check makes of a command, beside who gave it and when.
use Rattle.std.specs.Prelude.{◌≡◌}
use Rattle.ev_base.specs.declared.ids.UserId.{UserId}
use Rattle.zr_types.specs.declared.command.Command.TheVariants.{Posts}
use Rattle.zr_types.specs.declared.command.PostCommand.{PostCommand}
use Rattle.zr_types.specs.Tables.{Tables}
use Rattle.zr_types.specs.Checks.{ids_of, resolved_post, stored_texts}
use Rattle.cmd_posts.specs.declared.checks.Resolved.{Resolved}

-- the command with what it names found, the texts that it stores, and those whom it concerns
pub record IsResolved (tables : Tables) (actor : UserId) (given : PostCommand) (made : Resolved) : Type 0 where
  pub command : made.command ≡ resolved_post tables actor given
  pub texts : made.texts ≡ stored_texts tables actor (Posts given)
  pub ids : made.ids ≡ ids_of tables actor (Posts given)
