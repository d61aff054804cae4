-- What a check and a commit of a command give.
use Rattle.std.specs.Prelude.{◌≡◌, ℕ, ◌+◌, List, [], Option, None, Some, Result, Err}
use Rattle.ev_base.specs.declared.ids.UserId.{UserId}
use Rattle.zr_types.specs.declared.command.Command.{Command}
use Rattle.zr_types.specs.declared.command.Command.TheVariants.{Marks}
use Rattle.zr_types.specs.declared.command.Change.{Change}
use Rattle.zr_types.specs.declared.command.Refusal.{Refusal}
use Rattle.zr_types.specs.declared.command.Committed.{Committed}
use Rattle.zr_types.specs.declared.command.CommitFault.{CommitFault}
use Rattle.zr_types.specs.declared.command.CommitFault.TheVariants.{Refused}
use Rattle.zr_types.specs.Tables.{Tables, RealmState}
use Rattle.zr_types.specs.Refusals.{refusal}
use Rattle.zr_types.specs.Effects.{after_command, made_by}
use Rattle.zr_types.specs.Checks.{IsChangeOf, ids_of}

-- the reason for which a result refuses. There is none where it accepts, and none where memory is lacking
abbrev pub refusal_in : {X : Type 0} → Result X CommitFault → Option Refusal
refusal_in (Err (Refused why)) = Some why
refusal_in result = None

-- the change is what a check makes of this command of this actor at this moment
pub record IsChecked (state : RealmState) (actor : UserId) (moment : ℕ) (command : Command) (change : Change) : Type 0 where
  pub by_actor : change.actor ≡ actor
  pub at_moment : change.moment ≡ moment
  pub is_change : IsChangeOf state command change

-- the messages whose flags a command changes, rising
abbrev pub changed_by : Tables → UserId → Command → List ℕ
changed_by tables actor (Marks command) = ids_of tables actor (Marks command)
changed_by tables actor command = []

-- a command of this actor at this moment was accepted: the realm after it, and what is told of it
pub record IsCommitted (before : RealmState) (after : RealmState) (actor : UserId) (moment : ℕ) (command : Command) (made : Committed) : Type 0 where
  pub accepted : refusal before actor command ≡ None
  pub state : after ≡ after_command actor moment command before
  pub number : made.number ≡ before.commits + 1
  pub id : made.id ≡ made_by before command
  pub changed : made.changed ≡ changed_by before.tables actor command
