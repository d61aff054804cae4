-- What a user hears of the parts of a command of people is what it changes in the user's view.
use Rattle.std.proofs.Common.{◌≡◌, ℕ, true, false}
use Rattle.ev_base.specs.declared.ids.UserId.{UserId}
use Rattle.ev_types.specs.Changes.{changes_between}
use Rattle.nt_people.specs.PeopleParts.{people_parts}
use Rattle.nt_people.proofs.Added.{added_told, realm_told}
use Rattle.nt_people.proofs.Changed.{active_told, name_told, role_told}
use Rattle.nt_rules.specs.Parts.{heard_of}
use Rattle.zr_types.specs.declared.command.PeopleCommand.{PeopleCommand}
use Rattle.zr_types.specs.declared.command.PeopleCommand.TheVariants as of_people
use Rattle.zr_types.specs.Effects.{people_effect}
use Rattle.zr_types.specs.Sound.{IsSound, TablesSorted}
use Rattle.zr_types.specs.Tables.{Tables}
use Rattle.zw_views.specs.Views.{view_of}

pub people_told : (tables : Tables) (sent : ℕ) → TablesSorted tables → IsSound tables sent → (command : PeopleCommand) (hearer : UserId)
    → heard_of hearer (people_parts tables command) ≡ changes_between (view_of tables hearer) (view_of (people_effect command tables) hearer)
people_told tables sent rise sound (of_people.RealmUpdate property value) hearer = realm_told tables rise property value hearer
people_told tables sent rise sound (of_people.UserAdd email full_name role key) hearer = added_told tables sent rise sound _ hearer
people_told tables sent rise sound (of_people.UserUpdate user full_name) hearer = name_told tables rise user full_name hearer
people_told tables sent rise sound (of_people.UserRole user role) hearer = role_told tables rise user role hearer
people_told tables sent rise sound (of_people.UserDeactivate user) hearer = active_told tables rise user false hearer
people_told tables sent rise sound (of_people.UserReactivate user) hearer = active_told tables rise user true hearer
