-- What requests ask of the realm and of users.
use Rattle.std.specs.Prelude.{ℕ, List, [], ◌∷◌, if◌then◌else◌, unwrap_or, Some, Result, Ok, Err}
use Rattle.ev_base.specs.declared.ids.UserId.{UserId}
use Rattle.ev_base.specs.declared.kinds.Role.TheVariants.{Member}
use Rattle.hw_routes.specs.Alternatives.{◌>>=◌, path_user, without}
use Rattle.hw_routes.specs.declared.actions.PeopleAction.{PeopleAction}
use Rattle.hw_routes.specs.declared.actions.PeopleAction.TheVariants as action
use Rattle.hw_values.specs.Forms.{Pairs, is_given, needed, optional}
use Rattle.hw_values.specs.Words.{role_of}
use Rattle.hw_values.specs.declared.fault.ValueFault.{ValueFault}
use Rattle.hw_values.specs.declared.fault.ValueFault.TheVariants.{Missing}
use Rattle.hw_values.specs.declared.param.Param.TheVariants as param
use Rattle.zr_types.specs.declared.command.NameField.TheVariants as field
use Rattle.zr_types.specs.declared.command.PeopleCommand.{PeopleCommand}
use Rattle.zr_types.specs.declared.command.PeopleCommand.TheVariants.{RealmUpdate, UserAdd, UserUpdate, UserRole, UserDeactivate, UserReactivate}

unfoldable pub rename_realm : Pairs → Result PeopleCommand ValueFault
rename_realm pairs = do
  value ← needed Some param.Name pairs
  _ ← without param.Description (param.Description ∷ []) pairs
  Ok (RealmUpdate field.Name value)

unfoldable pub describe_realm : Pairs → Result PeopleCommand ValueFault
describe_realm pairs = do
  value ← needed Some param.Description pairs
  Ok (RealmUpdate field.Description value)

-- the realm's name or its description
unfoldable pub change_realm : Pairs → Result PeopleCommand ValueFault
change_realm pairs =
    if is_given pairs param.Name then rename_realm pairs
    else if is_given pairs param.Description then describe_realm pairs
    else Err (Missing param.Name)

unfoldable pub add : Pairs → Result PeopleCommand ValueFault
add pairs = do
  email ← needed Some param.Email pairs
  full_name ← needed Some param.FullName pairs
  role ← optional role_of param.Role pairs
  key ← needed Some param.ApiKey pairs
  Ok (UserAdd email full_name (unwrap_or role Member) key)

unfoldable pub rename : UserId → Pairs → Result PeopleCommand ValueFault
rename user pairs = do
  full_name ← needed Some param.FullName pairs
  _ ← without param.Role (param.Role ∷ []) pairs
  Ok (UserUpdate user full_name)

unfoldable pub change_role : UserId → Pairs → Result PeopleCommand ValueFault
change_role user pairs = do
  role ← needed role_of param.Role pairs
  Ok (UserRole user role)

-- a user's name or role
unfoldable pub change : UserId → Pairs → Result PeopleCommand ValueFault
change user pairs =
    if is_given pairs param.FullName then rename user pairs
    else if is_given pairs param.Role then change_role user pairs
    else Err (Missing param.FullName)

-- the command of an action on the realm and on users
abbrev pub people_command : PeopleAction → List ℕ → Pairs → Result PeopleCommand ValueFault
people_command action.ChangeRealm path pairs = change_realm pairs
people_command action.Add path pairs = add pairs
people_command action.Change path pairs = path_user path >>= λ user. change user pairs
people_command action.Deactivate path pairs = path_user path >>= λ user. Ok (UserDeactivate user)
people_command action.Reactivate path pairs = path_user path >>= λ user. Ok (UserReactivate user)
