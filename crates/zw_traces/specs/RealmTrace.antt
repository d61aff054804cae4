-- A trace of steps of the realm, the latest first, and which replies are right.
use Rattle.std.specs.Prelude.{◌≡◌, ℕ, ◌+◌, ◌-◌, ◌≤◌, Bool, true, false, Option, None, Some, List, [], ◌∷◌, length, drop, min}
use Rattle.ev_base.specs.declared.ids.UserId.{UserId}
use Rattle.ev_types.specs.declared.notice.Notice.{Notice}
use Rattle.ev_types.specs.Sections.{Sections}
use Rattle.ev_types.specs.Audiences.{events_for}
use Rattle.ev_types.specs.Changes.{changes_between}
use Rattle.zr_types.specs.declared.command.Command.{Command}
use Rattle.zr_types.specs.declared.command.Command.TheVariants.{People}
use Rattle.zr_types.specs.declared.command.PeopleCommand.TheVariants as of_people
use Rattle.zr_types.specs.Tables.{RealmState, opening_state}
use Rattle.zr_types.specs.Visibility.{is_active_user}
use Rattle.zr_types.specs.Refusals.{refusal}
use Rattle.zr_types.specs.Effects.{after_command, made_by}
use Rattle.zr_types.specs.Commits.{changed_by}
use Rattle.zw_views.specs.Views.{view_of, section_of}
use Rattle.zw_traces.specs.declared.realm.RealmInput.{RealmInput}
use Rattle.zw_traces.specs.declared.realm.RealmInput.TheVariants.{Commit, Fetch, NoticeAll, Take}
use Rattle.zw_traces.specs.declared.realm.RealmReply.{RealmReply}
use Rattle.zw_traces.specs.declared.realm.RealmStep.{RealmStep}
use Rattle.zw_traces.specs.declared.realm.RealmReply.TheVariants as reply

-- an accepted command, with who asked for it and when
pub record Accepted : Type 0 where
  pub actor : UserId
  pub moment : ℕ
  pub command : Command

-- the accepted commands of a trace, the latest first
abbrev pub commands_after : RealmInput → RealmReply → List Accepted → List Accepted
commands_after (Commit actor moment command) (reply.Committed made) before = record { actor = actor; moment = moment; command = command } ∷ before
commands_after input reply before = before

abbrev pub commands : List RealmStep → List Accepted
commands [] = []
commands (step ∷ before) = commands_after step.input step.reply (commands before)

-- how many commits a trace has
abbrev pub commits : List RealmStep → ℕ
commits trace = length (commands trace)

-- the greatest number of commits that the realm announced, which is that of the latest announcement
abbrev pub announced_after : RealmInput → RealmReply → ℕ → ℕ
announced_after NoticeAll (reply.Noticed count) before = count
announced_after input reply before = before

abbrev pub announced_count : List RealmStep → ℕ
announced_count [] = 0
announced_count (step ∷ before) = announced_after step.input step.reply (announced_count before)

-- the realm after these commands, the latest first
abbrev pub state_of : List Accepted → RealmState
state_of [] = opening_state
state_of (accepted ∷ before) = after_command accepted.actor accepted.moment accepted.command (state_of before)

-- the first n of these, of a list with the latest first
abbrev pub prefix_of : {X : Type 0} → ℕ → List X → List X
prefix_of n list = drop (length list - n) list

-- a user's view after these commands
abbrev pub view_in : UserId → List Accepted → Sections
view_in user list = view_of (state_of list).tables user

-- a user's view after the first n of these commands
abbrev pub view_after : UserId → ℕ → List Accepted → Sections
view_after user n all = view_in user (prefix_of n all)

-- a user is active after the first n of these commands
abbrev pub is_active_after : UserId → ℕ → List Accepted → Bool
is_active_after user n all = is_active_user (state_of (prefix_of n all)).tables user

-- the user whom a command deactivates
abbrev pub deactivated_by : Command → Option UserId
deactivated_by (People (of_people.UserDeactivate user)) = Some user
deactivated_by command = None

-- the user whom the latest of these commands deactivated
abbrev pub deactivated_user : List Accepted → Option UserId
deactivated_user [] = None
deactivated_user (accepted ∷ before) = deactivated_by accepted.command

-- a notice tells each user what the commit with this number changed in that user's view, and whom it deactivated;
-- commits count from 1
pub record IsNotice (all : List Accepted) (number : ℕ) (notice : Notice) : Type 0 where
  pub from_one : 1 ≤ number
  pub numbered : notice.number ≡ number
  pub ends : notice.ends ≡ deactivated_user (prefix_of number all)
  pub tells : (user : UserId) →
      events_for user notice ≡ changes_between (view_after user (number - 1) all) (view_after user number all)

-- these are the notices of the commits from this number on
abbrev pub AreNotices : List Accepted → ℕ → List Notice → Type 0
AreNotices all number [] = Unit {0}
AreNotices all number (notice ∷ list) = IsNotice all number notice × AreNotices all (number + 1) list

-- no more notices than these are handed out at once
abbrev pub max_taken : ℕ
max_taken = 256

-- the reply is right after these steps
abbrev pub RealmAnswers : List RealmStep → RealmInput → RealmReply → Type 0
RealmAnswers before (Commit actor moment command) (reply.Committed made) =
    (refusal (state_of (commands before)) actor command ≡ None)
    × (made.number ≡ commits before + 1)
    × (made.id ≡ made_by (state_of (commands before)) command)
    × (made.changed ≡ changed_by (state_of (commands before)).tables actor command)
RealmAnswers before (Commit actor moment command) (reply.Refused why) =
    refusal (state_of (commands before)) actor command ≡ Some why
RealmAnswers before (Commit actor moment command) reply.NoMemory = Unit {0}
RealmAnswers before (Fetch user section) (reply.Section rows at) =
    (is_active_user (state_of (commands before)).tables user ≡ true)
    × (rows ≡ section_of section (view_in user (commands before)))
    × (at ≡ commits before)
RealmAnswers before (Fetch user section) reply.FetchRefused = is_active_user (state_of (commands before)).tables user ≡ false
RealmAnswers before (Fetch user section) reply.NoMemory = Unit {0}
RealmAnswers before NoticeAll (reply.Noticed count) = count ≡ commits before
RealmAnswers before (Take first) (reply.Notices from list) =
    (from ≡ first) × AreNotices (commands before) first list × (length list ≡ min max_taken (announced_count before + 1 - first))
RealmAnswers before (Take first) reply.NoMemory = Unit {0}
RealmAnswers before input reply = ⊥

-- each reply of the trace is right after the steps before it
abbrev pub IsLegalRealm : List RealmStep → Type 0
IsLegalRealm [] = Unit {0}
IsLegalRealm (step ∷ before) = RealmAnswers before step.input step.reply × IsLegalRealm before
