-- What the core does with an input, on its data alone.
use Rattle.std.specs.Prelude.{◌≡◌, ℕ, ◌+◌, ◌-◌, true, false, Some, List, [], ◌∷◌, ◌++◌, length, drop, take, min}
use Rattle.ev_base.specs.declared.ids.UserId.{UserId}
use Rattle.ev_types.specs.declared.notice.Notice.{Notice}
use Rattle.ev_types.specs.Audiences.{events_for}
use Rattle.ev_types.specs.Changes.{changes_between}
use Rattle.zr_types.specs.declared.command.Command.{Command}
use Rattle.zr_types.specs.declared.command.Committed.{Committed as Made}
use Rattle.zr_types.specs.Tables.{RealmState}
use Rattle.zr_types.specs.Visibility.{is_active_user}
use Rattle.zr_types.specs.Refusals.{refusal}
use Rattle.zr_types.specs.Commits.{IsCommitted}
use Rattle.zw_views.specs.Views.{section_of, view_of}
use Rattle.zw_traces.specs.declared.realm.RealmInput.{RealmInput}
use Rattle.zw_traces.specs.declared.realm.RealmInput.TheVariants.{Commit, Fetch, NoticeAll, Take}
use Rattle.zw_traces.specs.declared.realm.RealmReply.{RealmReply}
use Rattle.zw_traces.specs.declared.realm.RealmReply.TheVariants.{Committed, Refused, Section, FetchRefused, Noticed, Notices, NoMemory}
use Rattle.zw_traces.specs.RealmTrace.{deactivated_by, max_taken}
use Rattle.zw_realm.specs.CoreStates.{CoreState}

-- the notice of a command's commit, which made this realm of that before
pub record TellsCommit (before after : RealmState) (number : ℕ) (command : Command) (notice : Notice) : Type 0 where
  pub numbered : notice.number ≡ number
  pub ends : notice.ends ≡ deactivated_by command
  pub tells : (user : UserId) → events_for user notice ≡ changes_between (view_of before.tables user) (view_of after.tables user)

-- a commit makes the command's effect, tells of it, and lays one notice
pub record LaysNotice (old : CoreState) (actor : UserId) (moment : ℕ) (command : Command) (made : Made) (new : CoreState) : Type 0 where
  pub committed : IsCommitted old.realm new.realm actor moment command made
  pub notice : Notice
  pub notices : new.notices ≡ old.notices ++ notice ∷ []
  pub tells : TellsCommit old.realm new.realm (length old.notices + 1) command notice
  pub announced : new.announced ≡ old.announced

-- the announced notices from this number on, no more than are handed out at once
abbrev pub notices_from : CoreState → ℕ → List Notice
notices_from core first = take (min max_taken (core.announced + 1 - first)) (drop (first - 1) core.notices)

-- what the core answers an input, and what it holds then
abbrev pub IsCoreStep : CoreState → RealmInput → RealmReply → CoreState → Type 0
IsCoreStep old (Commit actor moment command) (Committed made) new = LaysNotice old actor moment command made new
IsCoreStep old (Commit actor moment command) (Refused why) new = (refusal old.realm actor command ≡ Some why) × (new ≡ old)
IsCoreStep old (Commit actor moment command) NoMemory new = new ≡ old
IsCoreStep old (Fetch user section) (Section rows at) new =
    (is_active_user old.realm.tables user ≡ true)
    × (rows ≡ section_of section (view_of old.realm.tables user))
    × (at ≡ length old.notices)
    × (new ≡ old)
IsCoreStep old (Fetch user section) FetchRefused new = (is_active_user old.realm.tables user ≡ false) × (new ≡ old)
IsCoreStep old (Fetch user section) NoMemory new = new ≡ old
IsCoreStep old NoticeAll (Noticed count) new =
    (count ≡ length old.notices) × (new ≡ record old { announced = length old.notices })
IsCoreStep old (Take first) (Notices from list) new = (from ≡ first) × (list ≡ notices_from old first) × (new ≡ old)
IsCoreStep old (Take first) NoMemory new = new ≡ old
IsCoreStep old input reply new = ⊥
