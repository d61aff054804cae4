-- What the core of a realm holds, and the traces that it represents.
use Rattle.std.specs.Prelude.{◌≡◌, ℕ, ◌≤◌, List, length}
use Rattle.ev_types.specs.declared.notice.Notice.{Notice}
use Rattle.zr_types.specs.Tables.{RealmState}
use Rattle.zw_traces.specs.declared.realm.RealmInput.{RealmInput}
use Rattle.zw_traces.specs.declared.realm.RealmInput.TheVariants.{Take}
use Rattle.zw_traces.specs.declared.realm.RealmStep.{RealmStep}
use Rattle.zw_traces.specs.RealmTrace.{AreNotices, IsLegalRealm, announced_count, commands, commits, state_of}

-- the realm, a notice for each commit, and how many of these were announced
pub record CoreState : Type 0 where
  pub realm : RealmState
  pub notices : List Notice
  pub announced : ℕ

-- the core holds what these steps made, and answered each of them rightly
pub record RealmRepresents (core : CoreState) (trace : List RealmStep) : Type 0 where
  pub realm : core.realm ≡ state_of (commands trace)
  pub notices : AreNotices (commands trace) 1 core.notices
  pub count : length core.notices ≡ commits trace
  pub announced : core.announced ≡ announced_count trace
  pub legal : IsLegalRealm trace

-- notices are numbered from 1
abbrev pub IsProper : RealmInput → Type 0
IsProper (Take first) = 1 ≤ first
IsProper input = Unit {0}
