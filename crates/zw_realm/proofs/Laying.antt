-- A commit and the notice that is laid of it.
use Rattle.std.proofs.Common.{◌≡◌, ◌+◌, List, [], ◌∷◌, ◌++◌, length, length-append, refl, ap, sym, subst, ◌∙◌, arith}
use Rattle.ev_base.specs.declared.ids.UserId.{UserId}
use Rattle.ev_types.specs.declared.notice.Notice.{Notice}
use Rattle.ev_types.specs.Audiences.{events_for}
use Rattle.ev_types.specs.Changes.{changes_between}
use Rattle.zr_types.specs.declared.command.Change.{Change}
use Rattle.zr_types.specs.declared.command.Command.{Command}
use Rattle.zr_types.specs.declared.command.Command.TheVariants.{People, Streams, Posts, Marks}
use Rattle.zr_types.specs.declared.command.Committed.{Committed}
use Rattle.zr_types.specs.Tables.{RealmState, Tables}
use Rattle.zr_types.specs.Checks.{IsChangeOf, WasChecked, resolved}
use Rattle.zr_types.specs.Commits.{IsCommitted}
use Rattle.zr_types.specs.Effects.{after_command}
use Rattle.zw_views.specs.Laws.{IsCounted}
use Rattle.zw_views.specs.Views.{view_of}
use Rattle.zw_views.proofs.ViewsCompare.{stays_counted}
use Rattle.zw_traces.specs.RealmTrace.{deactivated_by}
use Rattle.zw_realm.specs.CoreStates.{CoreState}
use Rattle.zw_realm.specs.CoreSteps.{LaysNotice}

-- what a check makes of a command deactivates the same user
deactivated_by-resolved : (tables : Tables) (actor : UserId) (command : Command) → deactivated_by (resolved tables actor command) ≡ deactivated_by command
deactivated_by-resolved tables actor (People command) = refl
deactivated_by-resolved tables actor (Streams command) = refl
deactivated_by-resolved tables actor (Posts command) = refl
deactivated_by-resolved tables actor (Marks command) = refl

module _ (old : CoreState) (change : Change) (made : Committed) (after : RealmState)
    (committed : (command : Command) → IsChangeOf old.realm command change → IsCommitted old.realm after change.actor change.moment command made) where
  pub counted_after : WasChecked old.realm change → IsCounted old.realm → IsCounted after
  counted_after (command, is) counted = subst IsCounted (sym (committed command is).state) (stays_counted old.realm counted change.actor change.moment command)

  pub one_more_commit : WasChecked old.realm change → after.commits ≡ old.realm.commits + 1
  one_more_commit (command, is) = ap (λ (state : RealmState). state.commits) (committed command is).state

  -- a notice of what the change will make tells of the commit that made it
  pub lays_notice : (notice : Notice) → notice.number ≡ length old.notices + 1 → notice.ends ≡ deactivated_by change.command
      → ((command : Command) → IsChangeOf old.realm command change → (user : UserId) → events_for user notice
      ≡ changes_between (view_of old.realm.tables user) (view_of (after_command change.actor change.moment command old.realm).tables user))
      → (command : Command) → IsChangeOf old.realm command change
      → LaysNotice old change.actor change.moment command made (record { realm = after; notices = old.notices ++ notice ∷ []; announced = old.announced })
  lays_notice notice numbered ends tells command is = record {
    committed = committed command is;
    notice = notice;
    notices = refl;
    tells = record {
      numbered = numbered;
      ends = ends ∙ ap deactivated_by is.resolves ∙ deactivated_by-resolved old.realm.tables change.actor command;
      tells = λ user.
          tells command is user
          ∙ ap (λ (state : RealmState). changes_between (view_of old.realm.tables user) (view_of state.tables user)) (sym (committed command is).state);
    };
    announced = refl;
  }

-- a list with one more
pub one_longer : {X : Type 0} (list : List X) (last : X) → length (list ++ last ∷ []) ≡ length list + 1
one_longer list last = length-append list (last ∷ []) ∙ omega arith
