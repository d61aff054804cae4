-- What holds of a user's views after any commits.
use Rattle.std.proofs.Common.{List, [], ◌∷◌}
use Rattle.ev_base.specs.declared.ids.UserId.{UserId}
use Rattle.ev_types.specs.Comparable.{Comparable}
use Rattle.ev_types.specs.Sections.{SectionsSorted}
use Rattle.zw_views.specs.Laws.{IsCounted}
use Rattle.zw_views.proofs.ViewLemmas.{sections_rise}
use Rattle.zw_views.proofs.ViewsCompare.{opening_counted, stays_counted, successive_views}
use Rattle.zw_traces.specs.RealmTrace.{Accepted, state_of, view_in}

-- the tables are numbered and sorted
pub state_counted : (all : List Accepted) → IsCounted (state_of all)
state_counted [] = opening_counted
state_counted (accepted ∷ before) = stays_counted (state_of before) (state_counted before) accepted.actor accepted.moment accepted.command

pub view_sorted : (user : UserId) (all : List Accepted) → SectionsSorted (view_in user all)
view_sorted user all = sections_rise (state_of all).tables (state_counted all).sorted user

pub comparable_commit : (user : UserId) (accepted : Accepted) (before : List Accepted) → Comparable (view_in user before) (view_in user (accepted ∷ before))
comparable_commit user accepted before = successive_views (state_of before) (state_counted before) accepted.actor accepted.moment accepted.command user
