use Rattle.std.proofs.Common.{◌∙◌, ◌<◌, ap, arith, subst, sym}
use Rattle.ev_types.specs.Changes.{changes_between}
use Rattle.nt_rules.specs.Parts.{heard_of}
use Rattle.zr_realm.proofs.Outcome.{commits_fit, ready}
use Rattle.zr_realm.specs.Room.{new_users}
use Rattle.zr_types.specs.Effects.{next_message}
use Rattle.zw_views.specs.Views.{view_of}
use Rattle.nt_people.proofs.Checked.{same_effect, same_texts}
use Rattle.nt_people.proofs.PeopleTold.{people_told}
use Rattle.nt_people.proofs.people.notice.Goals as goal

pub people_parts-requires-clause-texts : goal.people_parts-requires-clause-texts
people_parts-requires-clause-texts c =
    let (command, is) = c.requires.checked in
    c.as_slice.ensures ∙ is.texts ∙ same_texts c.args.before.now.state.tables c.args.change.now.actor c.in-People.command command (sym c.in-People.is ∙ is.resolves)

pub people_parts-requires-clause-users : goal.people_parts-requires-clause-users
people_parts-requires-clause-users c = λ more.
    let (command, is) = c.requires.checked in
    (ready c.args.before.now.state c.args.change.now command is c.tables_are_sorted.ensures).users (subst (λ named. 0 < new_users named) (sym c.in-People.is) more)

-- a check accepts no command past the greatest number of commits
pub overflow_add-result : goal.overflow_add-result
overflow_add-result c =
    let (command, is) = c.requires.checked in
    let fit = commits_fit c.args.before.now.state c.args.change.now command is in
    omega (arith, fit, c.commits.ensures)

pub returns-clause-tells : goal.returns-clause-tells
returns-clause-tells c = λ command is user.
    let tables = c.args.before.now.state.tables in
    let effect = same_effect tables c.args.change.now.actor c.in-People.command c.args.change.now.moment (next_message c.args.before.now.state) command (sym c.in-People.is ∙ is.resolves) in
    ap (heard_of user) (c.from_vec.ensures ∙ c.in_ok-parts.ensures)
    ∙ people_told tables c.args.before.now.state.sent c.tables_are_sorted.ensures c.tables_are_sound.ensures c.in-People.command user
    ∙ ap (λ after. changes_between (view_of tables user) (view_of after user)) effect
