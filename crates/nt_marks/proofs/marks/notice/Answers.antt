use Rattle.std.proofs.Common.{◌≡◌, ◌∙◌, None, ap, arith, subst, sym}
use Rattle.ev_types.specs.Changes.{changes_between}
use Rattle.nt_rules.specs.Parts.{heard_of}
use Rattle.nt_marks.specs.MarkParts.{mark_parts}
use Rattle.nt_marks.proofs.Checked.{same_command, same_texts}
use Rattle.nt_marks.proofs.MarksTold.{marks_told}
use Rattle.nt_marks.proofs.marks.notice.Goals as goal
use Rattle.zr_realm.proofs.Outcome.{commits_fit}
use Rattle.zr_realm.specs.Parts.{messages_of}
use Rattle.zr_types.specs.Checks.{ids_of, stored_texts}
use Rattle.zr_types.specs.Effects.{after_command}
use Rattle.zr_types.specs.Refusals.{refusal}
use Rattle.zw_views.specs.Views.{view_of}

pub mark_parts-requires : goal.mark_parts-requires
mark_parts-requires c =
    let (command, is) = c.requires.checked in
    let tables = c.args.before.now.state.tables in
    let actor = c.args.change.now.actor in
    let same = same_command tables actor c.in-Marks.command command (sym c.in-Marks.is ∙ is.resolves) in
    c.as_slice-texts.ensures ∙ is.texts ∙ ap (stored_texts tables actor) same ∙ same_texts tables actor c.in-Marks.command

-- a check accepts no command past the greatest number of commits
pub overflow_add-result : goal.overflow_add-result
overflow_add-result c =
    let (command, is) = c.requires.checked in
    let fit = commits_fit c.args.before.now.state c.args.change.now command is in
    omega (arith, fit, c.commits.ensures)

pub returns-clause-tells : goal.returns-clause-tells
returns-clause-tells c = λ command is user.
    let state = c.args.before.now.state in
    let actor = c.args.change.now.actor in
    let same = same_command state.tables actor c.in-Marks.command command (sym c.in-Marks.is ∙ is.resolves) in
    let accepted = subst (λ named. refusal state actor named ≡ None) same is.accepted in
    let ids = c.as_slice-numbers.ensures ∙ is.ids ∙ ap (ids_of state.tables actor) same in
    ap (heard_of user) (c.from_vec.ensures ∙ c.in_ok-parts.ensures)
    ∙ ap (λ numbers. heard_of user (mark_parts state.tables actor (messages_of numbers) c.in-Marks.command)) ids
    ∙ marks_told state c.tables_are_sorted.ensures actor c.in-Marks.command accepted user
    ∙ ap (λ named. changes_between (view_of state.tables user) (view_of (after_command actor c.args.change.now.moment named state).tables user)) (sym same)
