use Rattle.std.proofs.Common.{◌∙◌, ◌<◌, ap, arith, subst, sym}
use Rattle.ev_types.specs.Changes.{changes_between}
use Rattle.nt_rules.specs.Parts.{heard_of}
use Rattle.zr_realm.proofs.Outcome.{commits_fit, ready}
use Rattle.zr_realm.specs.Room.{new_streams}
use Rattle.zr_types.specs.Effects.{next_message}
use Rattle.zw_views.specs.Views.{view_of}
use Rattle.nt_streams.proofs.Checked.{same_effect, same_texts}
use Rattle.nt_streams.proofs.StreamsTold.{streams_told}
use Rattle.nt_streams.proofs.streams.notice.Goals as goal

pub stream_parts-requires-clause-texts : goal.stream_parts-requires-clause-texts
stream_parts-requires-clause-texts c =
    let (command, is) = c.requires.checked in
    c.as_slice.ensures ∙ is.texts ∙ same_texts c.args.before.now.state.tables c.args.change.now.actor c.in-Streams.command command (sym c.in-Streams.is ∙ is.resolves)

pub stream_parts-requires-clause-number : goal.stream_parts-requires-clause-number
stream_parts-requires-clause-number c = λ more.
    let (command, is) = c.requires.checked in
    (ready c.args.before.now.state c.args.change.now command is c.tables_are_sorted.ensures).streams (subst (λ named. 0 < new_streams named) (sym c.in-Streams.is) more)

-- a check accepts no command past the greatest number of commits
pub overflow_add-result : goal.overflow_add-result
overflow_add-result c =
    let (command, is) = c.requires.checked in
    let fit = commits_fit c.args.before.now.state c.args.change.now command is in
    omega (arith, fit, c.commits.ensures)

pub returns-clause-tells : goal.returns-clause-tells
returns-clause-tells c = λ command is user.
    let tables = c.args.before.now.state.tables in
    let effect = same_effect tables c.args.change.now.actor c.in-Streams.command c.args.change.now.moment (next_message c.args.before.now.state) command (sym c.in-Streams.is ∙ is.resolves) in
    ap (heard_of user) (c.from_vec.ensures ∙ c.in_ok-parts.ensures)
    ∙ streams_told tables c.args.before.now.state.sent c.tables_are_sorted.ensures c.tables_are_sound.ensures c.args.change.now.actor user c.in-Streams.command
    ∙ ap (λ after. changes_between (view_of tables user) (view_of after user)) effect
