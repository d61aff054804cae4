use Rattle.std.proofs.Common.{◌∙◌, codes, ap₂}
use Rattle.std.proofs.lemmas.Result.{IfOk-weaker}
use Rattle.ev_types.specs.Sections.{sections_of}
use Rattle.ev_wire.specs.Rows.{message_data, reaction_data, starred_data, unread_data}
use Rattle.ev_wire.specs.Values.{put_some}
use Rattle.ev_wire.proofs.Told.{borrowed_rows}
use Rattle.ev_wire.proofs.sections.section_members.Goals as goal

pub returns : goal.returns
returns c =
    let state = sections_of c.args.state.now in
    let messages = c.in_ok-with_rows.ensures ∙ ap₂ (put_some (codes "messages")) (borrowed_rows message_data c.rows_of.result state.messages c.rows_of.ensures) c.in_ok-members.ensures in
    let reactions = c.in_ok-with_rows-2.ensures ∙ ap₂ (put_some (codes "reactions")) (borrowed_rows reaction_data c.rows_of-2.result state.reactions c.rows_of-2.ensures) messages in
    let starred = c.in_ok-with_rows-3.ensures ∙ ap₂ (put_some (codes "starred_messages")) (borrowed_rows starred_data c.rows_of-3.result state.starred_messages c.rows_of-3.ensures) reactions in
    IfOk-weaker c.with_rows-4.result _ _
    (λ members is. is ∙ ap₂ (put_some (codes "unread_msgs")) (borrowed_rows unread_data c.rows_of-4.result state.unread_messages c.rows_of-4.ensures) starred) c.with_rows-4.ensures
