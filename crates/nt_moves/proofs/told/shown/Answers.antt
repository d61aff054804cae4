use Rattle.std.proofs.Common.{◌≡◌, ◌∙◌, ◌++◌, ◌∷◌, ◌<◌, [], Option, None, Some, ap, arith, append-nil, get_or, length, sym, take}
use Rattle.std.specs.List.{filter_map}
use Rattle.std.specs.Option.{option_to_list}
use Rattle.ev_base.specs.declared.ids.MessageId.{MessageId}
use Rattle.ev_types.specs.declared.rows.ShownMessage.{ShownMessage}
use Rattle.ev_laws.proofs.Loops.{filter_map_next}
use Rattle.nt_moves.specs.MoveParts.{shown_in}
use Rattle.nt_moves.proofs.told.shown.Goals as goal
use Rattle.nt_moves.proofs.told.shown.Goals.{in-Some+in_ok-push, in_default}

pub loop-message-preserved : goal.loop-message-preserved
loop-message-preserved c =
    let make = shown_in c.args.realm.now.state.tables c.args.user c.args.moves.now.into c.args.moves.now.topic.now in
    let messages = c.args.moves.now.moved.now in
    let at = c.loop-message.message-index in
    let none : MessageId = record { 0 = 0 } in
    let within : at < length messages = omega arith in
    let next = filter_map_next make messages at none within in
    elim c.match-branch-2.branch [
      | in-Some+in_ok-push w ↦
          let is : make (get_or messages at none) ≡ Some w.in-Some.row = sym c.in_ok-row.ensures ∙ w.in-Some.is in
          ap (λ v. v.items) w.rows-is ∙ w.in_ok-push.ensures.items ∙ ap (λ rows. rows ++ w.in-Some.row ∷ []) c.loop-message.invariant
          ∙ sym (next ∙ ap (λ (o : Option (MessageId × ShownMessage)). filter_map make (take at messages) ++ option_to_list o) is)
      | in_default w ↦
          let is : make (get_or messages at none) ≡ None = sym c.in_ok-row.ensures ∙ w.in_default.is in
          ap (λ v. v.items) w.rows-is ∙ c.loop-message.invariant
          ∙ sym (next ∙ ap (λ (o : Option (MessageId × ShownMessage)). filter_map make (take at messages) ++ option_to_list o) is ∙ append-nil (filter_map make (take at messages)))
    ]
