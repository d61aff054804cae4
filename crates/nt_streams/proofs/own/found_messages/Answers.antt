use Rattle.std.proofs.Common.{◌∙◌, List, ◌++◌, ap, map}
use Rattle.ev_types.specs.Changes.{arrivals, full_message}
use Rattle.ev_types.specs.declared.event.Event.{Event}
use Rattle.nt_streams.proofs.own.found_messages.Goals as goal

pub returns : goal.returns
returns c =
    let reactions = c.args.realm.now.state.tables.reactions in
    c.in_ok-push_arrived.ensures
    ∙ ap (λ (l : List Event). l ++ arrivals (map (full_message reactions) c.into_vec.result.items)) c.new-events.ensures.items
    ∙ ap (λ rows. arrivals (map (full_message reactions) rows)) (c.into_vec.ensures.rows ∙ c.in_ok-shown.ensures)
