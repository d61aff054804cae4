use Rattle.std.proofs.Common.{◌∙◌, ◌++◌, ap, map, rules}
use Rattle.std.proofs.lemmas.Result.{IfOk-equal}
use Rattle.ev_rows.specs.Rows.{keys_of, one_of}
use Rattle.ev_types.specs.Changes.{arrivals, full_message}
use Rattle.ev_types.specs.declared.event.Event.TheVariants.{MessageGone}
use Rattle.ev_laws.proofs.Loops.{joined_last}
use Rattle.nt_people.proofs.sight.push_message_sight.Goals as goal

pub returns : goal.returns
returns c =
    let first = c.in_ok-push_arrived.ensures
    ∙ ap (λ rows. c.args.events.now.items ++ arrivals (map (full_message c.args.realm.now.state.tables.reactions) rows)) (c.into_vec.ensures.rows ∙ c.in_ok-shown.ensures) in
    let gone = c.push_one_of.ensures MessageGone (λ list made called. search rules) in
    let last = IfOk-equal _ _ _ _ gone (ap (λ keys. c.push_arrived.new.events.items ++ one_of MessageGone keys) (c.in_ok-gone-2.ensures ∙ ap keys_of c.in_ok-gone.ensures)) in
    joined_last _ _ _ _ _ first _ last
