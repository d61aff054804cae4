use Rattle.std.proofs.Common.{◌∙◌, List, ◌++◌, ap, rules}
use Rattle.ev_rows.specs.Rows.{keys_of, one_of}
use Rattle.ev_types.specs.declared.event.Event.{Event}
use Rattle.ev_types.specs.declared.event.Event.TheVariants.{MessageGone}
use Rattle.nt_streams.proofs.own.gone.Goals as goal

pub returns : goal.returns
returns c =
    let told = c.in_ok-push_one_of.ensures MessageGone (λ list made called. search rules) in
    told
    ∙ ap (λ (l : List Event). l ++ one_of MessageGone c.in_ok-gone.gone.items) c.new-events.ensures.items
    ∙ ap (λ keys. one_of MessageGone keys) (c.in_ok-gone.ensures ∙ ap keys_of c.in_ok-shown.ensures)
