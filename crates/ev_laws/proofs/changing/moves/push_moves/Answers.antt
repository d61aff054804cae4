use Rattle.std.proofs.Common.{◌∙◌, ◌++◌, ap, map, rules}
use Rattle.std.proofs.lemmas.Result.{IfOk-equal}
use Rattle.ev_types.specs.declared.event.Event.TheVariants.{MessageMoved}
use Rattle.ev_laws.proofs.changing.moves.push_moves.Goals as goal

pub returns : goal.returns
returns c =
    let told = c.push_each.ensures (λ group. MessageMoved group.1 group.0.0 group.0.1) (λ item made called. search rules) in
    IfOk-equal _ _ _ _ told (ap (λ groups. c.args.events.now.items ++ map (λ group. MessageMoved group.1 group.0.0 group.0.1) groups) (c.into_vec.ensures.rows ∙ c.in_ok-moves.ensures))
