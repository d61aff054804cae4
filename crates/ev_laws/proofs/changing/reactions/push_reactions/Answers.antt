use Rattle.std.specs.Bool.{⊤}
use Rattle.std.proofs.Common.{◌∙◌, ◌++◌, List, ap, map, rules}
use Rattle.std.proofs.lemmas.Result.{IfOk-equal}
use Rattle.ev_types.specs.Sections.{ReactionKey}
use Rattle.ev_types.specs.declared.event.Event.{Event}
use Rattle.ev_types.specs.declared.event.Event.TheVariants.{ReactionAdd, ReactionRemove}
use Rattle.ev_laws.proofs.Loops.{joined_last}
use Rattle.ev_laws.proofs.changing.reactions.push_reactions.Goals as goal

pub returns : goal.returns
returns c =
    let add : ReactionKey × ⊤ → Event = λ row. ReactionAdd row.0.0 row.0.1 row.0.2 in
    let remove : ReactionKey × ⊤ → Event = λ row. ReactionRemove row.0.0 row.0.1 row.0.2 in
    let added = c.in_ok-push_each.ensures add (λ item made called. search rules) ∙ ap (λ (rows : List (ReactionKey × ⊤)). c.args.events.now.items ++ map add rows) c.in_ok-added.ensures in
    let removed = c.push_each-2.ensures remove (λ item made called. search rules) in
    joined_last _ _ _ _ _ added _ (IfOk-equal _ _ _ _ removed (ap (λ (rows : List (ReactionKey × ⊤)). c.push_each.new.events.items ++ map remove rows) c.in_ok-removed.ensures))
