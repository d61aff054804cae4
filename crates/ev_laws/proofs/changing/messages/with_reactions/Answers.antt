use Rattle.std.specs.Bool.{⊤}
use Rattle.std.proofs.Common.{◌∙◌, ℕ, List, ap, arith, map}
use Rattle.std.specs.BTreeMap.{is_at}
use Rattle.ev_base.specs.Orders.{message_cmp}
use Rattle.ev_base.specs.declared.ids.UserId.{UserId}
use Rattle.ev_types.specs.Sections.{ReactionKey}
use Rattle.ev_types.specs.declared.event.FullMessage.{FullMessage}
use Rattle.ev_laws.proofs.Loops.{take_whole}
use Rattle.ev_laws.proofs.Ranges.{map_filter}
use Rattle.ev_laws.proofs.changing.messages.with_reactions.Goals as goal

pub returns : goal.returns
returns c =
    let told : ReactionKey × ⊤ → UserId × List ℕ = λ reaction. (reaction.0.1, reaction.0.2) in
    let rows = c.reactions_to-key-items.result.now in
    let with : List (UserId × List ℕ) → FullMessage = λ reactions. record { message = c.args.message; row = c.args.row; reactions = reactions } in
    ap with
    (c.from_vec.ensures ∙ c.loop-key.invariant
    ∙ ap (map told) (take_whole rows c.loop-key.key-index (omega arith) ∙ c.reactions_to-key-items.ensures)
    ∙ map_filter (λ row. is_at (message_cmp c.args.message) row.0.0) told c.args.reactions.now)
