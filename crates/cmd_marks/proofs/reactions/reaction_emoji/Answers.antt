-- The row at the found place is the reaction's.
use Rattle.std.proofs.Common.{◌∙◌, List, is_some, sym, ap}
use Rattle.std.specs.Prelude.{⊤}
use Rattle.ev_rows.specs.Rows.{row_at}
use Rattle.ev_rows.proofs.PlaceLemmas.{lookup-found, lookup-gap}
use Rattle.ev_base.specs.Orders.{reaction_cmp, reaction_order}
use Rattle.zr_types.specs.Tables.{ReactionKey}
use Rattle.cmd_marks.proofs.ReactionLemmas.{found_reaction}
use Rattle.cmd_marks.proofs.reactions.reaction_emoji.Goals as goal

pub returns-in-Ok-clause-there : goal.returns-in-Ok-clause-there
returns-in-Ok-clause-there c =
    let key : ReactionKey = (c.args.message, c.args.user, c.args.emoji.now) in
    let rows = c.reactions_rows-rows.result.now in
    let found = lookup-found (reaction_cmp key) rows c.in-Ok.at c.index-rows-at.result c.index-rows-at.is c.in-Ok.ensures.place in
    ap is_some (sym found ∙ ap (λ (all : List (ReactionKey × ⊤)). row_at reaction_cmp all key) (c.reactions_rows-rows.ensures.all ∙ c.marks.ensures))

pub returns-in-Ok-clause-same : goal.returns-in-Ok-clause-same
returns-in-Ok-clause-same c =
    let key : ReactionKey = (c.args.message, c.args.user, c.args.emoji.now) in
    sym (ap (λ (row : ReactionKey × ⊤). row.0.2) c.index-rows-at.is)
    ∙ ap (λ (k : ReactionKey). k.2) (found_reaction c.reactions_rows-rows.result.now key c.in-Ok.at c.index-rows-at.result c.index-rows-at.is c.in-Ok.ensures.place)

pub returns-in-Err-clause-there : goal.returns-in-Err-clause-there
returns-in-Err-clause-there c =
    let key : ReactionKey = (c.args.message, c.args.user, c.args.emoji.now) in
    let rise = rw (← c.reactions_rows-rows.ensures.all) at c.reactions_rows-rows.ensures.rise in
    let absent = lookup-gap reaction_order.total key c.reactions_rows-rows.result.now c.in-Err.field-0 rise c.in-Err.ensures.place in
    ap is_some (sym absent ∙ ap (λ (all : List (ReactionKey × ⊤)). row_at reaction_cmp all key) (c.reactions_rows-rows.ensures.all ∙ c.marks.ensures))
