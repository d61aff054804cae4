-- The closure compares a row's key.
use Rattle.std.proofs.Common.{rules}
use Rattle.std.proofs.lemmas.Fn.{always_returns_same}
use Rattle.ev_rows.proofs.PlaceLemmas.{place_from_search}
use Rattle.ev_base.specs.Orders.{reaction_cmp, reaction_order}
use Rattle.zr_types.specs.Tables.{ReactionKey}
use Rattle.cmd_marks.proofs.reactions.place.Goals as goal

pub returns-clause-place : goal.returns-clause-place
returns-clause-place c =
    let key : ReactionKey = (c.args.message, c.args.user, c.args.emoji.now) in
    let found = c.binary_search_by.ensures.position (λ row. reaction_cmp row.0 key) (always_returns_same _ _ _ (λ a r f' called. search rules)) in
    place_from_search reaction_order.total key c.args.rows.now c.binary_search_by.result c.requires c.binary_search_by.ensures.bound found
