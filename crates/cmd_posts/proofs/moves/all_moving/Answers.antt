-- The chain keeps the messages that move, and takes their numbers.
use Rattle.std.proofs.Common.{◌≡◌, filter, map, rules, tests}
use Rattle.std.proofs.lemmas.Iterator.{YieldsList-from_map, YieldsList-from_slice, items_from_collect}
use Rattle.std.proofs.lemmas.Iterator.Consumers.{YieldsList-at, YieldsList-from_filter}
use Rattle.ev_base.specs.declared.ids.MessageId.{MessageId}
use Rattle.zr_types.specs.declared.posts.Message.{Message}
use Rattle.zr_types.specs.Commands.{moves_with}
use Rattle.cmd_posts.proofs.moves.all_moving.Goals as goal

pub returns : goal.returns
returns c =
    let rows = c.args.rows.now in
    let test = moves_with c.args.mode c.args.message c.args.at.now in
    let collected = items_from_collect c.collect.result c.collect.ensures.ran
    (YieldsList-from_map _ (λ (row : MessageId × Message). row.0.0)
    (YieldsList-at c.map.ensures.source
    (YieldsList-from_filter _ test (YieldsList-from_slice rows (cc)) c.filter.ensures.closure (λ x b q called. search (rules, tests))))
    c.map.ensures.closure (λ x r q called. search rules)) in
    let held : c.in_ok-ids.ids.items ≡ map (λ (row : MessageId × Message). row.0.0) (filter test rows) = search (rules, collected) in
    search (rules, held)
