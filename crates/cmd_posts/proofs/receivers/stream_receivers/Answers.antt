-- The chain keeps the users who receive the message, and takes their numbers.
use Rattle.std.proofs.Common.{◌≡◌, ◌∙◌, ◌&&◌, ◌||◌, ◌==◌, filter, map, sym, rules, tests}
use Rattle.std.proofs.lemmas.Iterator.{YieldsList-from_map, YieldsList-from_slice, items_from_collect}
use Rattle.std.proofs.lemmas.Iterator.Consumers.{YieldsList-at, YieldsList-from_filter}
use Rattle.ev_base.specs.declared.ids.UserId.{UserId}
use Rattle.zr_types.specs.declared.people.User.{User}
use Rattle.zr_types.specs.Visibility.{is_subscribed}
use Rattle.cmd_posts.proofs.FoundRows.{map-keys_of}
use Rattle.cmd_posts.proofs.receivers.stream_receivers.Goals as goal

pub returns : goal.returns
returns c =
    let rows = c.args.realm.now.state.tables.users in
    let test = λ (row : UserId × User). (row.1.is_active && is_subscribed c.args.realm.now.state.tables row.0 c.args.stream) || row.0.0 == c.args.sender.0 in
    let collected = items_from_collect c.collect.result c.collect.ensures.ran
    (YieldsList-from_map _ (λ (row : UserId × User). row.0.0)
    (YieldsList-at c.map.ensures.source
    (YieldsList-from_filter _ test (YieldsList-from_slice rows (cc)) c.filter.ensures.closure (λ x b q called. search (rules, tests))))
    c.map.ensures.closure (λ x r q called. search rules)) in
    let held : c.in_ok-ids.ids.items ≡ map (λ (row : UserId × User). row.0.0) (filter test rows) = search (rules, collected) in
    c.from_vec.ensures ∙ held
    ∙ sym (map-keys_of (λ (user : UserId). user.0) (filter test rows))
