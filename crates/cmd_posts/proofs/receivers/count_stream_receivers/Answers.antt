-- The chain keeps the users who receive the message.
use Rattle.std.proofs.Common.{◌∙◌, ◌&&◌, ◌||◌, ◌==◌, filter, sym, rules, tests}
use Rattle.std.proofs.lemmas.Iterator.{YieldsList-from_slice}
use Rattle.std.proofs.lemmas.Iterator.Consumers.{YieldsList-from_filter, count_from_yields_List}
use Rattle.std.proofs.lemmas.Map.Entries.{length-keys_of}
use Rattle.ev_base.specs.declared.ids.UserId.{UserId}
use Rattle.zr_types.specs.declared.people.User.{User}
use Rattle.zr_types.specs.Visibility.{is_subscribed}
use Rattle.cmd_posts.proofs.receivers.count_stream_receivers.Goals as goal

pub returns : goal.returns
returns c =
    let rows = c.args.realm.now.state.tables.users in
    let test = λ (row : UserId × User). (row.1.is_active && is_subscribed c.args.realm.now.state.tables row.0 c.args.stream) || row.0.0 == c.args.sender.0 in
    count_from_yields_List c.filter.result c.count.result c.count.ensures.ran
    (YieldsList-from_filter _ test (YieldsList-from_slice rows (cc)) c.filter.ensures.closure (λ x b q called. search (rules, tests)))
    ∙ sym (length-keys_of (filter test rows))
