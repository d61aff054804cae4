-- No more users receive the message than there are.
use Rattle.std.proofs.Common.{◌+◌, ◌&&◌, ◌||◌, ◌==◌, length, rules}
use Rattle.std.specs.Prelude.{nat_lt}
use Rattle.ev_base.specs.declared.ids.UserId.{UserId}
use Rattle.zr_types.specs.declared.people.User.{User}
use Rattle.zr_types.specs.Commands.{stream_receivers}
use Rattle.zr_types.specs.Refusals.{max_messages, max_receipts}
use Rattle.zr_types.specs.Visibility.{is_subscribed}
use Rattle.cmd_posts.proofs.FoundRows.{length-filter_keys, room_for_fewer}
use Rattle.cmd_posts.proofs.receivers.is_past_stream.Goals as goal

pub returns-else-is_past_messages : goal.returns-else-is_past_messages
returns-else-is_past_messages c =
    let state = c.args.realm.now.state in
    let test = λ (row : UserId × User). (row.1.is_active && is_subscribed state.tables row.0 c.args.stream) || row.0.0 == c.args.sender.0 in
    room_for_fewer (nat_lt max_messages (state.sent + 1)) c.is_past_messages.result max_receipts (length state.tables.receipts)
    (length (stream_receivers state.tables c.args.sender c.args.stream)) (length state.tables.users)
    (length-filter_keys test state.tables.users) (search rules) (cc)
