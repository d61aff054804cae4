use Rattle.std.proofs.Common.{◌≡◌, ◌++◌, List, IfOk, map, subst, rules}
use Rattle.ev_types.specs.declared.event.FullMessage.{FullMessage}
use Rattle.ev_types.specs.Writes.{put}
use Rattle.ev_apply.proofs.message_writes.MessageWriteMadeOfEvent.push_writes.Goals as goal

pub returns-in-MessagesRestored : goal.returns-in-MessagesRestored
returns-in-MessagesRestored c =
    let pushed = c.push_each.ensures (λ full. put full.message full.row) (λ full answer called. rw (← called.shows) (search rules)) in
    rw c.in-MessagesRestored.is
    (subst (λ (messages : List FullMessage). IfOk c.push_each.result (λ _. c.push_each.new.writes.items ≡ c.args.writes.now.items ++ map (λ full. put full.message full.row) messages))
    c.as_slice.ensures pushed)
