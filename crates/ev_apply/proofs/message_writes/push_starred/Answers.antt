use Rattle.std.proofs.Common.{◌≡◌, ◌++◌, if◌then◌else◌, List, IfOk, map, subst, rules}
use Rattle.ev_base.specs.declared.ids.MessageId.{MessageId}
use Rattle.ev_types.specs.Writes.{put, drop_row}
use Rattle.ev_apply.proofs.message_writes.push_starred.Goals as goal

pub returns-in-Starred : goal.returns-in-Starred
returns-in-Starred c =
    let add = c.args.change.now.add in
    let pushed = c.push_each.ensures (λ id. if add then put id tt else drop_row id) (λ id answer called. rw (← called.shows) (search rules)) in
    rw c.in-Starred.is
    (subst (λ (ids : List MessageId). IfOk c.push_each.result (λ _. c.push_each.new.writes.items ≡ c.args.writes.now.items ++ map (λ id. if add then put id tt else drop_row id) ids))
    c.as_slice.ensures pushed)
