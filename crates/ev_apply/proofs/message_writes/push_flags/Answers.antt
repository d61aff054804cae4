use Rattle.std.proofs.Common.{◌≡◌, ◌++◌, List, IfOk, map, subst, rules}
use Rattle.ev_base.specs.declared.ids.MessageId.{MessageId}
use Rattle.ev_types.specs.Writes.{patch}
use Rattle.ev_types.specs.EventWrites.{to_flag}
use Rattle.ev_apply.proofs.message_writes.push_flags.Goals as goal

pub returns : goal.returns
returns c =
    let field = to_flag c.args.change.now.flag c.args.change.now.add in
    let pushed = c.push_each.ensures (λ id. patch id field) (λ id answer called. rw (← called.shows) (search rules)) in
    subst (λ (ids : List MessageId). IfOk c.push_each.result (λ _. c.push_each.new.writes.items ≡ c.args.writes.now.items ++ map (λ id. patch id field) ids))
    c.as_slice.ensures pushed
