use Rattle.std.proofs.Common.{rules}
use Rattle.ev_base.specs.Orders.{message_order}
use Rattle.zr_realm.proofs.RowEdits.{changed_in_place}
use Rattle.zr_realm.proofs.posts.set_content.Goals as goal

pub returns-in-Some-clause-messages : goal.returns-in-Some-clause-messages
returns-in-Some-clause-messages c =
    changed_in_place message_order c.args.message (λ row. record row { content = c.args.content }) c.in-Some.row.now c.args.posts.now.messages.rows c.requires.sorted
    (search rules)
