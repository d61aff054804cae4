use Rattle.std.proofs.Common.{rules}
use Rattle.ev_base.specs.declared.kinds.Flag.TheVariants as flag
use Rattle.ev_base.specs.Orders.{message_user_order}
use Rattle.zr_types.specs.Effects.{receipt_with}
use Rattle.zr_realm.proofs.RowEdits.{changed_in_place}
use Rattle.zr_realm.proofs.posts.set_flag.Goals as goal

pub returns-in-Read-clause-receipts : goal.returns-in-Read-clause-receipts
returns-in-Read-clause-receipts c =
    rw c.in-Read.is
    (changed_in_place message_user_order c.args.key (receipt_with flag.Read c.args.value) c.in-Some.row.now c.args.posts.now.receipts.rows c.requires.sorted
    (search rules))

pub returns-in-Starred-clause-receipts : goal.returns-in-Starred-clause-receipts
returns-in-Starred-clause-receipts c =
    rw c.in-Starred.is
    (changed_in_place message_user_order c.args.key (receipt_with flag.Starred c.args.value) c.in-Some.row.now c.args.posts.now.receipts.rows c.requires.sorted
    (search rules))

pub returns-in-Collapsed-clause-receipts : goal.returns-in-Collapsed-clause-receipts
returns-in-Collapsed-clause-receipts c =
    rw c.in-Collapsed.is
    (changed_in_place message_user_order c.args.key (receipt_with flag.Collapsed c.args.value) c.in-Some.row.now c.args.posts.now.receipts.rows c.requires.sorted
    (search rules))
