use Rattle.std.proofs.Common.{sym}
use Rattle.sv_registers.proofs.FilledQueues.{fills_and_deletes, fills_and_stays, ready_to_delete}
use Rattle.sv_registers.proofs.registration.fill_or_delete.Goals as goal

pub delete_queue-requires : goal.delete_queue-requires
delete_queue-requires g c =
    record { ready = ready_to_delete _ _ c.args.shard c.args.user c.args.opened c.args.asked.now c.args.commits c.fill-filled.result c.requires.ready c.fill-filled.ensures }

pub returns-then-is_given_up : goal.returns-then-is_given_up
returns-then-is_given_up g c =
    fills_and_deletes _ _ _ c.args.shard c.args.user c.args.opened c.args.asked.now c.args.commits c.fill-filled.result (sym c.if-is_given_up.ensures) c.fill-filled.ensures c.delete_queue.ensures

pub returns-else-is_given_up : goal.returns-else-is_given_up
returns-else-is_given_up g c =
    fills_and_stays _ _ c.args.shard c.args.user c.args.opened c.args.asked.now c.args.commits c.fill-filled.result (sym c.if-is_given_up.ensures) c.fill-filled.ensures
