use Rattle.sv_registers.proofs.OpenedQueues.{deletes_queue}
use Rattle.sv_registers.proofs.opening.delete_queue.Goals as goal

pub returns : goal.returns
returns g c = deletes_queue _ _ c.args.shard c.args.user c.args.queue c.ask_shard.result c.ask_shard.ensures
