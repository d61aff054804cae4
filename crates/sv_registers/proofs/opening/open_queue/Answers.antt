use Rattle.sv_registers.proofs.OpenedQueues.{opens_queue}
use Rattle.sv_registers.proofs.opening.open_queue.Goals as goal

pub returns : goal.returns
returns g c = opens_queue _ _ c.args.shard c.args.asking c.ask_shard.result c.opened_in.result c.ask_shard.ensures c.opened_in.ensures
