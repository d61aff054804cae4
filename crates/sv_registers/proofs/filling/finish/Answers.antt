use Rattle.sv_registers.proofs.FilledQueues.{finishes_queue}
use Rattle.sv_registers.proofs.filling.finish.Goals as goal

pub returns : goal.returns
returns g c = finishes_queue _ _ c.args.shard c.args.user c.args.queue c.args.parts c.ask_shard.result c.registered_in.result c.ask_shard.ensures c.registered_in.ensures
