use Rattle.std.proofs.Common.{◌∙◌}
use Rattle.sv_registers.proofs.FilledQueues.{ready_to_open, registers, registers_not, registers_nothing}
use Rattle.sv_registers.proofs.OpenedQueues.{ready_to_fill}
use Rattle.sv_registers.proofs.registration.register.Goals as goal

pub returns-in_default : goal.returns-in_default
returns-in_default g c = registers_nothing _ c.args.asking c.args.commits

pub fill_or_delete-requires : goal.fill_or_delete-requires
fill_or_delete-requires g c =
    record {
      ready = ready_to_fill _ _ c.serving-shard.result c.args.asking c.in-Ok-open_queue.opened
          (ready_to_open _ c.args.asking.user c.serving-shard.result c.requires.ready c.serving-shard.ensures) c.in-Ok-open_queue.ensures;
    }

pub returns-in-Ok-open_queue : goal.returns-in-Ok-open_queue
returns-in-Ok-open_queue g c =
    registers _ _ _ c.serving-shard.result c.args.asking c.in-Ok-open_queue.opened c.deref.result.now c.args.commits c.fill_or_delete.result
    (c.deref.ensures.value ∙ c.in-Ok.ensures ∙ c.as_slice.ensures) c.serving-shard.ensures c.in-Ok-open_queue.ensures c.fill_or_delete.ensures

pub returns : goal.returns
returns g c =
    registers_not _ _ c.serving-shard.result c.args.asking c.args.commits c.in-Err.refused c.serving-shard.ensures c.in-Err.ensures
