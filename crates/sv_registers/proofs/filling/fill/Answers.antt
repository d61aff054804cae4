use Rattle.sv_registers.proofs.FilledQueues.{fills, ready_to_complete}
use Rattle.sv_registers.proofs.filling.fill.Goals as goal

pub complete-requires : goal.complete-requires
complete-requires g c =
    record {
      ready = ready_to_complete _ _ c.args.shard c.args.user c.args.opened.queue c.args.asked.now c.in-Ok-Some.parts c.in-Ok-Some.field-0 c.in-Ok-Some.field-0-is
          c.requires.ready c.in-Ok-Some.ensures;
    }

pub returns-in-Ok-Some : goal.returns-in-Ok-Some
returns-in-Ok-Some g c =
    fills _ _ _ c.args.shard c.args.user c.args.opened c.args.asked.now c.in-Ok-Some.parts c.in-Ok-Some.field-0 c.args.commits c.complete.result c.in-Ok-Some.field-0-is
    c.in-Ok-Some.ensures c.complete.ensures
