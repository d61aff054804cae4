use Rattle.std.proofs.Common.{max, ap, ◌∙◌}
use Rattle.sv_registers.specs.Fetches.{latest}
use Rattle.sv_registers.proofs.FilledQueues.{completes, completes_not, ready_to_finish}
use Rattle.sv_registers.proofs.filling.complete.Goals as goal

pub finish-requires : goal.finish-requires
finish-requires g c =
    record { ready = ready_to_finish _ _ c.args.shard c.args.user c.args.opened.queue c.args.parts _ _ _ c.requires.ready c.in-Ok.ensures }

pub returns-in-Ok : goal.returns-in-Ok
returns-in-Ok g c =
    completes _ _ _ c.args.shard c.args.user c.args.opened c.args.parts c.args.commits c.max-need.result _ c.finish.result
    (c.max-need.ensures ∙ ap (λ n. max c.args.commits n) (c.latest.ensures ∙ ap latest c.as_slice.ensures)) c.in-Ok.ensures c.finish.ensures

pub returns-in-Err : goal.returns-in-Err
returns-in-Err g c =
    completes_not _ _ c.args.shard c.args.user c.args.opened c.args.parts c.args.commits c.max-need.result _
    (c.max-need.ensures ∙ ap (λ n. max c.args.commits n) (c.latest.ensures ∙ ap latest c.as_slice.ensures)) c.in-Err.ensures
