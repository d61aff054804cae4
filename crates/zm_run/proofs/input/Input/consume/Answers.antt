use Rattle.std.proofs.Common.{take, ◌-◌, ap, ◌∙◌, arith}
use Rattle.std.proofs.lemmas.List.{length-take}
use Rattle.zm_run.proofs.Feeds.{consumed}
use Rattle.zm_run.proofs.input.Input.consume.Goals as goal

pub returns-clause-pending : goal.returns-clause-pending
returns-clause-pending c =
    let old = c.args.self.now in
    let items = old.buffer.items in
    let size = length-take old.held items in
    ap (λ t. take (old.held - c.args.used) t) c.copy_within.ensures.items
    ∙ consumed items c.args.used old.held (omega arith) (omega arith)
