use Rattle.std.proofs.Common.{take, ◌-◌, ap, ◌∙◌, arith}
use Rattle.std.proofs.lemmas.List.{length-take}
use Rattle.hw_wire.proofs.Buffers.{consumed}
use Rattle.hw_wire.proofs.reader.Reader.consume.Goals as goal

pub returns : goal.returns
returns c =
    let old = c.args.self.now in
    let items = old.buffer.items in
    let size = length-take old.kept items in
    record {
      kept = ap (λ t. take (old.kept - c.args.used) t) c.copy_within.ensures.items
          ∙ consumed items c.args.used old.kept (omega arith) (omega arith);
    }
