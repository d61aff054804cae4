use Rattle.std.proofs.Common.{◌≡◌, drop, map}
use Rattle.httparse.specs.Spans.{header_bytes}
use Rattle.hw_wire.specs.Fields.{any_closes}
use Rattle.hw_wire.proofs.fields.any_closes.Given as goal

abbrev pub invariant-loop-field : goal.invariant-loop-field
invariant-loop-field l = record {
  same : any_closes (map (header_bytes l.buffer) (drop l.field-index l.fields))
      ≡ any_closes (map (header_bytes l.buffer) l.fields);
}
