use Rattle.std.proofs.Common.{◌≡◌, drop, map}
use Rattle.httparse.specs.Spans.{header_bytes}
use Rattle.hw_wire.specs.Fields.{value_of}
use Rattle.hw_wire.proofs.fields.value_of.Given as goal

abbrev pub invariant-loop-field : goal.invariant-loop-field
invariant-loop-field l = record {
  same : value_of l.name (map (header_bytes l.buffer) (drop l.field-index l.fields))
      ≡ value_of l.name (map (header_bytes l.buffer) l.fields);
}
