use Rattle.std.proofs.Common.{◌≡◌, drop, map, None}
use Rattle.httparse.specs.Spans.{header_bytes}
use Rattle.hw_wire.specs.Fields.{lengths}
use Rattle.hw_wire.proofs.fields.length_in.Given as goal

abbrev pub invariant-loop-field : goal.invariant-loop-field
invariant-loop-field l = record {
  same : lengths l.known (map (header_bytes l.buffer) (drop l.field-index l.fields))
      ≡ lengths None (map (header_bytes l.buffer) l.fields);
}
