use Rattle.std.proofs.Common.{◌≡◌, ◌≤◌, ◌+◌, drop, map}
use Rattle.httparse.specs.Spans.{header_bytes}
use Rattle.hw_wire.specs.Fields.{count}
use Rattle.hw_wire.proofs.fields.count.Given as goal

abbrev pub invariant-loop-field : goal.invariant-loop-field
invariant-loop-field l = record {
  sum : l.found + count l.name (map (header_bytes l.buffer) (drop l.field-index l.fields))
      ≡ count l.name (map (header_bytes l.buffer) l.fields);
  few : l.found ≤ l.field-index;
}
