use Rattle.std.proofs.Common.{◌≡◌, ◌<◌, ◌^◌, drop}
use Rattle.hw_wire.specs.Fields.{digits_onto}
use Rattle.hw_wire.proofs.fields.digits_of.Given as goal

abbrev pub invariant-loop-digit : goal.invariant-loop-digit
invariant-loop-digit l = record {
  same : digits_onto l.number (drop l.digit-index l.digits) ≡ digits_onto 0 l.digits;
  below : l.number < 2 ^ 63;
}
