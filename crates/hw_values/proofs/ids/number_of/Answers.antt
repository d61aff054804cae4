use Rattle.std.proofs.Common.{arith}
use Rattle.std.proofs.lemmas.Int.{ints}
use Rattle.hw_values.proofs.NumberLemmas.{found, no_number, too_great, too_long}
use Rattle.hw_values.proofs.ids.number_of.Goals as goal

pub returns-then-text-most : goal.returns-then-text-most
returns-then-text-most c = record {
  value = too_long c.args.most c.args.limit c.args.text.now c.if-text-most.true;
  below = tt;
}

pub returns-in_err-number : goal.returns-in_err-number
returns-in_err-number c =
    let none = no_number c.args.most c.args.limit c.args.text.now (omega (arith, ints, c.ranges.limit)) (c.in_err-number.ensures) in
    rw c.from_residual.ensures (record { value = none; below = tt })

pub returns-then-number-limit : goal.returns-then-number-limit
returns-then-number-limit c = record {
  value = found c.args.most c.args.limit c.args.text.now c.in_ok-number.number (λ long. omega (arith, long, c.if-text-most.false)) c.in_ok-number.ensures.0 c.if-number-limit.true;
  below = c.if-number-limit.true;
}

pub returns-else-number-limit : goal.returns-else-number-limit
returns-else-number-limit c = record {
  value = too_great c.args.most c.args.limit c.args.text.now c.in_ok-number.number c.in_ok-number.ensures.0 (λ small. omega (arith, small, c.if-number-limit.false));
  below = tt;
}
