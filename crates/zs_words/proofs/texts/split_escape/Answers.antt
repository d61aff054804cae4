use Rattle.std.proofs.Common.{◌∙◌, ap, arith}
use Rattle.zs_words.specs.Texts.{decoded}
use Rattle.zs_words.proofs.TextLemmas.{no_digits, one_digit, escape_is, no_high, no_low, begins_escape}
use Rattle.zs_words.proofs.texts.split_escape.Goals as goal

pub returns-in_err-high : goal.returns-in_err-high
returns-in_err-high c = rw c.from_residual.ensures (no_digits c.args.digits.now c.in_err-high.ensures.cases)

pub returns-in_err-low : goal.returns-in_err-low
returns-in_err-low c =
    rw c.from_residual-in_err-low.ensures
    (one_digit c.args.digits.now c.in_ok-high.after_high.now c.in_ok-high.high.now c.in_ok-high.ensures.cases.0 c.in_err-low.ensures.cases)

pub returns-in_err-high-2 : goal.returns-in_err-high-2
returns-in_err-high-2 c =
    let is = escape_is c.args.digits.now c.in_ok-high.after_high.now c.in_ok-low.rest.now c.in_ok-high.high.now c.in_ok-low.low.now c.in_ok-high.ensures.cases.0 c.in_ok-low.ensures.cases.0 in
    rw c.from_residual-in_err-high-2.ensures (ap decoded is ∙ no_high c.in_ok-high.high.now c.in_ok-low.low.now c.in_ok-low.rest.now c.in_err-high-2.ensures)

pub returns-in_err-low-2 : goal.returns-in_err-low-2
returns-in_err-low-2 c =
    let is = escape_is c.args.digits.now c.in_ok-high.after_high.now c.in_ok-low.rest.now c.in_ok-high.high.now c.in_ok-low.low.now c.in_ok-high.ensures.cases.0 c.in_ok-low.ensures.cases.0 in
    rw c.from_residual-in_err-low-2.ensures (ap decoded is ∙ no_low c.in_ok-high.high.now c.in_ok-low.low.now c.in_ok-low.rest.now c.in_err-low-2.ensures)

pub returns : goal.returns
returns c =
    let is = escape_is c.args.digits.now c.in_ok-high.after_high.now c.in_ok-low.rest.now c.in_ok-high.high.now c.in_ok-low.low.now c.in_ok-high.ensures.cases.0 c.in_ok-low.ensures.cases.0 in
    begins_escape _ _ c.in_ok-high.high.now c.in_ok-low.low.now _ is c.in_ok-high-2.ensures.0 c.in_ok-low-2.ensures.0 (omega (arith, c.in_ok-high-2.ensures.1, c.in_ok-low-2.ensures.1))
