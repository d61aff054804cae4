use Rattle.std.proofs.Common.{◌∙◌, Some, ap, sym, arith}
use Rattle.hw_auth.specs.Basic.{parted}
use Rattle.hw_auth.proofs.Colons.{no_colon, no_text, with_colon}
use Rattle.hw_auth.proofs.basic.parted.Goals as goal

pub returns-in_default : goal.returns-in_default
returns-in_default c = no_text c.args.bytes.now c.in_default.ensures.cases.0

pub returns-in_default-split_once : goal.returns-in_default-split_once
returns-in_default-split_once c =
    let cut = c.in_default-split_once.ensures.byte (omega arith) (λ w o finds. finds) in
    ap parted (sym c.in-Ok.ensures.cases.0) ∙ no_colon c.in-Ok.text.now cut

pub returns : goal.returns
returns c =
    let cut = c.in-Some.ensures.byte (omega arith) (λ w o finds. finds) in
    let email = c.in_ok-from_str.ensures.ok ∙ cut.0 in
    let key = c.in_ok-from_str-2.ensures.ok ∙ cut.1 in
    ap parted (sym c.in-Ok.ensures.cases.0)
    ∙ with_colon c.in-Ok.text.now (rw c.in-Ok.ensures.cases.0 c.in-Ok.ensures.cases.1) cut.2
    ∙ ap Some (λ i. record { email = sym email i; key = sym key i })
