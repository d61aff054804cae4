use Rattle.std.proofs.Common.{◌≡◌, ◌≤◌, Err, length, take, arith, ap, subst, ◌∙◌, length-take}
use Rattle.httparse.specs.Spans.{RequestExceeds}
use Rattle.hw_wire.proofs.Lengths.{no_excess}
use Rattle.hw_wire.proofs.reader.Reader.parse.Goals as goal

pub returns-in-Err-TooManyHeaders-clause-stands : goal.returns-in-Err-TooManyHeaders-clause-stands
returns-in-Err-TooManyHeaders-clause-stands c =
    let self = c.args.self.now in
    let room : length c.deref_mut.result.now ≡ 5462 =
    ap (λ xs. length xs) c.deref_mut.ensures.value ∙ self.room in
    let bytes = take self.kept c.deref.result.now in
    let exceeds : RequestExceeds (length c.deref_mut.result.now) bytes =
    c.parse_request.ensures.too_many
    (c.in-Err-TooManyHeaders.is ∙ ap Err c.in-Err-TooManyHeaders.field-0-is) in
    let short : length bytes ≤ 16384 = omega (arith, length-take self.kept c.deref.result.now, self.within) in
    absurd (no_excess bytes short (subst (λ n. RequestExceeds n bytes) room exceeds))
