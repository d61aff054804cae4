-- Each field of a head has three bytes or more.
use Rattle.std.proofs.Common.{◌≡◌, ℕ, ◌+◌, ◌*◌, ◌<◌, ◌≤◌, List, [], ◌∷◌, ◌++◌, length, arith, ap, length-append, ◌∙◌}
use Rattle.std.specs.Prelude.{All}
use Rattle.std.specs.List.{flat_map}
use Rattle.std.proofs.lemmas.List.Elements.{All-head, All-tail}
use Rattle.httparse.specs.Ascii.{colon, space}
use Rattle.httparse.specs.Grammar.{Field, IsField, LineEnd, crlf, lf, print_end, print_field, print_blank, print_version, print_request, RequestHead}
use Rattle.httparse.specs.Spans.{RequestExceeds}

end_long : (e : LineEnd) → 1 ≤ length (print_end e)
end_long crlf = omega arith
end_long lf = omega arith

longer : (a b : List ℕ) → length b ≤ length (a ++ b)
longer a b = omega (arith, length-append a b)

field_long : (f : Field) → IsField f → 3 ≤ length (print_field f)
field_long f is =
    let e = print_end f.end in
    let more : length (colon ∷ f.raw) ≡ 1 + length f.raw = omega arith in
    let whole : length (print_field f) ≡ length f.name + length (colon ∷ f.raw) + length e =
    length-append (f.name ++ colon ∷ f.raw) e ∙ ap (λ n. n + length e)
    (length-append f.name (colon ∷ f.raw)) in
    omega (arith, end_long f.end, is.name.0, more, whole)

fields_long : (fields : List Field) → All IsField fields
    → 3 * length fields ≤ length (flat_map print_field fields)
fields_long [] all = omega arith
fields_long (f ∷ fs) all =
    omega (
      arith,
      field_long f (All-head IsField f fs all),
      fields_long fs (All-tail IsField f fs all),
      length-append (print_field f) (flat_map print_field fs),
    )

-- the fields and the last line of a head are a part of it
section_fits : (h : RequestHead)
    → length (flat_map print_field h.fields) + length (print_end h.last) ≤ length (print_request h)
unfolding print_request
section_fits h =
    let start = print_blank h.blank ++ h.method ++ space ∷ h.target ++ space ∷ print_version h.minor
    ++ print_end h.line_end in
    let section : List ℕ = flat_map print_field h.fields ++ print_end h.last in
    let whole : length (print_request h) ≡ length start + length section =
    length-append start section in
    omega (arith, whole, length-append (flat_map print_field h.fields) (print_end h.last))

head_long : (h : RequestHead) → All IsField h.fields
    → 3 * length h.fields ≤ length (print_request h)
head_long h all = omega (arith, section_fits h, fields_long h.fields all)

-- a head has bytes
pub some_head : (h : RequestHead) → 0 < length (print_request h)
some_head h = omega (arith, section_fits h, end_long h.last)

-- no head of 16,384 bytes has more fields than the room
pub no_excess : (bytes : List ℕ) → length bytes ≤ 16384 → RequestExceeds 5462 bytes → ⊥
no_excess bytes short (front, rest, split, h, reads, many) =
    omega (
      arith,
      ap (λ xs. length xs) split,
      length-append front rest,
      length-append front (print_end lf),
      ap (λ xs. length xs) reads.1,
      length-append (print_request h) [],
      head_long h reads.0.fields,
    )
