-- What the fields of a head ask for.
use Rattle.std.specs.Prelude.{ℕ, ◌+◌, ◌-◌, ◌*◌, ◌^◌, ◌==◌, nat_lt, Bool, true, false, not, unwrap_or, ◌&&◌, ◌||◌, if◌then◌else◌, List, [], ◌∷◌, length, map, take, drop, Option, Some, None, codes, Result, Ok, Err}
use Rattle.std.specs.List.{list_any, prefix_len, slice_split, suffix_len}
use Rattle.std.specs.Str.{bytes_eq}
use Rattle.std.specs.Char.{to_ascii_lowercase, is_ascii_digit, is_ascii_whitespace}
use Rattle.hw_wire.specs.declared.fields.HeadFault.{HeadFault}
use Rattle.hw_wire.specs.declared.fields.HeadFault.TheVariants.{BadHead, Chunked, BodyTooLong}

-- equal but for the case of letters
abbrev pub is_named : List ℕ → List ℕ → Bool
is_named wanted name = bytes_eq (map to_ascii_lowercase name) (map to_ascii_lowercase wanted)

-- how many fields have the name
abbrev pub count : List ℕ → List (List ℕ × List ℕ) → ℕ
count wanted [] = 0
count wanted (p ∷ ps) = (if is_named wanted p.0 then 1 else 0) + count wanted ps

-- the value of the first field that has the name
abbrev pub value_of : List ℕ → List (List ℕ × List ℕ) → Option (List ℕ)
value_of wanted [] = None
value_of wanted (p ∷ ps) = if is_named wanted p.0 then Some p.1 else value_of wanted ps

-- the bytes from the first on that isn't white space
abbrev pub trimmed_start : List ℕ → List ℕ
trimmed_start bytes = drop (prefix_len is_ascii_whitespace bytes) bytes

-- the bytes without the white space around them; in a value this is spaces and tabs
abbrev pub trimmed : List ℕ → List ℕ
trimmed bytes =
    take (length (trimmed_start bytes) - suffix_len is_ascii_whitespace (trimmed_start bytes)) (trimmed_start bytes)

abbrev pub is_close : List ℕ → Bool
is_close option = is_named (codes "close") (trimmed option)

-- one of the parts between commas is `close`
unfoldable pub has_close : List ℕ → Bool
has_close value = list_any is_close (slice_split (λ byte. byte == 44) value)

-- a field `Connection` has the option `close`
abbrev pub any_closes : List (List ℕ × List ℕ) → Bool
any_closes [] = false
any_closes (p ∷ ps) = if is_named (codes "connection") p.0 && has_close p.1 then true else any_closes ps

-- the connection ends behind the response
abbrev pub closes : ℕ → List (List ℕ × List ℕ) → Bool
closes minor ps = minor == 0 || any_closes ps

-- the number below 2 ^ 63 that decimal digits spell behind a number
abbrev pub digits_onto : ℕ → List ℕ → Option ℕ
digits_onto number [] = Some number
digits_onto number (d ∷ ds) =
    if is_ascii_digit d then (if nat_lt (number * 10 + (d - 48)) (2 ^ 63) then digits_onto (number * 10 + (d - 48)) ds else None) else None

-- the number below 2 ^ 63 that the bytes spell in decimal digits, if they spell any
abbrev pub number_of : List ℕ → Option ℕ
number_of [] = None
number_of (d ∷ ds) = digits_onto 0 (d ∷ ds)

-- the number of a field, where it is one, and no other than the number known before
abbrev pub agreed : Option ℕ → Option ℕ → Result ℕ HeadFault
agreed known None = Err BadHead
agreed None (Some number) = Ok number
agreed (Some known) (Some number) = if known == number then Ok number else Err BadHead

abbrev pub known_now : Result ℕ HeadFault → Result (Option ℕ) HeadFault
known_now (Err e) = Err e
known_now (Ok number) = Ok (Some number)

-- the length that is known behind one more field
abbrev pub with_field : Option ℕ → List ℕ → List ℕ → Result (Option ℕ) HeadFault
with_field known name value =
    if is_named (codes "content-length") name then known_now (agreed known (number_of value)) else Ok known

abbrev pub onward : Result (Option ℕ) HeadFault → (Option ℕ → Result (Option ℕ) HeadFault) → Result (Option ℕ) HeadFault
onward (Err e) next = Err e
onward (Ok known) next = next known

-- the one number that the fields of the length spell: none where there is no such field
abbrev pub lengths : Option ℕ → List (List ℕ × List ℕ) → Result (Option ℕ) HeadFault
lengths known [] = Ok known
lengths known (p ∷ ps) = onward (with_field known p.0 p.1) (λ k. lengths k ps)

abbrev pub within_limit : ℕ → Result ℕ HeadFault
within_limit length = if nat_lt 1048576 length then Err BodyTooLong else Ok length

abbrev pub unless : Bool → HeadFault → Result ℕ HeadFault → Result ℕ HeadFault
unless true fault next = Err fault
unless false fault next = next

abbrev pub with_length : Result (Option ℕ) HeadFault → (ℕ → Result ℕ HeadFault) → Result ℕ HeadFault
with_length (Err e) next = Err e
with_length (Ok length) next = next (unwrap_or length 0)

-- the length of the body that a head announces, or the first thing that is wrong with it
unfoldable pub body_length : ℕ → List (List ℕ × List ℕ) → Result ℕ HeadFault
body_length minor ps =
    unless (minor == 1 && not (count (codes "host") ps == 1)) BadHead
    (with_length (lengths None ps) (λ length.
    unless (nat_lt 1 (count (codes "authorization") ps)) BadHead
    (unless (nat_lt 0 (count (codes "transfer-encoding") ps)) Chunked
    (within_limit length))))
