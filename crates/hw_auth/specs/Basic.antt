-- Basic credentials.
use Rattle.std.specs.Prelude.{◌≡◌, ℕ, nat_lt, Bool, ◌==◌, not, ◌&&◌, ◌||◌, List, [], ◌∷◌, length, take, drop, map, slice_index, ⊤, Option, Some, None, Result, Ok, Err, codes, if◌then◌else◌}
use Rattle.std.specs.Result.{result_ok}
use Rattle.std.specs.Prelude.{Vec}
use Rattle.std.specs.declared.alloc.Global.{Global}
use Rattle.std.specs.List.{after_first, before_first, list_any}
use Rattle.std.specs.Str.{bytes_eq, is_utf8}
use Rattle.std.specs.String.{string_bytes}
use Rattle.std.specs.Char.{to_ascii_lowercase}
use Rattle.base64.specs.Engines.{standard}
use Rattle.base64.specs.GeneralPurpose.{decode_of}
use Rattle.hw_auth.specs.declared.answer.AuthFault.{AuthFault}
use Rattle.hw_auth.specs.declared.answer.AuthFault.TheVariants.{NoHeader, BadHeader, NoMemory}
use Rattle.hw_auth.specs.declared.answer.Credentials.{Credentials}

-- an email and a key
pub record Spelled : Type 0 where
  pub email : List ℕ
  pub key : List ℕ

-- the bytes from the first on that isn't a space
abbrev pub without_spaces : List ℕ → List ℕ
without_spaces [] = []
without_spaces (byte ∷ bytes) = if byte == 32 then without_spaces bytes else byte ∷ bytes

-- what stands behind `Basic`, in any case of letters, and a space or more
unfoldable pub after_scheme : List ℕ → Option (List ℕ)
after_scheme header =
    if nat_lt (length header) 6 then None
    else if not (bytes_eq (map to_ascii_lowercase (take 5 header)) (codes "basic")) || not (slice_index (drop 5 header) 0 == 32) then None
    else Some (without_spaces (drop 5 header))

-- the bytes whose padded base64 a text is, if it is that of any
unfoldable pub decoded : List ℕ → Option (List ℕ)
decoded text = result_ok (decode_of standard text)

abbrev pub is_colon : ℕ → Bool
is_colon byte = byte == 58

-- of a text with a colon what stands before the first one, and what behind it
abbrev pub parted : List ℕ → Option Spelled
parted bytes =
    if is_utf8 bytes && list_any is_colon bytes
    then Some (record { email = before_first is_colon bytes; key = after_first is_colon bytes })
    else None

-- the same of the bytes that were decoded, if any were
abbrev pub parted_of : Option (List ℕ) → Option Spelled
parted_of None = None
parted_of (Some bytes) = parted bytes

-- the same of the bytes whose padded base64 a text is, if it stands behind the scheme
abbrev pub spelled_after : Option (List ℕ) → Option Spelled
spelled_after None = None
spelled_after (Some text) = parted_of (decoded text)

-- the email and the key that a header spells, if it spells any
unfoldable pub spelled : List ℕ → Option Spelled
spelled header = spelled_after (after_scheme header)

-- a result tells what was decoded, unless memory ran out
abbrev pub Decodes : Result (Vec ℕ Global) AuthFault → Option (List ℕ) → Type 0
Decodes (Ok bytes) read = read ≡ Some bytes.items
Decodes (Err NoHeader) read = ⊥
Decodes (Err BadHeader) read = read ≡ None
Decodes (Err NoMemory) read = ⊤

-- a result tells what was spelled, unless memory ran out
abbrev pub Reads : Result Credentials AuthFault → Option Spelled → Type 0
Reads (Ok found) read = read ≡ Some (record { email = string_bytes found.email; key = string_bytes found.key })
Reads (Err NoHeader) read = ⊥
Reads (Err BadHeader) read = read ≡ None
Reads (Err NoMemory) read = ⊤

-- a result tells whether there is a header, and then what it spells, unless memory ran out
abbrev pub Answers : Option (List ℕ) → Result Credentials AuthFault → Type 0
Answers None result = result ≡ Err NoHeader
Answers (Some header) result = Reads result (spelled header)
