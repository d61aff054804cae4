-- The texts that words stand for.
use Rattle.std.specs.Prelude.{◌≡◌, ℕ, ◌+◌, ◌*◌, ◌≤◌, Bool, ◌&&◌, ◌==◌, cond, nat_lt, List, [], ◌∷◌, length, codes, Option, None, Some, option_map, IsUtf8, ◌⊎◌}
use Rattle.std.specs.Char.{digit_value}

-- a hexadecimal digit of either case
abbrev pub is_hexadecimal : ℕ → Bool
is_hexadecimal byte = nat_lt (digit_value byte) 16

-- a byte that stands for itself, before these bytes: any but %
abbrev pub with_byte : ℕ → Option (List ℕ) → Option (List ℕ)
with_byte byte bytes = cond (byte == 37) None (option_map (λ rest. byte ∷ rest) bytes)

-- the byte that two hexadecimal digits write, before these bytes
abbrev pub with_escape : ℕ → ℕ → Option (List ℕ) → Option (List ℕ)
with_escape high low bytes =
    cond (is_hexadecimal high && is_hexadecimal low)
    (option_map (λ rest. (16 * digit_value high + digit_value low) ∷ rest) bytes)
    None

-- the bytes for which a word stands: % and two hexadecimal digits for the byte that they write, and
-- each other byte for itself; none where % stands before anything else
unfoldable pub decoded : List ℕ → Option (List ℕ)
decoded [] = Some []
decoded (a ∷ []) = with_byte a (decoded [])
decoded (a ∷ b ∷ []) = with_byte a (decoded (b ∷ []))
decoded (a ∷ b ∷ c ∷ rest) = cond (a == 37) (with_escape b c (decoded rest)) (with_byte a (decoded (b ∷ c ∷ rest)))

-- the bytes for which the word stands are UTF-8
abbrev pub DecodesToUtf8 : List ℕ → Type 0
DecodesToUtf8 word = (text : List ℕ) × (decoded word ≡ Some text) × IsUtf8 text

-- the word stands for the text: % for the empty one, and another word for its bytes, where they are UTF-8
abbrev pub IsText : List ℕ → List ℕ → Type 0
IsText word text =
    ((word ≡ codes "%") × (text ≡ []))
    ⊎ ((1 ≤ length word) × (decoded word ≡ Some text) × IsUtf8 text)
