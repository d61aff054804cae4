-- Texts that are parted at their first colon.
use Rattle.std.proofs.Common.{◌≡◌, ℕ, suc, ◌+◌, ◌<◌, ◌≤◌, Bool, true, false, cond, not, ◌&&◌, ◌||◌, if◌then◌else◌, List, [], ◌∷◌, length, Option, None, Some, refl, arith}
use Rattle.std.specs.List.{after_first, before_first, list_any, position_or_len}
use Rattle.std.specs.Str.{IsUtf8, is_utf8}
use Rattle.std.proofs.lemmas.Str.{IsUtf8-from_is_utf8, is_utf8-from_IsUtf8}
use Rattle.hw_auth.specs.Basic.{Spelled, is_colon, parted}

-- where no colon is found, there is none
lacks_colon : (bytes : List ℕ) → length bytes ≤ position_or_len is_colon bytes
    → list_any is_colon bytes ≡ false
lacks_colon [] long = refl
lacks_colon (byte ∷ bytes) long = go (is_colon byte) (lacks_colon bytes) long
  where
    go : (b : Bool)
        → (length bytes ≤ position_or_len is_colon bytes → list_any is_colon bytes ≡ false)
        → suc (length bytes) ≤ cond (not b) (1 + position_or_len is_colon bytes) 0
        → (b || list_any is_colon bytes) ≡ false
    go true later long = absurd (omega arith)
    go false later long = later (omega arith)

-- where one is found, there is one
has_colon : (bytes : List ℕ) → position_or_len is_colon bytes < length bytes
    → list_any is_colon bytes ≡ true
has_colon [] below = absurd (omega arith)
has_colon (byte ∷ bytes) below = go (is_colon byte) (has_colon bytes) below
  where
    go : (b : Bool)
        → (position_or_len is_colon bytes < length bytes → list_any is_colon bytes ≡ true)
        → cond (not b) (1 + position_or_len is_colon bytes) 0 < suc (length bytes)
        → (b || list_any is_colon bytes) ≡ true
    go true later below = refl
    go false later below = later (omega arith)

abbrev parted_if : Bool → List ℕ → Option Spelled
parted_if is bytes =
    if is then Some (record { email = before_first is_colon bytes; key = after_first is_colon bytes })
    else None

-- bytes that are no text aren't parted
pub no_text : (bytes : List ℕ) → (IsUtf8 bytes → ⊥) → parted bytes ≡ None
no_text bytes wrong = go (is_utf8 bytes) refl
  where
    go : (b : Bool) → is_utf8 bytes ≡ b
        → parted_if (b && list_any is_colon bytes) bytes ≡ None
    go true is = absurd (wrong (IsUtf8-from_is_utf8 bytes is))
    go false is = refl

-- a text without a colon isn't parted
pub no_colon : (text : List ℕ) → position_or_len is_colon text ≡ length text → parted text ≡ None
no_colon text end = rw (lacks_colon text (omega (arith, end))) (go (is_utf8 text))
  where
    go : (b : Bool) → parted_if (b && false) text ≡ None
    go true = refl
    go false = refl

-- one with a colon is
pub with_colon : (text : List ℕ) → IsUtf8 text → position_or_len is_colon text < length text
    → parted text
    ≡ Some (record { email = before_first is_colon text; key = after_first is_colon text })
with_colon text is below = rw (is_utf8-from_IsUtf8 text is, has_colon text below) refl
