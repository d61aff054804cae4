-- The kinds of text. Lengths and places are counted in characters.
use Rattle.std.specs.Prelude.{◌≡◌, ℕ, ◌+◌, nat_lt, ◌==◌, Bool, not, ◌&&◌, ◌||◌, if◌then◌else◌, List, [], ◌∷◌, ◌++◌, length, Option, Some, None, option_map, codes}
use Rattle.std.specs.List.{list_any}
use Rattle.std.specs.Char.{is_ascii_alphanumeric, is_ascii_control, is_ascii_digit, is_ascii_hexdigit, is_ascii_lowercase, is_ascii_uppercase}
use Rattle.std.specs.Fmt.{decimal}
use Rattle.std.specs.Str.{chars}
use Rattle.ev_base.specs.declared.text.TextKind.{TextKind}
use Rattle.ev_base.specs.declared.text.TextKind.TheVariants.{RealmName, RealmDescription, StreamName, StreamDescription, Topic, FullName, Email, ApiKey, Content, Emoji, Color}
use Rattle.ev_base.specs.declared.text.TextFault.{TextFault}
use Rattle.ev_base.specs.declared.text.TextFault.TheVariants.{TooShort, TooLong, BadChar, NoMemory}

-- the least number of characters of a kind
abbrev pub least : TextKind → ℕ
least RealmName = 1
least RealmDescription = 0
least StreamName = 1
least StreamDescription = 0
least Topic = 1
least FullName = 1
least Email = 1
least ApiKey = 1
least Content = 1
least Emoji = 1
least Color = 7

-- the greatest number of characters of a kind
abbrev pub most : TextKind → ℕ
most RealmName = 60
most RealmDescription = 1024
most StreamName = 60
most StreamDescription = 1024
most Topic = 60
most FullName = 100
most Email = 100
most ApiKey = 64
most Content = 10000
most Emoji = 40
most Color = 7

-- the character stands in a text
abbrev pub is_one_of : List ℕ → ℕ → Bool
is_one_of text c = list_any (λ x. c == x) text

-- a text of a kind may have the character c at a place; controls are U+0000 to U+001F and U+007F
abbrev pub may_have : TextKind → ℕ → ℕ → Bool
may_have RealmName place c = not (is_ascii_control c)
may_have RealmDescription place c = not (is_ascii_control c)
may_have StreamName place c = not (is_ascii_control c)
may_have StreamDescription place c = not (is_ascii_control c)
may_have Topic place c = not (is_ascii_control c)
may_have FullName place c = not (is_ascii_control c)
may_have Email place c = not (is_ascii_control c || is_one_of (codes " :") c)
may_have ApiKey place c = is_ascii_alphanumeric c
may_have Content place c = not (c == 0)
may_have Emoji place c = is_ascii_lowercase c || is_ascii_digit c || is_one_of (codes "_+-") c
may_have Color place c =
    if place == 0 then is_one_of (codes "#") c
    else is_ascii_hexdigit c && not (is_ascii_uppercase c)

-- the first character that a text of a kind may not have: the characters begin at a place
abbrev pub bad_place : TextKind → ℕ → List ℕ → Option ℕ
bad_place kind place [] = None
bad_place kind place (c ∷ cs) =
    if may_have kind place c then bad_place kind (place + 1) cs else Some place

-- why characters are no text of a kind: their number first, and then the first bad one
abbrev pub fault_of_chars : TextKind → List ℕ → Option TextFault
fault_of_chars kind cs =
    if nat_lt (length cs) (least kind) then Some (TooShort (length cs))
    else if nat_lt (most kind) (length cs) then Some (TooLong (length cs))
    else option_map BadChar (bad_place kind 0 cs)

-- why bytes are no text of a kind
unfoldable pub fault_of : TextKind → List ℕ → Option TextFault
fault_of kind text = fault_of_chars kind (chars text)

-- the bytes are a text of some kind
abbrev pub IsText : List ℕ → Type 0
IsText text = (kind : TextKind) × (fault_of kind text ≡ None)

-- how a fault is printed
abbrev pub fault_text : TextFault → List ℕ
fault_text (TooShort count) = codes "too short at " ++ decimal count ++ codes " characters"
fault_text (TooLong count) = codes "too long at " ++ decimal count ++ codes " characters"
fault_text (BadChar place) = codes "bad character at place " ++ decimal place
fault_text NoMemory = codes "out of memory"
