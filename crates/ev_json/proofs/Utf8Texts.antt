-- The compact text of a plain value is UTF-8.
use Rattle.std.proofs.Common.{suc, pos, negsuc, Bool, true, false, [], ◌∷◌, IsUtf8, refl, arith}
use Rattle.std.proofs.lemmas.Str.{IsUtf8-append, IsUtf8-from_ascii}
use Rattle.std.proofs.lemmas.Fmt.{IsAscii-decimal}
use Rattle.json.proofs.Printed.Utf8.{IsUtf8-are_ascii, IsUtf8-boolean, IsUtf8-quoted}
use Rattle.serde_json.specs.Data.{Num, unsigned, negative, float, Data, null, boolean, number, string, array, object, Items, no_items, item, Members, no_members, member}
use Rattle.serde_json.specs.Written.{comma_if, compact_text, items_text, members_text, number_text}
use Rattle.ev_json.specs.Plain.{IsPlainNumber, IsPlain, ArePlain, MembersArePlain}

number_is_utf8 : (n : Num) → IsPlainNumber n → IsUtf8 (number_text n)
number_is_utf8 (unsigned n) h = IsUtf8-from_ascii _ (IsAscii-decimal n h)
number_is_utf8 (negative (negsuc n)) h =
    IsUtf8-append (45 ∷ []) _ (IsUtf8-are_ascii (45 ∷ []) refl) (IsUtf8-from_ascii _ (IsAscii-decimal (suc n) (omega (arith, h))))
number_is_utf8 (negative (pos _)) h = elim h [ ]
number_is_utf8 (float _) h = elim h [ ]

comma_is_utf8 : (later : Bool) → IsUtf8 (comma_if later)
comma_is_utf8 true = IsUtf8-are_ascii _ refl
comma_is_utf8 false = IsUtf8-are_ascii _ refl

mutual
  pub text_is_utf8 : (value : Data) → IsPlain value → IsUtf8 (compact_text value)
  text_is_utf8 null h = IsUtf8-are_ascii _ refl
  text_is_utf8 (boolean b) h = IsUtf8-boolean b
  text_is_utf8 (number n) h = number_is_utf8 n h
  text_is_utf8 (string s) h = IsUtf8-quoted s h
  text_is_utf8 (array ds) h = IsUtf8-append (91 ∷ []) _ (IsUtf8-are_ascii (91 ∷ []) refl) (items_are_utf8 false ds h)
  text_is_utf8 (object ms) h = IsUtf8-append (123 ∷ []) _ (IsUtf8-are_ascii (123 ∷ []) refl) (members_are_utf8 false ms h.0)

  items_are_utf8 : (later : Bool) (ds : Items) → ArePlain ds → IsUtf8 (items_text later ds)
  items_are_utf8 later no_items h = IsUtf8-are_ascii _ refl
  items_are_utf8 later (item d ds) h =
      IsUtf8-append (comma_if later) _ (comma_is_utf8 later) (IsUtf8-append (compact_text d) _ (text_is_utf8 d h.0) (items_are_utf8 true ds h.1))

  members_are_utf8 : (later : Bool) (ms : Members) → MembersArePlain ms → IsUtf8 (members_text later ms)
  members_are_utf8 later no_members h = IsUtf8-are_ascii _ refl
  members_are_utf8 later (member k d ms) h =
      let rest = IsUtf8-append (compact_text d) _ (text_is_utf8 d h.0.1) (members_are_utf8 true ms h.1) in
      let value = IsUtf8-append (58 ∷ []) _ (IsUtf8-are_ascii (58 ∷ []) refl) rest in
      IsUtf8-append (comma_if later) _ (comma_is_utf8 later) (IsUtf8-append _ _ (IsUtf8-quoted k h.0.0) value)
