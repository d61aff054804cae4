-- The objects that texts are.
use Rattle.std.proofs.Common.{◌≡◌, Bool, true, false, ℕ, List, None, Some, Ok, Err, IsUtf8, is_some, refl}
use Rattle.std.specs.Str.{is_utf8}
use Rattle.std.proofs.lemmas.Str.{IsUtf8-from_is_utf8, is_utf8-from_IsUtf8}
use Rattle.serde_json.specs.Data.{Data, null, boolean, number, string, array, object}
use Rattle.serde_json.specs.Find.{as_object}
use Rattle.serde_json.specs.Read.{read}
use Rattle.ev_bodies.specs.Keys.{no_json}
use Rattle.ev_bodies.specs.Bodies.{if_object, object_in}

is_object : (d : Data) → is_some (as_object d) ≡ true → if_object d ≡ Ok d
is_object null e = cc
is_object (boolean b) e = cc
is_object (number n) e = cc
is_object (string s) e = cc
is_object (array ds) e = cc
is_object (object ms) e = refl

pub object_read : (text : List ℕ) (d : Data) → IsUtf8 text → read text ≡ Some d → is_some (as_object d) ≡ true → object_in text ≡ Ok d
unfolding object_in
object_read text d utf8 is made = rw (is_utf8-from_IsUtf8 text utf8, is) (is_object d made)

nothing_read : (text : List ℕ) (utf8 : Bool) → is_utf8 text ≡ utf8 → (IsUtf8 text → read text ≡ None) → object_in text ≡ Err no_json
unfolding object_in
nothing_read text true is none = rw (is, none (IsUtf8-from_is_utf8 text is)) refl
nothing_read text false is none = rw is refl

pub no_object_read : (text : List ℕ) → (IsUtf8 text → read text ≡ None) → object_in text ≡ Err no_json
no_object_read text none = nothing_read text (is_utf8 text) refl none
