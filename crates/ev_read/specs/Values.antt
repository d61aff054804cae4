-- The texts, ids and truth values that JSON values are.
use Rattle.std.specs.Prelude.{ℕ, ◌^◌, nat_lt, Bool, ◌||◌, if◌then◌else◌, List, Option, Some, None, is_none}
use Rattle.serde_json.specs.Data.{Data}
use Rattle.serde_json.specs.Find.{as_bool, as_str}
use Rattle.ev_base.specs.Roles.{role_of}
use Rattle.ev_base.specs.Texts.{fault_of}
use Rattle.ev_base.specs.declared.text.TextKind.{TextKind}
use Rattle.ev_base.specs.declared.text.TextKind.TheVariants.{Content, RealmDescription}
use Rattle.ev_base.specs.declared.kinds.Role.{Role}
use Rattle.ev_base.specs.declared.ids.UserId.{UserId}
use Rattle.ev_base.specs.declared.ids.StreamId.{StreamId}
use Rattle.ev_base.specs.declared.ids.MessageId.{MessageId}
use Rattle.ev_json.specs.Fields.{field, u64_of}
use Rattle.ev_read.specs.Reading.{◌>>=◌, kept}

-- the text, where it is of the kind
abbrev pub of_kind : TextKind → List ℕ → Option (List ℕ)
of_kind kind s = if is_none (fault_of kind s) then Some s else None

-- the text, where it is a realm's description or the content of a message, as each text of some kind is
unfoldable pub taken : List ℕ → Option (List ℕ)
taken s = if is_none (fault_of RealmDescription s) || is_none (fault_of Content s) then Some s else None

unfoldable pub text_field : List ℕ → Data → Option (List ℕ)
text_field name d = kept (field as_str name d) >>= taken

-- the number, where 32 bits hold it
unfoldable pub id_of : ℕ → Option ℕ
id_of n = if nat_lt n (2 ^ 32) then Some n else None

unfoldable pub id_from : Data → Option ℕ
id_from d = u64_of d >>= id_of

unfoldable pub id_field : List ℕ → Data → Option ℕ
id_field name d = kept (field u64_of name d) >>= id_of

unfoldable pub number_field : List ℕ → Data → Option ℕ
number_field name d = kept (field u64_of name d)

unfoldable pub bool_field : List ℕ → Data → Option Bool
bool_field name d = kept (field as_bool name d)

unfoldable pub role_field : List ℕ → Data → Option Role
role_field name d = kept (field u64_of name d) >>= role_of

-- the ids that numbers are
unfoldable pub user_from : Data → Option UserId
user_from d = id_from d >>= λ n. Some (record { 0 = n })

unfoldable pub stream_from : Data → Option StreamId
stream_from d = id_from d >>= λ n. Some (record { 0 = n })

unfoldable pub message_from : Data → Option MessageId
message_from d = id_from d >>= λ n. Some (record { 0 = n })
