-- A member that is inserted is put among the others.
use Rattle.std.proofs.Common.{◌≡◌, List, String, Global, string_bytes, string_cmp}
use Rattle.std.specs.BTreeMap.{insert_entry}
use Rattle.serde_json.specs.Data.{put}
use Rattle.serde_json.specs.View.{view, members_view}
use Rattle.serde_json.specs.declared.value.Value.{Value}
use Rattle.serde_json.proofs.Views.{members_view-insert_entry}

pub inserted_is_put : (members : List (String Global × Value)) (key : String Global) (value : Value)
    → members_view (insert_entry string_cmp members key value) ≡ put (string_bytes key) (view value) (members_view members)
inserted_is_put members key value = members_view-insert_entry members key value
