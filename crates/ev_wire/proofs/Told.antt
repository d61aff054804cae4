-- Members that are put where there is something to tell.
use Rattle.std.proofs.Common.{◌≡◌, true, List, Option, None, Some, option_map, codes, Bor, refl, ap}
use Rattle.serde_json.specs.Data.{Data, Members, put}
use Rattle.ev_types.specs.declared.event.FlagChange.{FlagChange}
use Rattle.ev_wire.specs.Values.{list_data}
use Rattle.ev_wire.specs.Rows.{unread_data}
use Rattle.ev_wire.specs.Events.{tells_details, with_details}

-- the list of a section that is borrowed
pub borrowed_rows : {X : Type 0} (value_of : X → Data) (rows : Option (Bor (List X))) (section : Option (List X)) → option_map (λ list. list.now) rows ≡ section
    → option_map (λ list. list_data value_of list.now) rows ≡ option_map (list_data value_of) section
borrowed_rows value_of None section is = ap (option_map (list_data value_of)) is
borrowed_rows value_of (Some rows) section is = ap (option_map (list_data value_of)) is

-- details that are told
pub details_told : (change : FlagChange) (members : Members) → tells_details change.flag change.add ≡ true
    → put (codes "message_details") (list_data unread_data change.details) members ≡ with_details change members
details_told change members tells = rw tells refl
