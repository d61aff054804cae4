-- Writes by their kind.
use Rattle.std.specs.Prelude.{Bool, List, [], ◌∷◌, ◌++◌}
use Rattle.std.specs.List.{list_any}
use Rattle.ev_types.specs.Writes.{Write, put, patch, drop_row, drop_under}
use Rattle.ev_apply.specs.declared.row_write.Change.{Change}
use Rattle.ev_apply.specs.declared.row_write.Change.TheVariants.{Put, Patch, DropRow}
use Rattle.ev_apply.specs.declared.row_write.KeyWrite.{KeyWrite}
use Rattle.ev_apply.specs.declared.row_write.WriteKind.{WriteKind}
use Rattle.ev_apply.specs.declared.row_write.WriteKind.TheVariants.{Row, DropUnder}
use Rattle.ev_apply.specs.declared.message_field.MessageFieldKind.{MessageFieldKind}
use Rattle.ev_apply.specs.declared.message_field.MessageFieldKind.TheVariants as kind
use Rattle.ev_types.specs.EventWrites.{MessageField, to_place, to_content, to_flag}

-- the write that changes the row of this key so
abbrev pub write_at : {K V F P : Type 0} → K → Change V F → Write K V F P
write_at key (Put value) = put key value
write_at key (Patch field) = patch key field
write_at key DropRow = drop_row key

abbrev pub write_of : {K V F P : Type 0} → KeyWrite K V F → Write K V F P
write_of write = write_at write.key write.change

-- the write of this kind
abbrev pub write_of_kind : {K V F P : Type 0} → WriteKind K V F P → Write K V F P
write_of_kind (Row write) = write_of write
write_of_kind (DropUnder prefix) = drop_under prefix

-- the writes of a list whose latest comes first, in order
abbrev pub in_order : {K V F P : Type 0} → List (KeyWrite K V F) → List (Write K V F P)
in_order [] = []
in_order (write ∷ earlier) = in_order earlier ++ write_of write ∷ []

-- whether the key is under one of the prefixes
abbrev pub covered : {K P : Type 0} → (P → K → Bool) → List P → K → Bool
covered is_under prefixes key = list_any (λ prefix. is_under prefix key) prefixes

-- the field of a message of this kind
abbrev pub field_of_kind : MessageFieldKind → MessageField
field_of_kind (kind.Place place) = to_place place
field_of_kind (kind.Content content) = to_content content
field_of_kind (kind.Flag flag value) = to_flag flag value
