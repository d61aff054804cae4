-- Bodies that were written for a client whose ids rise.
use Rattle.std.specs.Prelude.{◌≡◌, ℤ, int_le, false, List, [], ◌∷◌, map}
use Rattle.ev_types.specs.declared.event.Item.{Item}
use Rattle.ev_types.specs.Applying.{applied_where_present}
use Rattle.rp_replica.specs.Held.{Held}

-- each id is above the one before, and the first is above the last that a client was told
abbrev pub IdsRise : ℤ → List Item → Type 0
IdsRise last [] = Unit {0}
IdsRise last (item ∷ later) = (int_le item.id last ≡ false) × IdsRise item.id later

abbrev pub last_id : ℤ → List Item → ℤ
last_id last [] = last
last_id last (item ∷ later) = last_id item.id later

-- what a client holds after these items
abbrev pub with_items : Held → List Item → Held
with_items held items = record {
  sections = applied_where_present (map (λ item. item.event) items) held.sections;
  last = last_id held.last items;
}
