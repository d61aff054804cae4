-- What becomes of a `Keyed` once a borrow of one of its values ends.
use Rattle.std.specs.Prelude.{Option}
use Rattle.std.specs.declared.cmp.Ordering.{Ordering}
use Rattle.std.specs.Borrow.{Fml, RattleType, MutBor, Lends, LendsIf}
use Rattle.std.specs.Map.{set_value}
use Rattle.std.specs.BTreeMap.{is_at}
use Rattle.std.specs.BTreeMap.Lent.{OrdMembers}
use Rattle.ev_rows.specs.Rows.{Table}
use Rattle.ev_rows.specs.contracts.keyed.Keyed.{the_row}

-- the table, with this value in the row of the key
abbrev pub with_value : {K V : Type 0} → (K → Ordering) → Table K V → V → Table K V
with_value compare table value = record table { rows = set_value (is_at compare) table.rows value }

module _ (K V : RattleType) (order : OrdMembers K.Denot) where
  -- the type `Keyed<K, V>`, as the logic holds it
  abbrev pub keyed_row : RattleType
  keyed_row = the_row K V (record { cmp = order.cmp }) (record { eq = order.eq }) (record { partial_cmp = order.partial_cmp })

  module _ (table : MutBor (Table K.Denot V.Denot)) (key : K.Denot) where
    -- the key's row has the value that was last written through r
    abbrev pub lends_value : MutBor V.Denot → Fml
    lends_value r = Lends keyed_row V table r (with_value (order.cmp key) table.now)

    -- the same, where there is such a row, and nothing changed where there is none
    abbrev pub lends_if_there : Option (MutBor V.Denot) → Fml
    lends_if_there r = LendsIf keyed_row V table r (with_value (order.cmp key) table.now) table.now
