-- Writes that do in another order what some writes do in their own.
use Rattle.std.specs.Prelude.{◌≡◌, ◌≤◌, List, Option, None, if◌then◌else◌}
use Rattle.std.specs.List.Sorted.{IsSortedByKey}
use Rattle.std.specs.declared.cmp.Ordering.{Ordering}
use Rattle.ev_rows.specs.KeyOrder.{KeyOrder}
use Rattle.ev_rows.specs.Rows.{Table}
use Rattle.ev_types.specs.Writes.{Write, Rules, cell_after}
use Rattle.ev_apply.specs.declared.row_write.KeyWrite.{KeyWrite}
use Rattle.ev_apply.specs.declared.sorted_writes.SortedWrites.{SortedWrites}
use Rattle.ev_apply.specs.Kinds.{covered, in_order}
use Rattle.ev_apply.specs.Room.{HasRoom, put_count}

-- Where all rows under these prefixes are dropped first, the writes of the list from the last to the first leave in each
-- row what all writes leave. They put no more rows.
pub record Lasts {K V F P : Type 0} (rules : Rules K V F P) (dropped : List P) (writes : List (KeyWrite K V F)) (all : List (Write K V F P)) : Type 0 where
  pub room : put_count (in_order {P = P} writes) ≤ put_count all
  pub cells : (q : K) (old : Option V)
      → cell_after rules q (if covered rules.is_under dropped q then None else old) (in_order writes) ≡ cell_after rules q old all

-- these are writes by key that last, of all writes
pub record DoesWrites {K V F P : Type 0} (rules : Rules K V F P) (sorted : SortedWrites K V F P) (all : List (Write K V F P)) : Type 0 where
  pub order : KeyOrder rules.cmp
  pub puts : sorted.puts ≡ put_count all
  pub lasts : Lasts rules sorted.lasting.dropped.keys sorted.lasting.writes.items all
  pub rise : IsSortedByKey (λ write. write.key) rules.cmp sorted.lasting.writes.items

-- the writes by key can be done, in a section that has room for the rows that they put
pub record CanApply {K V F P : Type 0} (cmp : K → K → Ordering) (sorted : SortedWrites K V F P) (section : Option (Table K V)) : Type 0 where
  pub order : KeyOrder cmp
  pub rise : IsSortedByKey (λ write. write.key) cmp sorted.lasting.writes.items
  pub room : HasRoom (put_count (in_order {P = P} sorted.lasting.writes.items)) section
