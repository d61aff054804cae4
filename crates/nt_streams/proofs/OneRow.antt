-- Lists of which one key's row alone may have changed.
use Rattle.std.proofs.Common.{◌≡◌, cond, List, Ordering, Option, None, Some, option_map, ap, refl, ◌∙◌}
use Rattle.std.specs.BTreeMap.{insert_entry, is_at}
use Rattle.ev_rows.specs.KeyOrder.{KeyOrder}
use Rattle.ev_rows.specs.Rows.{AgreeBut, SortedByKey, row_at}
use Rattle.ev_rows.proofs.RiseLemmas.{rise-insert_entry, rise-remove_entry}
use Rattle.ev_rows.proofs.RowLemmas.{AgreeBut-insert_entry, AgreeBut-remove_entry, at_itself, row_at-insert_entry, row_at-remove_entry}
use Rattle.zr_types.proofs.ChangedRows.{rise-changed_at, row_at-changed_at}
use Rattle.zr_types.specs.Effects.{changed_at, without}

-- the rows afterwards rise, and are the rows before but for this key, which has this cell
pub record OneRow {K V : Type 0} (cmp : K → K → Ordering) (key : K) (cell : Option V) (before after : List (K × V)) : Type 0 where
  pub rise : SortedByKey cmp after
  pub others : AgreeBut cmp key before after
  pub here : row_at cmp after key ≡ cell

module _ {K V : Type 0} {cmp : K → K → Ordering} (order : KeyOrder cmp) (key : K) (rows : List (K × V)) (rise : SortedByKey cmp rows) where
  pub one_stays : OneRow cmp key (row_at cmp rows key) rows rows
  one_stays = record { rise = rise; others = λ q off. refl; here = refl }

  pub one_put : (value : V) → OneRow cmp key (Some value) rows (insert_entry cmp rows key value)
  one_put value = record {
    rise = rise-insert_entry order.total key value rows rise;
    others = AgreeBut-insert_entry order rows key value;
    here = row_at-insert_entry order rows key value key ∙ ap (λ b. cond b (Some value) (row_at cmp rows key)) (at_itself order key);
  }

  pub one_changed : (change : V → V) → OneRow cmp key (option_map change (row_at cmp rows key)) rows (changed_at cmp key change rows)
  one_changed change = record {
    rise = rise-changed_at order key change rows rise;
    others = λ q off. row_at-changed_at order key change rows q ∙ ap (λ b. cond b (option_map change (row_at cmp rows q)) (row_at cmp rows q)) off;
    here =
        row_at-changed_at order key change rows key
        ∙ ap (λ b. cond b (option_map change (row_at cmp rows key)) (row_at cmp rows key)) (at_itself order key);
  }

  pub one_dropped : OneRow cmp key None rows (without cmp key rows)
  one_dropped = record {
    rise = rise-remove_entry cmp (is_at (cmp key)) rows rise;
    others = AgreeBut-remove_entry order rows key rise;
    here = row_at-remove_entry order rows key key rise ∙ ap (λ b. cond b None (row_at cmp rows key)) (at_itself order key);
  }
