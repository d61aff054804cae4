-- Sections of a whole view.
use Rattle.std.proofs.Common.{◌≡◌, ◌∙◌, List, Option, None, Some, IsSome, is_some, ap, sym, refl}
use Rattle.std.proofs.lemmas.Option.{same_Some}
use Rattle.ev_rows.specs.Rows.{Table}
use Rattle.ev_types.specs.Sections.{rows_in}

-- a table whose rows are there is there
pub table_there : {K V : Type 0} (section : Option (Table K V)) (rows : List (K × V)) → rows_in section ≡ Some rows → IsSome section
table_there None rows whole = ap is_some whole
table_there (Some table) rows whole = refl

-- and its rows are these
pub rows_there : {K V : Type 0} (section : Option (Table K V)) (table : Table K V) (rows : List (K × V)) → section ≡ Some table → rows_in section ≡ Some rows → table.rows ≡ rows
rows_there section table rows is whole = same_Some table.rows rows (sym (ap rows_in is) ∙ whole)
