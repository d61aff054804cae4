-- What events make of the row of one key in a section: lists of rows that are put or dropped, and changes of what was kept.
use Rattle.std.proofs.Common.{◌≡◌, Bool, true, false, cond, List, [], ◌∷◌, ◌++◌, map, flat_map, fold, Ordering, Option, None, Some, sym, ap, refl, ◌∙◌}
use Rattle.std.specs.Option.{option_map_or}
use Rattle.std.specs.BTreeMap.{is_at}
use Rattle.std.proofs.lemmas.List.Sums.{fold-append}
use Rattle.ev_rows.specs.KeyOrder.{KeyOrder}
use Rattle.ev_rows.specs.Rows.{SortedByKey, row_at, keys_of, one_of, fresh, both_of, gained, kept, lost, keyed_events}
use Rattle.ev_rows.proofs.RiseLemmas.{rise_tail}
use Rattle.ev_rows.proofs.RowFolds.{fold-flat_map_at}
use Rattle.ev_rows.proofs.RowLemmas.{at_same, at_itself, row_at_below, same_rows}
use Rattle.ev_rows.proofs.ChangeLemmas.{row_at-gained, row_at-kept, rise-kept}
use Rattle.ev_types.specs.declared.event.Event.{Event}
use Rattle.ev_types.specs.Writes.{Write, put, patch, drop_row, Rules, cell_after_write, cell_after}
use Rattle.ev_types.specs.Applying.{rows_applied}
use Rattle.ev_types.proofs.WriteLemmas.{rise-after_writes, row_at-after_writes}
use Rattle.ev_types.specs.Changes.{unless}

-- the first value, or else the second
abbrev pub over : {V : Type 0} → Option V → Option V → Option V
over None old = old
over (Some new) old = Some new

-- no value where there is one here, or else the second
abbrev pub without : {V W : Type 0} → Option W → Option V → Option V
without None old = old
without (Some gone) old = None

module _ {K V F P : Type 0} (rules : Rules K V F P) (writes : Event → List (Write K V F P)) (q : K) where
  -- what an event makes of the row of a key
  abbrev pub cell_step : Option V → Event → Option V
  cell_step cell event = cell_after rules q cell (writes event)

  by_events : (events : List Event) (cell : Option V) → cell_after rules q cell (flat_map writes events) ≡ fold cell_step cell events
  by_events [] cell = refl
  by_events (event ∷ events) cell = fold-append (cell_after_write rules q) cell (writes event) (flat_map writes events) ∙ by_events events (cell_step cell event)

module _ {K V F P : Type 0} (rules : Rules K V F P) (order : KeyOrder rules.cmp) where
  -- events lead from one list to another where they do so at each key
  pub rows_lead : (writes : Event → List (Write K V F P)) (events : List Event) (before after : List (K × V)) → SortedByKey rules.cmp before → SortedByKey rules.cmp after
      → ((q : K) → fold (cell_step rules writes q) (row_at rules.cmp before q) events ≡ row_at rules.cmp after q) → rows_applied rules writes events before ≡ after
  rows_lead writes events before after before_rises after_rises leads =
      same_rows order (rows_applied rules writes events before) after (rise-after_writes rules order before (flat_map writes events) before_rises) after_rises
      (λ q. row_at-after_writes rules order before (flat_map writes events) q before_rises ∙ by_events rules writes q events (row_at rules.cmp before q) ∙ leads q)

  module _ (q : K) where
    -- rows that are put
    pub cell-puts : (rows : List (K × V)) → SortedByKey rules.cmp rows → (cell : Option V) → cell_after rules q cell (map (λ row. put row.0 row.1) rows) ≡ over (row_at rules.cmp rows q) cell
    cell-puts [] rise cell = refl
    cell-puts (row ∷ rows) rise cell = go (is_at (rules.cmp q) row.0) refl (λ c. cell-puts rows (rise_tail rules.cmp row rows rise) c)
      where
        go : (at : Bool) → is_at (rules.cmp q) row.0 ≡ at → ((c : Option V) → cell_after rules q c (map (λ r. put r.0 r.1) rows) ≡ over (row_at rules.cmp rows q) c)
            → cell_after rules q (cond at (Some row.1) cell) (map (λ r. put r.0 r.1) rows) ≡ over (cond at (Some row.1) (row_at rules.cmp rows q)) cell
        go true at further =
            let none = ap (row_at rules.cmp rows) (at_same order q row.0 at) ∙ row_at_below order row rows rise in
            further (Some row.1) ∙ ap (λ o. over o (Some row.1)) none
        go false off further = further cell

    -- keys whose rows are dropped
    pub cell-drops : {W : Type 0} (rows : List (K × W)) (cell : Option V) → cell_after rules q cell (map drop_row (keys_of rows)) ≡ without (row_at rules.cmp rows q) cell
    cell-drops [] cell = refl
    cell-drops {W} (row ∷ rows) cell = go (is_at (rules.cmp q) row.0) (λ c. cell-drops rows c)
      where
        nothing : (o : Option W) → without {V = V} o None ≡ None
        nothing None = refl
        nothing (Some w) = refl

        go : (at : Bool) → ((c : Option V) → cell_after rules q c (map drop_row (keys_of rows)) ≡ without (row_at rules.cmp rows q) c)
            → cell_after rules q (cond at None cell) (map drop_row (keys_of rows)) ≡ without (cond at (Some row.1) (row_at rules.cmp rows q)) cell
        go true further = further None ∙ nothing (row_at rules.cmp rows q)
        go false further = further cell

    -- a field that is set unless that changes nothing
    pub cell-unless : (writes : Event → List (Write K V F P)) (same : Bool) (event : Event) (field : F) (row : V) → writes event ≡ patch q field ∷ [] → (same ≡ true → rules.set field row ≡ row)
        → fold (cell_step rules writes q) (Some row) (unless same event) ≡ Some (rules.set field row)
    cell-unless writes true event field row is stays = ap Some (sym (stays refl))
    cell-unless writes false event field row is stays = rw (is, at_itself order q) refl

-- one event made of a list does what it does of the whole list, and none does what it does of no list
pub fold-one_of : {C X : Type 0} (step : C → Event → C) (make : List X → Event) (act : List X → C) (c : C) → act [] ≡ c → ((xs : List X) → step c (make xs) ≡ act xs)
    → (xs : List X) → fold step c (one_of make xs) ≡ act xs
fold-one_of step make act c none acts [] = sym none
fold-one_of step make act c none acts (x ∷ xs) = acts (x ∷ xs)

module _ {K V : Type 0} {cmp : K → K → Ordering} (order : KeyOrder cmp) (create : List (K × V) → List Event) (change : K × (V × V) → List Event) (delete : List (K × V) → List Event)
    (before after : List (K × V)) (q : K) (step : Option V → Event → Option V) where
  abbrev old : Option V
  old = row_at cmp before q

  abbrev new : Option V
  new = row_at cmp after q

  -- events that create what was gained, change what was kept and delete what was lost lead from the row that stood to the row that stands
  pub keyed_leads : SortedByKey cmp before → SortedByKey cmp after
      → ((cell : Option V) → fold step cell (create (gained cmp before after)) ≡ over (row_at cmp (gained cmp before after) q) cell)
      → ((row : K × (V × V)) (cell : Option V) → is_at (cmp q) row.0 ≡ false → fold step cell (change row) ≡ cell)
      → ((old new : V) → row_at cmp before q ≡ Some old → row_at cmp after q ≡ Some new → fold step (Some old) (change (q, (old, new))) ≡ Some new)
      → ((cell : Option V) → fold step cell (delete (lost cmp before after)) ≡ without (row_at cmp (lost cmp before after) q) cell)
      → fold step (row_at cmp before q) (keyed_events cmp create change delete before after) ≡ row_at cmp after q
  keyed_leads before_rises after_rises created quiet changed deleted =
      fold-append step old (create (gained cmp before after) ++ flat_map change (kept cmp before after)) (delete (lost cmp before after))
      ∙ deleted (fold step old (create (gained cmp before after) ++ flat_map change (kept cmp before after)))
      ∙ ap (without (row_at cmp (lost cmp before after) q)) (fold-append step old (create (gained cmp before after)) (flat_map change (kept cmp before after)))
      ∙ ap (λ c. without (row_at cmp (lost cmp before after) q) (fold step c (flat_map change (kept cmp before after)))) (created old)
      ∙ ap (without (row_at cmp (lost cmp before after) q))
      (fold-flat_map_at order step change q quiet (kept cmp before after) (rise-kept cmp before after after_rises) (over (row_at cmp (gained cmp before after) q) old))
      ∙ ap (λ o. without o (option_map_or (λ v. fold step (over (row_at cmp (gained cmp before after) q) old) (change (q, v))) (row_at cmp (kept cmp before after) q) (over (row_at cmp (gained cmp before after) q) old)))
      (row_at-gained order after before before_rises q)
      ∙ ap (λ o. without (fresh new old) (option_map_or (λ v. fold step (over (row_at cmp (gained cmp before after) q) old) (change (q, v))) o (over (row_at cmp (gained cmp before after) q) old)))
      (row_at-kept order before after after_rises q)
      ∙ ap (λ o. without (fresh new old) (option_map_or (λ v. fold step (over o old) (change (q, v))) (both_of old new) (over o old)))
      (row_at-gained order before after after_rises q)
      ∙ go old new refl refl
    where
      go : (o n : Option V) → row_at cmp before q ≡ o → row_at cmp after q ≡ n
          → without (fresh n o) (option_map_or (λ v. fold step (over (fresh o n) o) (change (q, v))) (both_of o n) (over (fresh o n) o)) ≡ n
      go None None o_is n_is = refl
      go None (Some n) o_is n_is = refl
      go (Some o) None o_is n_is = refl
      go (Some o) (Some n) o_is n_is = changed o n o_is n_is
