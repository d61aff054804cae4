-- Which writes last, and that they may be done by key.
use Rattle.std.proofs.Common.{◌≡◌, ℕ, Bool, true, false, not, cond, ◌||◌, ◌&&◌, List, [], ◌∷◌, ◌++◌, filter, Option, None, Some, option_map, Less, Equal, Greater, Ordering, sym, ap, refl, subst, ◌∙◌, arith}
use Rattle.std.specs.Ordering.{is_lt, is_eq, ordering_reverse}
use Rattle.std.specs.BTreeMap.{is_at}
use Rattle.std.specs.List.{sum_by}
use Rattle.std.specs.List.Sorted.{IsPermutation, IsStableByKey, ties}
use Rattle.std.proofs.lemmas.List.Sums.{fold-append, sum_by-cons}
use Rattle.std.proofs.lemmas.List.Sorted.{sum_by-IsPermutation}
use Rattle.ev_rows.specs.KeyOrder.{KeyOrder}
use Rattle.ev_rows.specs.Rows.{SortedByKey, row_at, only_if}
use Rattle.ev_rows.proofs.RiseLemmas.{rise-filter}
use Rattle.ev_rows.proofs.RowLemmas.{at_same, row_at-filter_keys, same_rows}
use Rattle.ev_types.specs.Writes.{Write, Rules, drop_under, after_write, after_writes, cell_after_write, cell_after}
use Rattle.ev_types.proofs.WriteLemmas.{rise-after_writes, row_at-after_writes}
use Rattle.ev_apply.specs.declared.row_write.Change.{Change}
use Rattle.ev_apply.specs.declared.row_write.Change.TheVariants as change
use Rattle.ev_apply.specs.declared.row_write.KeyWrite.{KeyWrite}
use Rattle.ev_apply.specs.Kinds.{covered, in_order, write_at, write_of}
use Rattle.ev_apply.specs.Lasts.{Lasts}
use Rattle.ev_apply.specs.Room.{put_count}
use Rattle.ev_apply.proofs.Rooms.{put_count-append}

-- a row that is dropped by one of two tests, and a drop that comes first or last
either_drop : {V : Type 0} (a b : Bool) (old : Option V) → cond (a || b) None old ≡ cond b None (cond a None old)
either_drop true true old = refl
either_drop true false old = refl
either_drop false b old = refl

unless : {V : Type 0} (test : Bool) (old : Option V) → only_if (not test) old ≡ cond test None old
unless true old = refl
unless false old = refl

module _ {K V F P : Type 0} where
  -- a write before all others
  pub in_order-push : (writes : List (KeyWrite K V F)) (write : KeyWrite K V F) → in_order {P = P} (writes ++ write ∷ []) ≡ write_of write ∷ in_order writes
  in_order-push [] write = refl
  in_order-push (later ∷ writes) write = ap (λ l. l ++ write_of later ∷ []) (in_order-push writes write)

module _ {K V F : Type 0} (P : Type 0) where
  -- how many rows the writes put doesn't depend on their order
  abbrev puts_of : KeyWrite K V F → ℕ
  puts_of write = put_count {P = P} (write_of write ∷ [])

  put_count-sum : (writes : List (KeyWrite K V F)) → put_count (in_order {P = P} writes) ≡ sum_by puts_of writes
  put_count-sum [] = refl
  put_count-sum (write ∷ writes) =
      omega (arith, put_count-append (in_order {P = P} writes) (write_of write ∷ []), put_count-sum writes, sum_by-cons puts_of write writes)

  pub put_count-moved : (xs ys : List (KeyWrite K V F)) → IsPermutation xs ys → put_count (in_order {P = P} ys) ≡ put_count (in_order {P = P} xs)
  put_count-moved xs ys moved = put_count-sum ys ∙ sum_by-IsPermutation puts_of xs ys moved ∙ sym (put_count-sum xs)

module _ {K V F P : Type 0} (rules : Rules K V F P) where
  -- a write to another key
  other_key : (q : K) (old : Option V) (write : KeyWrite K V F) → is_at (rules.cmp q) write.key ≡ false
      → cell_after_write rules q old (write_of write) ≡ old
  other_key q old write off = go write.change
    where
      go : (c : Change V F) → cell_after_write rules q old (write_at write.key c) ≡ old
      go (change.Put value) = ap (λ at. cond at (Some value) old) off
      go (change.Patch field) = ap (λ at. cond at (option_map (rules.set field) old) old) off
      go change.DropRow = ap (λ at. cond at None old) off

  -- the writes to one key, which alone change its cell
  abbrev own : K → List (KeyWrite K V F) → List (KeyWrite K V F)
  own q writes = filter (λ write. is_at (rules.cmp q) write.key) writes

  own_writes : (q : K) (old : Option V) (writes : List (KeyWrite K V F))
      → cell_after rules q old (in_order writes) ≡ cell_after rules q old (in_order (own q writes))
  own_writes q old [] = refl
  own_writes q old (write ∷ writes) =
      last writes ∙ go (is_at (rules.cmp q) write.key) refl (ap (λ cell. cell_after_write rules q cell (write_of write)) (own_writes q old writes))
    where
      last : (earlier : List (KeyWrite K V F)) → cell_after rules q old (in_order (write ∷ earlier)) ≡ cell_after_write rules q (cell_after rules q old (in_order earlier)) (write_of write)
      last earlier = fold-append (cell_after_write rules q) old (in_order earlier) (write_of write ∷ [])

      go : (at : Bool) → is_at (rules.cmp q) write.key ≡ at
          → cell_after_write rules q (cell_after rules q old (in_order writes)) (write_of write) ≡ cell_after_write rules q (cell_after rules q old (in_order (own q writes))) (write_of write)
          → cell_after_write rules q (cell_after rules q old (in_order writes)) (write_of write) ≡ cell_after rules q old (in_order (cond at (write ∷ own q writes) (own q writes)))
      go true is further = further ∙ sym (last (own q writes))
      go false is further = further ∙ other_key q (cell_after rules q old (in_order (own q writes))) write is

  -- no write at all
  pub lasts_none : Lasts rules [] [] []
  lasts_none = record { room = omega arith; cells = λ q old. refl }

  -- a drop by a prefix before the others
  pub lasts_drop : (dropped more : List P) (prefix : P) (writes : List (KeyWrite K V F)) (later : List (Write K V F P))
      → ((q : K) → covered rules.is_under more q ≡ (rules.is_under prefix q || covered rules.is_under dropped q))
      → Lasts rules dropped writes later → Lasts rules more writes (drop_under prefix ∷ later)
  lasts_drop dropped more prefix writes later grown lasts = record {
    room = lasts.room;
    cells = λ q old.
        ap (λ cell. cell_after rules q cell (in_order writes))
        (ap (λ at. cond at None old) (grown q) ∙ either_drop (rules.is_under prefix q) (covered rules.is_under dropped q) old)
        ∙ lasts.cells q (cond (rules.is_under prefix q) None old);
  }

  module _ (order : KeyOrder rules.cmp) (dropped : List P) (write : KeyWrite K V F) (q : K) (old : Option V) where
    abbrev at : Bool
    at = covered rules.is_under dropped q

    abbrev done : Option V → Option V
    done cell = cell_after_write rules q cell (write_of write)

    -- a write to a row that no later drop covers passes the drop, and one to a row that is covered does nothing
    pass_drop : covered rules.is_under dropped write.key ≡ false → done (cond at None old) ≡ cond at None (done old)
    pass_drop free = go (is_at (rules.cmp q) write.key) refl
      where
        go : (here : Bool) → is_at (rules.cmp q) write.key ≡ here → done (cond at None old) ≡ cond at None (done old)
        go true is =
            let none : at ≡ false = ap (covered rules.is_under dropped) (at_same order q write.key is) ∙ free in
            ap (λ b. done (cond b None old)) none ∙ sym (ap (λ b. cond b None (done old)) none)
        go false is = other_key q (cond at None old) write is ∙ sym (ap (λ cell. cond at None cell) (other_key q old write is))

    under_drop : covered rules.is_under dropped write.key ≡ true → cond at None old ≡ cond at None (done old)
    under_drop covers = go (is_at (rules.cmp q) write.key) refl
      where
        go : (here : Bool) → is_at (rules.cmp q) write.key ≡ here → cond at None old ≡ cond at None (done old)
        go true is =
            let some : at ≡ true = ap (covered rules.is_under dropped) (at_same order q write.key is) ∙ covers in
            ap (λ b. cond b None old) some ∙ sym (ap (λ b. cond b None (done old)) some)
        go false is = sym (ap (λ cell. cond at None cell) (other_key q old write is))

  module _ (order : KeyOrder rules.cmp) (dropped : List P) (write : KeyWrite K V F) (writes : List (KeyWrite K V F)) (later : List (Write K V F P)) (lasts : Lasts rules dropped writes later) where
    -- a write before the others that lasts, and one that doesn't
    pub lasts_row : covered rules.is_under dropped write.key ≡ false → Lasts rules dropped (writes ++ write ∷ []) (write_of write ∷ later)
    lasts_row free = record {
      room = omega (arith, lasts.room, ap put_count (in_order-push {P = P} writes write), put_count-append (write_of {P = P} write ∷ []) (in_order writes), put_count-append (write_of write ∷ []) later);
      cells = λ q old.
          ap (cell_after rules q (cond (covered rules.is_under dropped q) None old)) (in_order-push writes write)
          ∙ ap (λ cell. cell_after rules q cell (in_order writes)) (pass_drop order dropped write q old free)
          ∙ lasts.cells q (cell_after_write rules q old (write_of write));
    }

    pub lasts_without : covered rules.is_under dropped write.key ≡ true → Lasts rules dropped writes (write_of write ∷ later)
    lasts_without covers = record {
      room = omega (arith, lasts.room, put_count-append (write_of write ∷ []) later);
      cells = λ q old.
          ap (λ cell. cell_after rules q cell (in_order writes)) (under_drop order dropped write q old covers)
          ∙ lasts.cells q (cell_after_write rules q old (write_of write));
    }

  -- a stable sort keeps the writes to each key in their order
  tied : (antisymm : (x y : K) → rules.cmp x y ≡ ordering_reverse (rules.cmp y x)) (q key : K)
      → (not (is_lt (rules.cmp q key)) && not (is_lt (rules.cmp key q))) ≡ is_at (rules.cmp q) key
  tied antisymm q key = ap (λ o. not (is_lt (rules.cmp q key)) && not (is_lt o)) (antisymm key q) ∙ go (rules.cmp q key)
    where
      go : (o : Ordering) → (not (is_lt o) && not (is_lt (ordering_reverse o))) ≡ is_eq o
      go Less = refl
      go Equal = refl
      go Greater = refl

  pub lasts_sorted : KeyOrder rules.cmp → (dropped : List P) (xs ys : List (KeyWrite K V F)) (all : List (Write K V F P))
      → IsPermutation xs ys → IsStableByKey (λ write. write.key) rules.cmp xs ys → Lasts rules dropped xs all → Lasts rules dropped ys all
  lasts_sorted order dropped xs ys all moved stable lasts = record {
    room = omega (arith, lasts.room, put_count-moved P xs ys moved);
    cells = λ q old.
        let cell = cond (covered rules.is_under dropped q) None old in
        own_writes q cell ys ∙ ap (λ l. cell_after rules q cell (in_order l)) (own_same q)
        ∙ sym (own_writes q cell xs) ∙ lasts.cells q old;
  }
    where
      own_same : (q : K) → own q ys ≡ own q xs
      own_same q =
          let at : KeyWrite K V F = record { key = q; change = change.DropRow } in
          let tests : ties (λ x y. is_lt (rules.cmp x.key y.key)) at ≡ (λ write. is_at (rules.cmp q) write.key) =
          λ i write. tied order.total.antisymm q write.key i in
          subst (λ test. filter test ys ≡ filter test xs) tests (stable at)

  -- the rows after the drops and then the writes that last
  pub rows_after_lasting : KeyOrder rules.cmp → (dropped : List P) (writes : List (KeyWrite K V F)) (all : List (Write K V F P)) → Lasts rules dropped writes all
      → (rows : List (K × V)) → SortedByKey rules.cmp rows
      → after_writes rules (filter (λ row. not (covered rules.is_under dropped row.0)) rows) (in_order writes) ≡ after_writes rules rows all
  rows_after_lasting order dropped writes all lasts rows rise =
      let free = filter (λ row. not (covered rules.is_under dropped row.0)) rows in
      let free_rise = rise-filter rules.cmp (λ row. not (covered rules.is_under dropped row.0)) rows rise in
      same_rows order (after_writes rules free (in_order writes)) (after_writes rules rows all)
      (rise-after_writes rules order free (in_order writes) free_rise) (rise-after_writes rules order rows all rise)
      (λ q. row_at-after_writes rules order free (in_order writes) q free_rise
      ∙ ap (λ cell. cell_after rules q cell (in_order writes))
      (row_at-filter_keys order (λ key. not (covered rules.is_under dropped key)) rows q rise ∙ unless (covered rules.is_under dropped q) (row_at rules.cmp rows q))
      ∙ lasts.cells q (row_at rules.cmp rows q)
      ∙ sym (row_at-after_writes rules order rows all q rise))

-- Writes by key are the same whatever the prefixes are.
module _ {K V F P : Type 0} (rules : Rules K V F P) where
  abbrev plain : Rules K V F (Unit {0})
  plain = record { cmp = rules.cmp; set = rules.set; is_under = λ prefix key. false }

  same_write : (rows : List (K × V)) (write : KeyWrite K V F) → after_write plain rows (write_of write) ≡ after_write rules rows (write_of write)
  same_write rows write = go write.change
    where
      go : (c : Change V F) → after_write plain rows (write_at write.key c) ≡ after_write rules rows (write_at write.key c)
      go (change.Put value) = refl
      go (change.Patch field) = refl
      go change.DropRow = refl

  pub same_writes : (rows : List (K × V)) (writes : List (KeyWrite K V F)) → after_writes plain rows (in_order writes) ≡ after_writes rules rows (in_order writes)
  same_writes rows [] = refl
  same_writes rows (write ∷ writes) =
      fold-append (after_write plain) rows (in_order writes) (write_of write ∷ [])
      ∙ ap (λ l. after_write plain l (write_of write)) (same_writes rows writes)
      ∙ same_write (after_writes rules rows (in_order writes)) write
      ∙ sym (fold-append (after_write rules) rows (in_order writes) (write_of write ∷ []))

module _ {K V F : Type 0} (P : Type 0) where
  same_puts_at : (key : K) (c : Change V F) → put_count {P = Unit {0}} (write_at key c ∷ []) ≡ put_count {P = P} (write_at key c ∷ [])
  same_puts_at key (change.Put value) = refl
  same_puts_at key (change.Patch field) = refl
  same_puts_at key change.DropRow = refl

  pub same_puts : (writes : List (KeyWrite K V F)) → put_count (in_order {P = Unit {0}} writes) ≡ put_count (in_order {P = P} writes)
  same_puts [] = refl
  same_puts (write ∷ writes) =
      omega (
        arith,
        put_count-append (in_order {P = Unit {0}} writes) (write_of write ∷ []),
        put_count-append (in_order {P = P} writes) (write_of write ∷ []),
        same_puts writes,
        same_puts_at write.key write.change,
      )

-- writes of which the last ones are read
pub record IsReading {K V F P : Type 0} (rules : Rules K V F P) (dropped : List P) (writes : List (KeyWrite K V F)) (remaining all : List (Write K V F P)) : Type 0 where
  pub later : List (Write K V F P)
  pub is : all ≡ remaining ++ later
  pub lasts : KeyOrder rules.cmp → Lasts rules dropped writes later
