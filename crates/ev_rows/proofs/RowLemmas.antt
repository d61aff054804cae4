-- Rows that rise, by the row of each key: what an edit leaves, and that lists with the same rows are equal.
use Rattle.std.proofs.Common.{◌≡◌, Bool, true, false, cond, if◌then◌else◌, List, [], ◌∷◌, ◌++◌, filter, flat_map, Less, Equal, Greater, Ordering, Option, None, Some, IsSome, is_some, option_map, option_and_then, sym, ap, refl, ◌∙◌, true≢false, append-nil}
use Rattle.std.specs.Ordering.{match_ordering, is_eq}
use Rattle.std.specs.List.{cons_option}
use Rattle.std.specs.Map.{remove_entry, set_value}
use Rattle.std.specs.BTreeMap.{insert_entry, is_at}
use Rattle.std.proofs.lemmas.Cmp.{tied_itself, eq_by_cmp_equiv}
use Rattle.std.proofs.lemmas.Map.{lookup-remove_entry, lookup-set_value}
use Rattle.std.proofs.lemmas.Map.Keys.{IsDistinct-from_sorted}
use Rattle.std.proofs.lemmas.Option.{same_Some}
use Rattle.ev_rows.specs.KeyOrder.{KeyOrder}
use Rattle.ev_rows.specs.Rows.{SortedByKey, keys_of, row_at, with_rows, sift, only_if, made_of, one_row, AgreeBut}
use Rattle.ev_rows.proofs.RiseLemmas.{IsBelow-further, IsBelow-sift, rise-nil, rise-cons, rise_head, rise_tail, below-above}
use Rattle.ev_rows.proofs.PlaceLemmas.{lookup-below}

module _ {K : Type 0} {cmp : K → K → Ordering} (order : KeyOrder cmp) where
  -- a key is at itself, and at no other
  pub at_itself : (key : K) → is_at (cmp key) key ≡ true
  at_itself key = ap is_eq (tied_itself order.total key)

  pub at_same : (q key : K) → is_at (cmp q) key ≡ true → q ≡ key
  at_same q key at = go (cmp q key) refl at
    where
      go : (o : Ordering) → cmp q key ≡ o → is_eq o ≡ true → q ≡ key
      go Less is at = absurd (true≢false (sym at))
      go Equal is at = order.exact q key is
      go Greater is at = absurd (true≢false (sym at))

  pub at_turned : (q key : K) → is_at (cmp q) key ≡ is_at (cmp key) q
  at_turned q key = (eq_by_cmp_equiv order.total).symm q key

-- two choices that are made alike, and two that are not made both
alike : {X : Type 0} (b : Bool) (new old rest : X) → cond b new rest ≡ cond b new (cond b old rest)
alike true new old rest = refl
alike false new old rest = refl

apart : {X : Type 0} (a b : Bool) (new old rest changed : X) → (a ≡ true → b ≡ false) → changed ≡ cond a new rest → cond b old changed ≡ cond a new (cond b old rest)
apart true b new old rest changed not_both is = let no = not_both refl in rw no is
apart false true new old rest changed not_both is = refl
apart false false new old rest changed not_both is = is

module _ {K V : Type 0} {cmp : K → K → Ordering} (order : KeyOrder cmp) where
  -- the row of a key after a put
  pub row_at-insert_entry : (rows : List (K × V)) (key : K) (value : V) (q : K)
      → row_at cmp (insert_entry cmp rows key value) q ≡ (if is_at (cmp q) key then Some value else row_at cmp rows q)
  row_at-insert_entry [] key value q = refl
  row_at-insert_entry (row ∷ rows) key value q = go (cmp key row.0) refl (row_at-insert_entry rows key value q)
    where
      go : (o : Ordering) → cmp key row.0 ≡ o
          → row_at cmp (insert_entry cmp rows key value) q ≡ (if is_at (cmp q) key then Some value else row_at cmp rows q)
          → row_at cmp (match_ordering o ((key, value) ∷ row ∷ rows) ((row.0, value) ∷ rows) (row ∷ insert_entry cmp rows key value)) q
          ≡ (if is_at (cmp q) key then Some value else row_at cmp (row ∷ rows) q)
      go Less is further = refl
      go Equal is further = let same = order.exact key row.0 is in rw same (alike (is_at (cmp q) row.0) (Some value) (Some row.1) (row_at cmp rows q))
      go Greater is further =
          apart (is_at (cmp q) key) (is_at (cmp q) row.0) (Some value) (Some row.1) (row_at cmp rows q) (row_at cmp (insert_entry cmp rows key value) q)
          (λ at. ap (λ k. is_eq (cmp k row.0)) (at_same order q key at) ∙ ap is_eq is) further

  -- the row of a key after new rows were put, one after another
  pub row_at-with_rows : (rows new : List (K × V)) (q : K) → SortedByKey cmp new
      → row_at cmp (with_rows cmp rows new) q ≡ (if is_some (row_at cmp new q) then row_at cmp new q else row_at cmp rows q)
  row_at-with_rows rows [] q rise = refl
  row_at-with_rows rows (row ∷ new) q rise = row_at-with_rows (insert_entry cmp rows row.0 row.1) new q (rise_tail cmp row new rise) ∙ go (is_at (cmp q) row.0) refl
    where
      go : (b : Bool) → is_at (cmp q) row.0 ≡ b
          → (if is_some (row_at cmp new q) then row_at cmp new q else row_at cmp (insert_entry cmp rows row.0 row.1) q)
          ≡ (if is_some (row_at cmp (row ∷ new) q) then row_at cmp (row ∷ new) q else row_at cmp rows q)
      go true at =
          let none = ap (row_at cmp new) (at_same order q row.0 at) ∙ lookup-below order.total row.0 new (rise_head cmp row new rise) in
          rw (none, row_at-insert_entry rows row.0 row.1 q, at) refl
      go false off = rw (row_at-insert_entry rows row.0 row.1 q, off) refl

  -- the row of a key after a drop
  pub row_at-remove_entry : (rows : List (K × V)) (key q : K) → SortedByKey cmp rows
      → row_at cmp (remove_entry (is_at (cmp key)) rows) q ≡ (if is_at (cmp q) key then None else row_at cmp rows q)
  row_at-remove_entry rows key q rise =
      let laws = eq_by_cmp_equiv order.total in
      rw (at_turned order q key) (lookup-remove_entry laws (is_at (cmp key)) (λ x y at. laws.congr key x y at) q rows (IsDistinct-from_sorted cmp (keys_of rows) rise))

  -- the row of a key after its value was written, where it has one
  pub row_at-set_value : (rows : List (K × V)) (key : K) (value : V) (q : K) → IsSome (row_at cmp rows key)
      → row_at cmp (set_value (is_at (cmp key)) rows value) q ≡ (if is_at (cmp q) key then Some value else row_at cmp rows q)
  row_at-set_value rows key value q some =
      let laws = eq_by_cmp_equiv order.total in
      rw (at_turned order q key) (lookup-set_value laws (is_at (cmp key)) (λ x y at. laws.congr key x y at) q value rows some)

  -- the row of the first key, and that of a key that isn't the first
  pub row_at_head : (row : K × V) (rows : List (K × V)) → row_at cmp (row ∷ rows) row.0 ≡ Some row.1
  row_at_head row rows = let at = at_itself order row.0 in rw at refl

  pub row_at_hit : (row : K × V) (rows : List (K × V)) (q : K) → is_at (cmp q) row.0 ≡ true → row_at cmp (row ∷ rows) q ≡ Some row.1
  row_at_hit row rows q at = rw at refl

  pub row_at_tail : (row : K × V) (rows : List (K × V)) (q : K) → is_at (cmp q) row.0 ≡ false → row_at cmp (row ∷ rows) q ≡ row_at cmp rows q
  row_at_tail row rows q off = rw off refl

  -- no later row has the key of the first
  pub row_at_below : (row : K × V) (rows : List (K × V)) → SortedByKey cmp (row ∷ rows) → row_at cmp rows row.0 ≡ None
  row_at_below row rows rise = lookup-below order.total row.0 rows (rise_head cmp row rows rise)

module _ {K V W : Type 0} {cmp : K → K → Ordering} (order : KeyOrder cmp) (f : K × V → Option W) where
  -- the row of a key after each row made one of its own key
  pub row_at-sift : (rows : List (K × V)) (q : K) → SortedByKey cmp rows → row_at cmp (sift f rows) q ≡ option_and_then (λ v. f (q, v)) (row_at cmp rows q)
  row_at-sift [] q rise = refl
  row_at-sift (row ∷ rows) q rise = go (is_at (cmp q) row.0) refl (row_at-sift rows q (rise_tail cmp row rows rise))
    where
      at_row : (o : Option W) → f row ≡ o → row_at cmp (cons_option (option_map (λ w. (row.0, w)) o) (sift f rows)) row.0 ≡ f row
      at_row None is = lookup-below order.total row.0 (sift f rows) (IsBelow-sift cmp f row.0 rows (rise_head cmp row rows rise)) ∙ sym is
      at_row (Some w) is = row_at_head order (row.0, w) (sift f rows) ∙ sym is

      off_row : (o : Option W) → is_at (cmp q) row.0 ≡ false → row_at cmp (cons_option (option_map (λ w. (row.0, w)) o) (sift f rows)) q ≡ row_at cmp (sift f rows) q
      off_row None off = refl
      off_row (Some w) off = row_at_tail order (row.0, w) (sift f rows) q off

      go : (b : Bool) → is_at (cmp q) row.0 ≡ b → row_at cmp (sift f rows) q ≡ option_and_then (λ v. f (q, v)) (row_at cmp rows q)
          → row_at cmp (sift f (row ∷ rows)) q ≡ option_and_then (λ v. f (q, v)) (row_at cmp (row ∷ rows) q)
      go true at further =
          let same = at_same order q row.0 at in
          ap (row_at cmp (sift f (row ∷ rows))) same ∙ at_row (f row) refl ∙ ap (λ k. f (k, row.1)) (sym same) ∙ ap (option_and_then (λ v. f (q, v))) (sym (row_at_hit order row rows q at))
      go false off further = off_row (f row) off ∙ further ∙ ap (option_and_then (λ v. f (q, v))) (sym (row_at_tail order row rows q off))

pub only_if-None : {X : Type 0} (b : Bool) → only_if {X = X} b None ≡ None
only_if-None true = refl
only_if-None false = refl

-- a filter makes each row that passes of itself
pub filter_is_sift : {K V : Type 0} (test : K × V → Bool) (rows : List (K × V)) → filter test rows ≡ sift (λ row. only_if (test row) (Some row.1)) rows
filter_is_sift test [] = refl
filter_is_sift test (row ∷ rows) = go (test row) (filter_is_sift test rows)
  where
    go : (b : Bool) → filter test rows ≡ sift (λ r. only_if (test r) (Some r.1)) rows
        → cond b (row ∷ filter test rows) (filter test rows) ≡ cons_option (option_map (λ w. (row.0, w)) (only_if b (Some row.1))) (sift (λ r. only_if (test r) (Some r.1)) rows)
    go true further = ap (λ l. row ∷ l) further
    go false further = further

module _ {K V : Type 0} {cmp : K → K → Ordering} (order : KeyOrder cmp) where
  -- the row of a key after a filter, and after one by the keys
  pub row_at-filter : (test : K × V → Bool) (rows : List (K × V)) (q : K) → SortedByKey cmp rows
      → row_at cmp (filter test rows) q ≡ option_and_then (λ v. only_if (test (q, v)) (Some v)) (row_at cmp rows q)
  row_at-filter test rows q rise = ap (λ l. row_at cmp l q) (filter_is_sift test rows) ∙ row_at-sift order (λ row. only_if (test row) (Some row.1)) rows q rise

  pub row_at-filter_keys : (test : K → Bool) (rows : List (K × V)) (q : K) → SortedByKey cmp rows
      → row_at cmp (filter (λ row. test row.0) rows) q ≡ only_if (test q) (row_at cmp rows q)
  row_at-filter_keys test rows q rise = row_at-filter (λ row. test row.0) rows q rise ∙ go (row_at cmp rows q)
    where
      go : (o : Option V) → option_and_then (λ v. only_if (test q) (Some v)) o ≡ only_if (test q) o
      go None = sym (only_if-None (test q))
      go (Some v) = refl

  -- of two lists with the same rows, the first keys are the same, and so are the rows after them
  same_heads : (x y : K × V) (xs ys : List (K × V)) → SortedByKey cmp (x ∷ xs) → SortedByKey cmp (y ∷ ys) → ((q : K) → row_at cmp (x ∷ xs) q ≡ row_at cmp (y ∷ ys) q) → x.0 ≡ y.0
  same_heads x y xs ys xs_rise ys_rise same = go (cmp x.0 y.0) refl
    where
      absent : (low : K) (row : K × V) (rows : List (K × V)) → SortedByKey cmp (row ∷ rows) → cmp low row.0 ≡ Less → row_at cmp (row ∷ rows) low ≡ None
      absent low row rows rise less = lookup-below order.total low (row ∷ rows) (less, IsBelow-further order.total low row.0 rows less (rise_head cmp row rows rise))

      go : (o : Ordering) → cmp x.0 y.0 ≡ o → x.0 ≡ y.0
      go Less is = let clash = sym (row_at_head order x xs) ∙ same x.0 ∙ absent x.0 y ys ys_rise is in cc
      go Equal is = order.exact x.0 y.0 is
      go Greater is = let clash = sym (row_at_head order y ys) ∙ sym (same y.0) ∙ absent y.0 x xs xs_rise (below-above order.total x.0 y.0 is) in cc

  same_tails : (x y : K × V) (xs ys : List (K × V)) → SortedByKey cmp (x ∷ xs) → SortedByKey cmp (y ∷ ys) → ((q : K) → row_at cmp (x ∷ xs) q ≡ row_at cmp (y ∷ ys) q) → x.0 ≡ y.0
      → (q : K) → row_at cmp xs q ≡ row_at cmp ys q
  same_tails x y xs ys xs_rise ys_rise same heads q = go (is_at (cmp q) x.0) refl
    where
      go : (b : Bool) → is_at (cmp q) x.0 ≡ b → row_at cmp xs q ≡ row_at cmp ys q
      go true at =
          let here = at_same order q x.0 at in
          ap (row_at cmp xs) here ∙ row_at_below order x xs xs_rise ∙ sym (row_at_below order y ys ys_rise) ∙ ap (row_at cmp ys) (sym heads ∙ sym here)
      go false off = sym (row_at_tail order x xs q off) ∙ same q ∙ row_at_tail order y ys q (ap (is_at (cmp q)) (sym heads) ∙ off)

  -- lists that rise and have the same row at every key are equal
  pub same_rows : (xs ys : List (K × V)) → SortedByKey cmp xs → SortedByKey cmp ys → ((q : K) → row_at cmp xs q ≡ row_at cmp ys q) → xs ≡ ys
  same_rows [] [] xs_rise ys_rise same = refl
  same_rows [] (y ∷ ys) xs_rise ys_rise same = let clash = same y.0 ∙ row_at_head order y ys in cc
  same_rows (x ∷ xs) [] xs_rise ys_rise same = let clash = sym (same x.0) ∙ row_at_head order x xs in cc
  same_rows (x ∷ xs) (y ∷ ys) xs_rise ys_rise same =
      let heads = same_heads x y xs ys xs_rise ys_rise same in
      let values = same_Some x.1 y.1 (sym (row_at_head order x xs) ∙ same x.0 ∙ ap (row_at cmp (y ∷ ys)) heads ∙ row_at_head order y ys) in
      let rest = same_rows xs ys (rise_tail cmp x xs xs_rise) (rise_tail cmp y ys ys_rise) (same_tails x y xs ys xs_rise ys_rise same heads) in
      λ i. (heads i, values i) ∷ rest i

  -- one row, or none
  pub rise-one_row : (key : K) (value : Option V) → SortedByKey cmp (one_row key value)
  rise-one_row key None = rise-nil cmp
  rise-one_row key (Some v) = rise-cons cmp (key, v) [] tt (rise-nil cmp)

  pub row_at-one_row : (key : K) (value : Option V) (q : K) → row_at cmp (one_row key value) q ≡ only_if (is_at (cmp q) key) value
  row_at-one_row key None q = sym (only_if-None (is_at (cmp q) key))
  row_at-one_row key (Some v) q = refl

  -- a list with no row but this key's
  pub only_at : (rows : List (K × V)) (key : K) → SortedByKey cmp rows → ((q : K) → is_at (cmp q) key ≡ false → row_at cmp rows q ≡ None) → rows ≡ one_row key (row_at cmp rows key)
  only_at rows key rise others = same_rows rows (one_row key (row_at cmp rows key)) rise (rise-one_row key (row_at cmp rows key)) (λ q. go q (is_at (cmp q) key) refl)
    where
      go : (q : K) (b : Bool) → is_at (cmp q) key ≡ b → row_at cmp rows q ≡ row_at cmp (one_row key (row_at cmp rows key)) q
      go q true at = rw (row_at-one_row key (row_at cmp rows key) q, at) (ap (row_at cmp rows) (at_same order q key at))
      go q false off = rw (row_at-one_row key (row_at cmp rows key) q, off) (others q off)

module _ {K V : Type 0} {cmp : K → K → Ordering} (order : KeyOrder cmp) (row : K × V) (rows : List (K × V)) (rise : SortedByKey cmp (row ∷ rows)) where
  -- the key of a later row isn't the first, and has the same row in the whole list
  pub later_off : (q : K) (v : V) → row_at cmp rows q ≡ Some v → is_at (cmp q) row.0 ≡ false
  later_off q v is = go (is_at (cmp q) row.0) refl
    where
      go : (b : Bool) → is_at (cmp q) row.0 ≡ b → b ≡ false
      go true at = let clash = sym is ∙ ap (row_at cmp rows) (at_same order q row.0 at) ∙ row_at_below order row rows rise in cc
      go false off = refl

  pub later_row : (q : K) (v : V) → row_at cmp rows q ≡ Some v → row_at cmp (row ∷ rows) q ≡ Some v
  later_row q v is = row_at_tail order row rows q (later_off q v is) ∙ is

module _ {K V E : Type 0} {cmp : K → K → Ordering} (order : KeyOrder cmp) (f : K × V → List E) where
  -- what is made of rows of which each gives nothing
  pub flat_map_quiet : (rows : List (K × V)) → SortedByKey cmp rows → ((q : K) (v : V) → row_at cmp rows q ≡ Some v → f (q, v) ≡ []) → flat_map f rows ≡ []
  flat_map_quiet [] rise quiet = refl
  flat_map_quiet (row ∷ rows) rise quiet =
      let further = flat_map_quiet rows (rise_tail cmp row rows rise) (λ q v is. quiet q v (later_row order row rows rise q v is)) in
      rw (quiet row.0 row.1 (row_at_head order row rows)) further

  -- what is made of rows of which each but this key's gives nothing
  pub flat_map_at : (rows : List (K × V)) (key : K) → SortedByKey cmp rows → ((q : K) (v : V) → is_at (cmp q) key ≡ false → row_at cmp rows q ≡ Some v → f (q, v) ≡ [])
      → flat_map f rows ≡ made_of (λ v. f (key, v)) (row_at cmp rows key)
  flat_map_at [] key rise quiet = refl
  flat_map_at (row ∷ rows) key rise quiet = go (is_at (cmp key) row.0) refl (flat_map_at rows key (rise_tail cmp row rows rise) (λ q v off is. quiet q v off (later_row order row rows rise q v is)))
    where
      go : (b : Bool) → is_at (cmp key) row.0 ≡ b → flat_map f rows ≡ made_of (λ v. f (key, v)) (row_at cmp rows key)
          → f row ++ flat_map f rows ≡ made_of (λ v. f (key, v)) (row_at cmp (row ∷ rows) key)
      go true at further =
          let here = at_same order key row.0 at in
          let others = flat_map_quiet rows (rise_tail cmp row rows rise) (λ q v is. quiet q v (ap (is_at (cmp q)) here ∙ later_off order row rows rise q v is) (later_row order row rows rise q v is)) in
          rw (others, row_at_hit order row rows key at) (append-nil (f row) ∙ ap (λ k. f (k, row.1)) (sym here))
      go false off further =
          let none = quiet row.0 row.1 (at_turned order row.0 key ∙ off) (row_at_head order row rows) in
          rw (none, row_at_tail order row rows key off) further

module _ {K V : Type 0} {cmp : K → K → Ordering} (order : KeyOrder cmp) where
  -- a put, a drop and a write change the row of their key alone
  pub AgreeBut-insert_entry : (rows : List (K × V)) (key : K) (value : V) → AgreeBut cmp key rows (insert_entry cmp rows key value)
  AgreeBut-insert_entry rows key value q off = row_at-insert_entry order rows key value q ∙ rw off refl

  pub AgreeBut-remove_entry : (rows : List (K × V)) (key : K) → SortedByKey cmp rows → AgreeBut cmp key rows (remove_entry (is_at (cmp key)) rows)
  AgreeBut-remove_entry rows key rise q off = row_at-remove_entry order rows key q rise ∙ rw off refl

  pub AgreeBut-set_value : (rows : List (K × V)) (key : K) (value : V) → IsSome (row_at cmp rows key) → AgreeBut cmp key rows (set_value (is_at (cmp key)) rows value)
  AgreeBut-set_value rows key value some q off = row_at-set_value order rows key value q some ∙ rw off refl

  -- lists that agree at every key but one, and there too, are equal
  pub AgreeBut-same : (before after : List (K × V)) (key : K) → SortedByKey cmp before → SortedByKey cmp after → AgreeBut cmp key before after → row_at cmp after key ≡ row_at cmp before key → after ≡ before
  AgreeBut-same before after key before_rise after_rise agree same = same_rows order after before after_rise before_rise (λ q. go q (is_at (cmp q) key) refl)
    where
      go : (q : K) (b : Bool) → is_at (cmp q) key ≡ b → row_at cmp after q ≡ row_at cmp before q
      go q true at = let here = at_same order q key at in ap (row_at cmp after) here ∙ same ∙ ap (row_at cmp before) (sym here)
      go q false off = agree q off

module _ {K V W : Type 0} {cmp : K → K → Ordering} (order : KeyOrder cmp) (f g : K × V → Option W) where
  -- rows made of lists that agree at every key but one, by functions that do so too
  pub AgreeBut-sift : (before after : List (K × V)) (key : K) → SortedByKey cmp before → SortedByKey cmp after → AgreeBut cmp key before after
      → ((q : K) (v : V) → is_at (cmp q) key ≡ false → g (q, v) ≡ f (q, v)) → AgreeBut cmp key (sift f before) (sift g after)
  AgreeBut-sift before after key before_rise after_rise agree same q off =
      row_at-sift order g after q after_rise ∙ ap (option_and_then (λ v. g (q, v))) (agree q off) ∙ go (row_at cmp before q) ∙ sym (row_at-sift order f before q before_rise)
    where
      go : (o : Option V) → option_and_then (λ v. g (q, v)) o ≡ option_and_then (λ v. f (q, v)) o
      go None = refl
      go (Some v) = same q v off
