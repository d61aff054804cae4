-- A walk over rows from the greatest key down.
use Rattle.std.proofs.Common.{◌≡◌, ℕ, ◌+◌, ◌<◌, ◌≤◌, true, false, List, [], ◌∷◌, ◌++◌, length, get_or, take, drop, ◌-◌, suc, Option, None, Some, Less, Equal, Greater, Ordering, sym, ap, refl, subst, ◌∙◌, append_assoc, append-nil, arith, length-append, true≢false}
use Rattle.std.specs.Option.{IsNone, MatchOption, option_map_or, option_to_list}
use Rattle.std.specs.Cmp.{IsTotalOrder}
use Rattle.std.specs.Ordering.{is_lt, is_eq}
use Rattle.std.specs.BTreeMap.{insert_entry}
use Rattle.std.specs.List.Sorted.{IsSortedByKey}
use Rattle.std.proofs.lemmas.Cmp.{tied_back, alike_right}
use Rattle.std.proofs.lemmas.List.{get_or_append_left, drop-append-le, take-append-le}
use Rattle.std.proofs.Math.Seq.{get_or-append_seam, take-append_seam, drop-append_seam}
use Rattle.std.proofs.lemmas.List.Sorted.{sorted_far}
use Rattle.std.proofs.lemmas.List.MinMax.{ranks_by}
use Rattle.ev_rows.specs.KeyOrder.{KeyOrder}
use Rattle.ev_rows.specs.Rows.{SortedByKey, row_at}
use Rattle.ev_rows.proofs.RiseLemmas.{IsBelow, AreBelow, IsBelow-further, IsBelow-equal, rise_front, rise_head, rise_tail, above-below, below-above}
use Rattle.ev_rows.proofs.PlaceLemmas.{lookup-below, remove_entry-below}
use Rattle.ev_types.specs.Writes.{Rules, after_write, after_writes}
use Rattle.ev_types.proofs.WriteLemmas.{rise-after_writes}
use Rattle.ev_apply.specs.declared.row_write.Change.{Change}
use Rattle.ev_apply.specs.declared.row_write.Change.TheVariants as change
use Rattle.ev_apply.specs.declared.row_write.KeyWrite.{KeyWrite}
use Rattle.ev_apply.specs.Kinds.{in_order, write_at, write_of}
use Rattle.ev_apply.specs.Room.{put_count}
use Rattle.ev_apply.specs.Walking.{order_to_last, IsPassed}
use Rattle.ev_apply.proofs.Rooms.{put_count-append}
use Rattle.ev_apply.proofs.LastsLemmas.{in_order-push}

module _ {K V : Type 0} (cmp : K → K → Ordering) (key : K) where
  -- the order to the last row, where that row is seen
  pub order_at_last : (rows : List (K × V)) (row : K × V) → order_to_last cmp key (rows ++ row ∷ []) ≡ cmp key row.0
  order_at_last [] row = refl
  order_at_last (first ∷ []) row = refl
  order_at_last (first ∷ next ∷ rows) row = order_at_last (next ∷ rows) row

  -- a key is not at or below the last of no rows
  pub some_left : (rows : List (K × V)) → is_lt (order_to_last cmp key rows) ≡ true → 0 < length rows
  some_left [] less = absurd (true≢false (sym less))
  some_left (row ∷ rows) less = omega arith

  pub some_left_at : (rows : List (K × V)) → is_eq (order_to_last cmp key rows) ≡ true → 0 < length rows
  some_left_at [] equal = absurd (true≢false (sym equal))
  some_left_at (row ∷ rows) equal = omega arith

-- rows whose last goes to the front of others are the same rows on the whole
pub passed_whole : {X : Type 0} (left passed new_left new_passed : List X) → IsPassed left passed new_left new_passed → new_left ++ new_passed ≡ left ++ passed
passed_whole left passed new_left new_passed step =
    ap (λ l. new_left ++ l) step.passes ∙ sym (append_assoc new_left (step.row ∷ []) passed) ∙ ap (λ l. l ++ passed) (sym step.leaves)

less_of : (o : Ordering) → is_lt o ≡ true → o ≡ Less
less_of Less is = refl
less_of Equal is = absurd (true≢false (sym is))
less_of Greater is = absurd (true≢false (sym is))

pub equal_of : (o : Ordering) → is_eq o ≡ true → o ≡ Equal
equal_of Less is = absurd (true≢false (sym is))
equal_of Equal is = refl
equal_of Greater is = absurd (true≢false (sym is))

greater_of : (o : Ordering) → is_lt o ≡ false → is_eq o ≡ false → o ≡ Greater
greater_of Less less equal = absurd (true≢false less)
greater_of Equal less equal = absurd (true≢false equal)
greater_of Greater less equal = refl

module _ {K V : Type 0} {cmp : K → K → Ordering} (total : IsTotalOrder cmp) where
  -- a key that isn't above one that is below all the rows
  pub IsBelow-up_to : (key low : K) (rows : List (K × V)) → is_lt (cmp key low) ≡ false → IsBelow cmp key rows → IsBelow cmp low rows
  IsBelow-up_to key low rows up below = go (cmp key low) refl up
    where
      go : (o : Ordering) → cmp key low ≡ o → is_lt o ≡ false → IsBelow cmp low rows
      go Less is up = absurd (true≢false up)
      go Equal is up = IsBelow-equal total low key rows (tied_back total key low is) below
      go Greater is up = IsBelow-further total low key rows (below-above total key low is) below

  -- a row above the key is passed
  pub passed_below : (key low : K) (left passed new_left new_passed : List (K × V)) → IsPassed left passed new_left new_passed
      → is_lt (order_to_last cmp key left) ≡ true → is_lt (cmp key low) ≡ false → IsBelow cmp low passed → IsBelow cmp low new_passed
  passed_below key low left passed new_left new_passed step above up below =
      let at = less_of (cmp key step.row.0) (ap is_lt (sym (ap (order_to_last cmp key) step.leaves ∙ order_at_last cmp key new_left step.row)) ∙ above) in
      let own = IsBelow-up_to key low (step.row ∷ []) up (at, tt) in
      subst (IsBelow cmp low) (sym step.passes) (own.0, below)

  -- where the key is above the last row it is above all of them
  above_all : (key : K) (rows : List (K × V)) → SortedByKey cmp rows → order_to_last cmp key rows ≡ Greater → AreBelow cmp rows key
  above_all key [] rise above = tt
  above_all key (row ∷ []) rise above = (below-above total key row.0 above, tt)
  above_all key (row ∷ next ∷ rows) rise above =
      let further = above_all key (next ∷ rows) (rise_tail cmp row (next ∷ rows) rise) above in
      (total.trans row.0 next.0 key (rise_head cmp row (next ∷ rows) rise).0 further.0, further)

  AreBelow-equal : (key : K) (rows : List (K × V)) (row : K × V) → AreBelow cmp rows row.0 → cmp key row.0 ≡ Equal → AreBelow cmp rows key
  AreBelow-equal key [] row below equal = tt
  AreBelow-equal key (first ∷ rows) row below equal =
      (alike_right total key row.0 first.0 equal ∙ below.0, AreBelow-equal key rows row below.1 equal)

  -- the first part of rows that rise
  pub rise_left : (rows more : List (K × V)) → SortedByKey cmp (rows ++ more) → SortedByKey cmp rows
  rise_left rows [] rise = subst (SortedByKey cmp) (append-nil rows) rise
  rise_left rows (row ∷ more) rise =
      (rise_front cmp rows row (rise_left (rows ++ row ∷ []) more (subst (SortedByKey cmp) (sym (append_assoc rows (row ∷ []) more)) rise))).0

module _ {K V F P : Type 0} (rules : Rules K V F P) (total : IsTotalOrder rules.cmp) (key : K) where
  abbrev cmp : K → K → Ordering
  cmp = rules.cmp

  abbrev done : Change V F → List (K × V) → List (K × V)
  done c rows = after_write rules rows (write_at key c)

  -- a write passes the rows below its key
  pass_front : (c : Change V F) (front rows : List (K × V)) → AreBelow cmp front key → done c (front ++ rows) ≡ front ++ done c rows
  pass_front c [] rows below = refl
  pass_front c (row ∷ front) rows below = go c (above-below total row.0 key below.0) (pass_front c front rows below.1)
    where
      go : (c : Change V F) → cmp key row.0 ≡ Greater → done c (front ++ rows) ≡ front ++ done c rows → done c (row ∷ (front ++ rows)) ≡ row ∷ (front ++ done c rows)
      go (change.Put value) above further = rw above (ap (λ rest. row ∷ rest) further)
      go change.DropRow above further = rw above (ap (λ rest. row ∷ rest) further)
      go (change.Patch field) above further = rw above (patched (row_at cmp (front ++ rows) key) further)
        where
          patched : (cell : Option V)
              → option_map_or (λ old. insert_entry cmp (front ++ rows) key (rules.set field old)) cell (front ++ rows) ≡ front ++ done (change.Patch field) rows
              → option_map_or (λ old. row ∷ insert_entry cmp (front ++ rows) key (rules.set field old)) cell (row ∷ (front ++ rows)) ≡ row ∷ (front ++ done (change.Patch field) rows)
          patched None further = ap (λ rest. row ∷ rest) further
          patched (Some old) further = ap (λ rest. row ∷ rest) further

  -- rows up to the key, and those above it
  module _ (left passed : List (K × V)) (rise : SortedByKey cmp left) (up : is_lt (order_to_last cmp key left) ≡ false) (below : IsBelow cmp key passed) where
    -- no row of the key
    module _ (off : is_eq (order_to_last cmp key left) ≡ false) where
      front : AreBelow cmp left key
      front = above_all total key left rise (greater_of (order_to_last cmp key left) up off)

      pub edit_put : (value : V) → (left ++ (key, value) ∷ []) ++ passed ≡ done (change.Put value) (left ++ passed)
      edit_put value =
          append_assoc left ((key, value) ∷ []) passed
          ∙ sym (pass_front (change.Put value) left passed front ∙ ap (λ l. left ++ l) (at_front passed below))
        where
          at_front : (rows : List (K × V)) → IsBelow cmp key rows → insert_entry cmp rows key value ≡ (key, value) ∷ rows
          at_front [] below = refl
          at_front (row ∷ rows) below = rw below.0 refl

      pub edit_patch : (field : F) → left ++ passed ≡ done (change.Patch field) (left ++ passed)
      edit_patch field = sym (pass_front (change.Patch field) left passed front
          ∙ ap (λ cell. left ++ option_map_or (λ old. insert_entry cmp passed key (rules.set field old)) cell passed) (lookup-below total key passed below))

      pub edit_drop : left ++ passed ≡ done change.DropRow (left ++ passed)
      edit_drop = sym (pass_front change.DropRow left passed front ∙ ap (λ l. left ++ l) (remove_entry-below total key passed below))

    -- the row of the key is the last
    module _ (rest : List (K × V)) (row : K × V) (is : left ≡ rest ++ row ∷ []) (at : cmp key row.0 ≡ Equal) where
      front_at : AreBelow cmp rest key
      front_at = AreBelow-equal total key rest row (rise_front cmp rest row (subst (SortedByKey cmp) is rise)).1 at

      whole : left ++ passed ≡ rest ++ row ∷ passed
      whole = ap (λ l. l ++ passed) is ∙ append_assoc rest (row ∷ []) passed

      passes : (c : Change V F) → done c (left ++ passed) ≡ rest ++ done c (row ∷ passed)
      passes c = ap (done c) whole ∙ pass_front c rest (row ∷ passed) front_at

      pub edit_put_at : (value : V) → (rest ++ (row.0, value) ∷ []) ++ passed ≡ done (change.Put value) (left ++ passed)
      edit_put_at value = append_assoc rest ((row.0, value) ∷ []) passed ∙ sym (passes (change.Put value) ∙ rw at refl)

      pub edit_patch_at : (field : F) (value : V) → value ≡ rules.set field row.1 → (rest ++ (row.0, value) ∷ []) ++ passed ≡ done (change.Patch field) (left ++ passed)
      edit_patch_at field value set =
          append_assoc rest ((row.0, value) ∷ []) passed ∙ ap (λ v. rest ++ (row.0, v) ∷ passed) set ∙ sym (passes (change.Patch field) ∙ rw at refl)

      pub edit_drop_at : rest ++ passed ≡ done change.DropRow (left ++ passed)
      edit_drop_at = sym (passes change.DropRow ∙ rw at refl)

-- a walk on its way: the writes that remain do the rest
pub record IsWalking {K V F P : Type 0} (rules : Rules K V F P) (old : List (K × V)) (all : List (KeyWrite K V F)) (left passed : List (K × V)) (remaining : List (KeyWrite K V F)) : Type 0 where
  pub whole : after_writes rules (left ++ passed) (in_order remaining) ≡ after_writes rules old (in_order all)
  pub rise : SortedByKey rules.cmp (left ++ passed)
  pub sorted : IsSortedByKey (λ write. write.key) rules.cmp remaining
  pub below : (k : ℕ) (d : KeyWrite K V F) → k < length remaining → IsBelow rules.cmp (get_or remaining k d).key passed

module _ {K V F P : Type 0} (rules : Rules K V F P) (order : KeyOrder rules.cmp) (old : List (K × V)) (all : List (KeyWrite K V F)) where
  pub walk_starts : SortedByKey rules.cmp old → IsSortedByKey (λ write. write.key) rules.cmp all → IsWalking rules old all old [] all
  walk_starts rise sorted = record {
    whole = ap (λ l. after_writes rules l (in_order all)) (append-nil old);
    rise = subst (SortedByKey rules.cmp) (sym (append-nil old)) rise;
    sorted = sorted;
    below = λ k d within. tt;
  }

  module _ {left passed : List (K × V)} {remaining : List (KeyWrite K V F)} (walking : IsWalking rules old all left passed remaining)
      (rest : List (KeyWrite K V F)) (write : KeyWrite K V F) (is : remaining ≡ rest ++ write ∷ []) where
    -- the next write is below all rows that are passed
    pub next_below : IsBelow rules.cmp write.key passed
    next_below =
        let last = ap (λ l. get_or l (length rest) write) is ∙ get_or-append_seam rest write [] write in
        subst (λ (w : KeyWrite K V F). IsBelow rules.cmp w.key passed) last (walking.below (length rest) write (omega (arith, ap length is, length-append rest (write ∷ []))))

    -- no other write that remains is above it
    up_to : (k : ℕ) (d : KeyWrite K V F) → k < length rest → is_lt (rules.cmp write.key (get_or rest k d).key) ≡ false
    up_to k d within =
        let sorted = subst (IsSortedByKey (λ write. write.key) rules.cmp) is walking.sorted in
        let far = sorted_far (λ x y. is_lt (rules.cmp x.key y.key)) (ranks_by order.total (λ (w : KeyWrite K V F). w.key)) (rest ++ write ∷ []) sorted k (length rest) d
        (omega arith) (omega (arith, length-append rest (write ∷ []))) in
        subst (λ (w : KeyWrite K V F). is_lt (rules.cmp write.key w.key) ≡ false) (get_or_append_left rest (write ∷ []) d k within)
        (subst (λ (w : KeyWrite K V F). is_lt (rules.cmp w.key (get_or (rest ++ write ∷ []) k d).key) ≡ false) (get_or-append_seam rest write [] d) far)

    pub walk_steps : (mid_left mid_passed new_left new_passed : List (K × V)) → mid_left ++ mid_passed ≡ left ++ passed
        → ((low : K) → is_lt (rules.cmp write.key low) ≡ false → IsBelow rules.cmp low passed → IsBelow rules.cmp low mid_passed)
        → new_left ++ new_passed ≡ after_write rules (mid_left ++ mid_passed) (write_of write) → new_passed ≡ mid_passed
        → IsWalking rules old all new_left new_passed rest
    walk_steps mid_left mid_passed new_left new_passed same lower wrote kept =
        let now : new_left ++ new_passed ≡ after_write rules (left ++ passed) (write_of write) = wrote ∙ ap (λ l. after_write rules l (write_of write)) same in
        record {
          whole = ap (λ l. after_writes rules l (in_order rest)) now
              ∙ sym (ap (after_writes rules (left ++ passed)) (ap in_order is ∙ in_order-push rest write)) ∙ walking.whole;
          rise = subst (SortedByKey rules.cmp) (sym now) (rise-after_writes rules order (left ++ passed) (write_of write ∷ []) walking.rise);
          sorted = λ k d low high.
              let within : k + 1 < length (rest ++ write ∷ []) = omega (arith, length-append rest (write ∷ [])) in
              let sorted = subst (IsSortedByKey (λ write. write.key) rules.cmp) is walking.sorted k d low within in
              subst (λ (w : KeyWrite K V F). is_lt (rules.cmp (get_or rest (k + 1) d).key w.key) ≡ false) (get_or_append_left rest (write ∷ []) d k (omega arith))
              (subst (λ (w : KeyWrite K V F). is_lt (rules.cmp w.key (get_or (rest ++ write ∷ []) k d).key) ≡ false) (get_or_append_left rest (write ∷ []) d (k + 1) high) sorted);
          below = λ k d within.
              let remains = walking.below k d (omega (arith, ap length is, length-append rest (write ∷ []))) in
              let own = subst (λ (w : KeyWrite K V F). IsBelow rules.cmp w.key passed) (ap (λ l. get_or l k d) is ∙ get_or_append_left rest (write ∷ []) d k within) remains in
              subst (IsBelow rules.cmp (get_or rest k d).key) (sym kept) (lower (get_or rest k d).key (up_to k d within) own);
        }

    -- there is room for the next write, and for those after it
    pub next_room : (room : ℕ) → put_count (in_order {P = P} remaining) ≤ room → put_count {P = P} (write_of write ∷ []) ≤ room
    next_room room fits = omega (arith, fits, ap put_count (ap (in_order {P = P}) is ∙ in_order-push rest write), put_count-append (write_of {P = P} write ∷ []) (in_order rest))

    pub later_room : (room later : ℕ) → put_count (in_order {P = P} remaining) ≤ room → room ≤ later + put_count {P = P} (write_of write ∷ []) → put_count (in_order {P = P} rest) ≤ later
    later_room room later fits used = omega (arith, fits, used, ap put_count (ap (in_order {P = P}) is ∙ in_order-push rest write), put_count-append (write_of {P = P} write ∷ []) (in_order rest))

-- What an edit leaves, whether the row of the key was found or not.
module _ {K V F P : Type 0} (rules : Rules K V F P) (total : IsTotalOrder rules.cmp) (key : K) (left passed : List (K × V))
    (rise : SortedByKey rules.cmp left) (up : is_lt (order_to_last rules.cmp key left) ≡ false) (below : IsBelow rules.cmp key passed) where
  abbrev after : Change V F → List (K × V)
  after c = after_write rules (left ++ passed) (write_at key c)

  -- the rows after the change that was made
  pub edited : (made c : Change V F) → made ≡ c → (new_left new_passed expected : List (K × V)) → new_left ≡ expected → new_passed ≡ passed
      → expected ++ passed ≡ after c → new_left ++ new_passed ≡ after made
  edited made c is new_left new_passed expected left_is passed_is done =
      ap (λ l. l ++ new_passed) left_is ∙ ap (λ l. expected ++ l) passed_is ∙ done ∙ ap after (sym is)

  module _ (found : Option (K × V)) (rest : List (K × V)) (leaves : left ≡ rest ++ option_to_list found)
      (at : MatchOption found (is_eq (order_to_last rules.cmp key left) ≡ false) (λ row. rules.cmp key row.0 ≡ Equal)) where
    leaves_row : (row : K × V) → found ≡ Some row → left ≡ rest ++ row ∷ []
    leaves_row row is = leaves ∙ ap (λ f. rest ++ option_to_list f) is

    at_row : (row : K × V) → found ≡ Some row → rules.cmp key row.0 ≡ Equal
    at_row row is = subst (λ f. MatchOption f (is_eq (order_to_last rules.cmp key left) ≡ false) (λ row. rules.cmp key row.0 ≡ Equal)) is at

    leaves_all : found ≡ None → rest ≡ left
    leaves_all is = sym (leaves ∙ ap (λ f. rest ++ option_to_list f) is ∙ append-nil rest)

    off_row : found ≡ None → is_eq (order_to_last rules.cmp key left) ≡ false
    off_row is = subst (λ f. MatchOption f (is_eq (order_to_last rules.cmp key left) ≡ false) (λ row. rules.cmp key row.0 ≡ Equal)) is at

    pub put_found : (row : K × V) → found ≡ Some row → (value : V) → (rest ++ (row.0, value) ∷ []) ++ passed ≡ after (change.Put value)
    put_found row is value = edit_put_at rules total key left passed rise up below rest row (leaves_row row is) (at_row row is) value

    pub put_none : found ≡ None → (value : V) → (rest ++ (key, value) ∷ []) ++ passed ≡ after (change.Put value)
    put_none is value = ap (λ l. (l ++ (key, value) ∷ []) ++ passed) (leaves_all is) ∙ edit_put rules total key left passed rise up below (off_row is) value

    pub patch_found : (row : K × V) → found ≡ Some row → (field : F) (value : V) → value ≡ rules.set field row.1
        → (rest ++ (row.0, value) ∷ []) ++ passed ≡ after (change.Patch field)
    patch_found row is field value set = edit_patch_at rules total key left passed rise up below rest row (leaves_row row is) (at_row row is) field value set

    pub patch_none : found ≡ None → (field : F) → rest ++ passed ≡ after (change.Patch field)
    patch_none is field = ap (λ l. l ++ passed) (leaves_all is) ∙ edit_patch rules total key left passed rise up below (off_row is) field

    pub drop_found : rest ++ passed ≡ after change.DropRow
    drop_found = go found refl
      where
        go : (f : Option (K × V)) → found ≡ f → rest ++ passed ≡ after change.DropRow
        go None is = ap (λ l. l ++ passed) (leaves_all is) ∙ edit_drop rules total key left passed rise up below (off_row is)
        go (Some row) is = edit_drop_at rules total key left passed rise up below rest row (leaves_row row is) (at_row row is)

-- The ring of a walk.
module _ {X : Type 0} where
  -- a list that isn't empty, and its last element
  pub record Split (xs : List X) : Type 0 where
    pub front : List X
    pub last : X
    pub is : xs ≡ front ++ last ∷ []

  split_last : (xs : List X) → 0 < length xs → Split xs
  split_last [] some = absurd (omega arith)
  split_last (x ∷ []) some = record { front = []; last = x; is = refl }
  split_last (x ∷ y ∷ xs) some =
      let further = split_last (y ∷ xs) (omega arith) in
      record { front = x ∷ further.front; last = further.last; is = ap (λ l. x ∷ l) further.is }

  turned : (front : List X) (last : X) → drop (length front) (front ++ last ∷ []) ++ take (length front) (front ++ last ∷ []) ≡ last ∷ front
  turned front last = ap (λ l. l ++ take (length front) (front ++ last ∷ [])) (drop-append_seam front (last ∷ [])) ∙ ap (λ l. last ∷ l) (take-append_seam front (last ∷ []))

  -- the last row goes from the back of the ring to its front
  pub ring_passes : (ring : List X) (len left : ℕ) → len ≡ length ring → left ≤ len → 0 < left
      → IsPassed (drop (len - left) ring) (take (len - left) ring)
      (drop (len - (left - 1)) (drop (len - 1) ring ++ take (len - 1) ring)) (take (len - (left - 1)) (drop (len - 1) ring ++ take (len - 1) ring))
  ring_passes ring len left len_is within some =
      let s = split_last ring (omega arith) in
      let long = ap length s.is ∙ length-append s.front (s.last ∷ []) in
      let m : ℕ = len - left in
      let m_within : m ≤ length s.front = omega (arith, long) in
      let seam : len - 1 ≡ length s.front = omega (arith, long) in
      let next : len - (left - 1) ≡ suc m = omega arith in
      let ring_turned : drop (len - 1) ring ++ take (len - 1) ring ≡ s.last ∷ s.front =
      ap (λ k. drop k ring ++ take k ring) seam ∙ ap (λ l. drop (length s.front) l ++ take (length s.front) l) s.is ∙ turned s.front s.last in
      let new_left : drop (len - (left - 1)) (drop (len - 1) ring ++ take (len - 1) ring) ≡ drop m s.front =
      ap (λ k. drop k (drop (len - 1) ring ++ take (len - 1) ring)) next ∙ ap (drop (suc m)) ring_turned in
      let new_passed : take (len - (left - 1)) (drop (len - 1) ring ++ take (len - 1) ring) ≡ s.last ∷ take m s.front =
      ap (λ k. take k (drop (len - 1) ring ++ take (len - 1) ring)) next ∙ ap (take (suc m)) ring_turned in
      record {
        row = s.last;
        leaves = ap (drop m) s.is ∙ drop-append-le m s.front (s.last ∷ []) m_within ∙ ap (λ l. l ++ s.last ∷ []) (sym new_left);
        passes = new_passed ∙ ap (λ l. s.last ∷ l) (sym (ap (take m) s.is ∙ take-append-le m s.front (s.last ∷ []) m_within));
      }

module _ {K V : Type 0} (cmp : K → K → Ordering) (key : K) where
  -- the last row in the ring is the last that is left
  pub order_in_ring : (ring : List (K × V)) (len left : ℕ) (row : K × V) → len ≡ length ring → left ≤ len → 0 < left → row ≡ get_or ring (len - 1) row
      → cmp key row.0 ≡ order_to_last cmp key (drop (len - left) ring)
  order_in_ring ring len left row len_is within some read =
      let s = split_last ring (omega arith) in
      let long = ap length s.is ∙ length-append s.front (s.last ∷ []) in
      let seam : len - 1 ≡ length s.front = omega (arith, long) in
      let last : row ≡ s.last = read ∙ ap (λ k. get_or ring k row) seam ∙ ap (λ l. get_or l (length s.front) row) s.is ∙ get_or-append_seam s.front s.last [] row in
      sym (ap (λ l. order_to_last cmp key (drop (len - left) l)) s.is
      ∙ ap (order_to_last cmp key) (drop-append-le (len - left) s.front (s.last ∷ []) (omega (arith, long)))
      ∙ order_at_last cmp key (drop (len - left) s.front) s.last ∙ ap (λ (r : K × V). cmp key r.0) (sym last))

  -- what is popped at the key's row is that row
  pub popped_at : (left rest : List (K × V)) (found : Option (K × V)) → left ≡ rest ++ option_to_list found → (IsNone found → left ≡ []) → is_eq (order_to_last cmp key left) ≡ true
      → MatchOption found (is_eq (order_to_last cmp key left) ≡ false) (λ row. cmp key row.0 ≡ Equal)
  popped_at left rest None leaves ends equal = absurd (true≢false (sym (ap (λ l. is_eq (order_to_last cmp key l)) (sym (ends refl)) ∙ equal)))
  popped_at left rest (Some row) leaves ends equal =
      equal_of (cmp key row.0) (ap is_eq (sym (ap (order_to_last cmp key) leaves ∙ order_at_last cmp key rest row)) ∙ equal)
