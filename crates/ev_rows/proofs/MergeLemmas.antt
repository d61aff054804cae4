-- New rows put among rows that rise, from the greatest key down.
use Rattle.std.proofs.Math.Seq.{take-append_seam, drop-append_seam}
use Rattle.std.proofs.Common.{◌≡◌, ℕ, length-append, subst, inl, inr, ◌≤◌, ◌<◌, ◌-◌, List, [], ◌∷◌, ◌++◌, length, get_or, take, drop, Less, Equal, Greater, Ordering, sym, ap, refl, ◌∙◌, append_assoc, arith}
use Rattle.std.specs.Cmp.{IsTotalOrder}
use Rattle.std.specs.Ordering.{match_ordering}
use Rattle.std.specs.BTreeMap.{insert_entry}
use Rattle.std.proofs.lemmas.Bool.{cases_lt}
use Rattle.std.proofs.lemmas.Cmp.{tied_back, alike_right}
use Rattle.ev_rows.specs.Rows.{SortedByKey, with_rows}
use Rattle.ev_rows.proofs.RiseLemmas.{AreBelow, rise_front, above-below, below-above, rise-insert_entry}

module _ {K V : Type 0} {cmp : K → K → Ordering} (total : IsTotalOrder cmp) where
  AreBelow-further : (rows : List (K × V)) (x y : K) → AreBelow cmp rows x → cmp x y ≡ Less → AreBelow cmp rows y
  AreBelow-further [] x y below less = tt
  AreBelow-further (row ∷ rows) x y below less = (total.trans row.0 x y below.0 less, AreBelow-further rows x y below.1 less)

  AreBelow-equal : (rows : List (K × V)) (x y : K) → AreBelow cmp rows x → cmp x y ≡ Equal → AreBelow cmp rows y
  AreBelow-equal [] x y below equal = tt
  AreBelow-equal (row ∷ rows) x y below equal = (sym (alike_right total x y row.0 equal) ∙ below.0, AreBelow-equal rows x y below.1 equal)

  AreBelow-push : (rows : List (K × V)) (last : K × V) (y : K) → AreBelow cmp rows y → cmp last.0 y ≡ Less → AreBelow cmp (rows ++ last ∷ []) y
  AreBelow-push [] last y below less = (less, tt)
  AreBelow-push (row ∷ rows) last y below less = (below.0, AreBelow-push rows last y below.1 less)

  AreBelow-insert_entry : (rows : List (K × V)) (key : K) (value : V) (y : K) → AreBelow cmp rows y → cmp key y ≡ Less → AreBelow cmp (insert_entry cmp rows key value) y
  AreBelow-insert_entry [] key value y below less = (less, tt)
  AreBelow-insert_entry (row ∷ rows) key value y below less = go (cmp key row.0) (AreBelow-insert_entry rows key value y below.1 less)
    where
      go : (o : Ordering) → AreBelow cmp (insert_entry cmp rows key value) y → AreBelow cmp (match_ordering o ((key, value) ∷ row ∷ rows) ((row.0, value) ∷ rows) (row ∷ insert_entry cmp rows key value)) y
      go Less further = (less, below)
      go Equal further = below
      go Greater further = (below.0, further)

  AreBelow-with_rows : (rows new : List (K × V)) (y : K) → AreBelow cmp rows y → AreBelow cmp new y → AreBelow cmp (with_rows cmp rows new) y
  AreBelow-with_rows rows [] y below new_below = below
  AreBelow-with_rows rows (row ∷ new) y below new_below = AreBelow-with_rows (insert_entry cmp rows row.0 row.1) new y (AreBelow-insert_entry rows row.0 row.1 y below new_below.0) new_below.1

  -- a row put above all others, at the last one, and below the last one
  insert_entry-above : (rows : List (K × V)) (key : K) (value : V) → AreBelow cmp rows key → insert_entry cmp rows key value ≡ rows ++ (key, value) ∷ []
  insert_entry-above [] key value below = refl
  insert_entry-above (row ∷ rows) key value below =
      let above = above-below total row.0 key below.0 in
      rw above (ap (λ rest. row ∷ rest) (insert_entry-above rows key value below.1))

  insert_entry-last : (rows : List (K × V)) (last : K × V) (key : K) (value : V) → AreBelow cmp rows key → cmp key last.0 ≡ Equal → insert_entry cmp (rows ++ last ∷ []) key value ≡ rows ++ (last.0, value) ∷ []
  insert_entry-last [] last key value below equal = rw equal
  insert_entry-last (row ∷ rows) last key value below equal =
      let above = above-below total row.0 key below.0 in
      rw above (ap (λ rest. row ∷ rest) (insert_entry-last rows last key value below.1 equal))

  insert_entry-below : (rows : List (K × V)) (last : K × V) (key : K) (value : V) → cmp key last.0 ≡ Less → insert_entry cmp (rows ++ last ∷ []) key value ≡ insert_entry cmp rows key value ++ last ∷ []
  insert_entry-below [] last key value less = rw less
  insert_entry-below (row ∷ rows) last key value less = go (cmp key row.0) (insert_entry-below rows last key value less)
    where
      go : (o : Ordering) → insert_entry cmp (rows ++ last ∷ []) key value ≡ insert_entry cmp rows key value ++ last ∷ []
          → match_ordering o ((key, value) ∷ row ∷ (rows ++ last ∷ [])) ((row.0, value) ∷ (rows ++ last ∷ [])) (row ∷ insert_entry cmp (rows ++ last ∷ []) key value)
          ≡ match_ordering o ((key, value) ∷ row ∷ rows) ((row.0, value) ∷ rows) (row ∷ insert_entry cmp rows key value) ++ last ∷ []
      go Less further = refl
      go Equal further = refl
      go Greater further = ap (λ rest. row ∷ rest) further

  -- the new rows leave a last row that is above them
  with_rows-below : (rows : List (K × V)) (last : K × V) (new : List (K × V)) → AreBelow cmp new last.0 → with_rows cmp (rows ++ last ∷ []) new ≡ with_rows cmp rows new ++ last ∷ []
  with_rows-below rows last [] below = refl
  with_rows-below rows last (row ∷ new) below =
      ap (λ l. with_rows cmp l new) (insert_entry-below rows last row.0 row.1 below.0) ∙ with_rows-below (insert_entry cmp rows row.0 row.1) last new below.1

  with_rows-push : (rows new : List (K × V)) (row : K × V) → with_rows cmp rows (new ++ row ∷ []) ≡ insert_entry cmp (with_rows cmp rows new) row.0 row.1
  with_rows-push rows [] row = refl
  with_rows-push rows (first ∷ new) row = with_rows-push (insert_entry cmp rows first.0 first.1) new row

  -- one row further: the greatest key is an old row's, both lists', or a new row's
  pub passes_old : (rows : List (K × V)) (old : K × V) (new : List (K × V)) (row : K × V) → AreBelow cmp new row.0 → cmp row.0 old.0 ≡ Less
      → with_rows cmp (rows ++ old ∷ []) (new ++ row ∷ []) ≡ with_rows cmp rows (new ++ row ∷ []) ++ old ∷ []
  passes_old rows old new row new_below less = with_rows-below rows old (new ++ row ∷ []) (AreBelow-push new row old.0 (AreBelow-further new row.0 old.0 new_below less) less)

  pub passes_both : (rows : List (K × V)) (old : K × V) (new : List (K × V)) (row : K × V) → AreBelow cmp rows old.0 → AreBelow cmp new row.0 → cmp row.0 old.0 ≡ Equal
      → with_rows cmp (rows ++ old ∷ []) (new ++ row ∷ []) ≡ with_rows cmp rows new ++ (old.0, row.1) ∷ []
  passes_both rows old new row below new_below equal =
      with_rows-push (rows ++ old ∷ []) new row
      ∙ ap (λ l. insert_entry cmp l row.0 row.1) (with_rows-below rows old new (AreBelow-equal new row.0 old.0 new_below equal))
      ∙ insert_entry-last (with_rows cmp rows new) old row.0 row.1 (AreBelow-with_rows rows new row.0 (AreBelow-equal rows old.0 row.0 below (tied_back total row.0 old.0 equal)) new_below) equal

  pub passes_new : (rows new : List (K × V)) (row : K × V) → AreBelow cmp rows row.0 → AreBelow cmp new row.0
      → with_rows cmp rows (new ++ row ∷ []) ≡ with_rows cmp rows new ++ row ∷ []
  passes_new rows new row below new_below = with_rows-push rows new row ∙ insert_entry-above (with_rows cmp rows new) row.0 row.1 (AreBelow-with_rows rows new row.0 below new_below)

  -- rows that rise, with new ones among them
  pub rise-with_rows : (rows new : List (K × V)) → SortedByKey cmp rows → SortedByKey cmp (with_rows cmp rows new)
  rise-with_rows rows [] rise = rise
  rise-with_rows rows (row ∷ new) rise = rise-with_rows (insert_entry cmp rows row.0 row.1) new (rise-insert_entry total row.0 row.1 rows rise)

-- The ring holds what is merged and then the old rows that are left, and the new rows left go among those.
pub record IsMerging {K V : Type 0} (cmp : K → K → Ordering) (old new ring : List (K × V)) (left : ℕ) (remaining : List (K × V)) : Type 0 where
  pub done : List (K × V)
  pub waiting : List (K × V)
  pub parts : ring ≡ done ++ waiting
  pub long : length waiting ≡ left
  pub merges : with_rows cmp waiting remaining ++ done ≡ with_rows cmp old new
  pub waiting_rise : SortedByKey cmp waiting
  pub remaining_rise : SortedByKey cmp remaining

module _ {X : Type 0} where
  -- the last element of a list that isn't empty, and those before it
  last_parts : (xs : List X) → 0 < length xs → record { front : List X; last : X; is : xs ≡ front ++ last ∷ [] }
  last_parts [] some = absurd (omega arith)
  last_parts (x ∷ []) some = record { front = []; last = x; is = refl }
  last_parts (x ∷ y ∷ xs) some = let further = last_parts (y ∷ xs) (omega arith) in record { front = x ∷ further.front; last = further.last; is = ap (λ l. x ∷ l) further.is }

  empty_of : (xs : List X) → length xs ≤ 0 → xs ≡ []
  empty_of [] none = refl
  empty_of (x ∷ xs) none = absurd (omega arith)

  last_place : (xs : List X) (x : X) → length (xs ++ x ∷ []) - 1 ≡ length xs
  last_place xs x = omega (arith, length-append xs (x ∷ []))

  get_or_last : (xs : List X) (x d : X) → get_or (xs ++ x ∷ []) (length (xs ++ x ∷ []) - 1) d ≡ x
  get_or_last xs x d = rw (last_place xs x) (go xs)
    where
      go : (xs : List X) → get_or (xs ++ x ∷ []) (length xs) d ≡ x
      go [] = refl
      go (y ∷ xs) = go xs

  take_last : (xs : List X) (x : X) → take (length (xs ++ x ∷ []) - 1) (xs ++ x ∷ []) ≡ xs
  take_last xs x = rw (last_place xs x) (take-append_seam xs (x ∷ []))

  drop_last : (xs : List X) (x : X) → drop (length (xs ++ x ∷ []) - 1) (xs ++ x ∷ []) ≡ x ∷ []
  drop_last xs x = rw (last_place xs x) (drop-append_seam xs (x ∷ []))

  pub read_last : (xs front : List X) (x read : X) → xs ≡ front ++ x ∷ [] → ((d : X) → read ≡ get_or xs (length xs - 1) d) → read ≡ x
  read_last xs front x read is reads = reads x ∙ ap (λ l. get_or l (length l - 1) x) is ∙ get_or_last front x x

  -- a list ends with the element that is read at its last place
  pub last_read : (xs : List X) (x : X) → (0 < length xs) × ((d : X) → x ≡ get_or xs (length xs - 1) d) → record { front : List X; is : xs ≡ front ++ x ∷ [] }
  last_read xs x (some, read) =
      let parts = last_parts xs some in
      let same = read_last xs parts.front parts.last x parts.is read in
      record { front = parts.front; is = parts.is ∙ ap (λ y. parts.front ++ y ∷ []) (sym same) }

-- a ring and the old rows in it, taken apart at the last one
record LastOf {K V : Type 0} (cmp : K → K → Ordering) (done waiting ring : List (K × V)) (left len : ℕ) : Type 0 where
  rest : List (K × V)
  last : K × V
  is : waiting ≡ rest ++ last ∷ []
  shorter : length rest ≡ left - 1
  read : (d : K × V) → get_or ring (len - 1) d ≡ last
  front_is : take (len - 1) ring ≡ done ++ rest
  end_is : drop (len - 1) ring ≡ last ∷ []
  rest_rise : SortedByKey cmp rest
  below : AreBelow cmp rest last.0

module _ {K V : Type 0} {cmp : K → K → Ordering} {old new ring remaining : List (K × V)} {left : ℕ} (merging : IsMerging cmp old new ring left remaining) where
  last_of : 0 < left → LastOf cmp merging.done merging.waiting ring left (length ring)
  last_of some =
      let parts = last_parts merging.waiting (omega (arith, merging.long)) in
      let ring_is : ring ≡ (merging.done ++ parts.front) ++ parts.last ∷ [] = merging.parts ∙ ap (λ l. merging.done ++ l) parts.is ∙ sym (append_assoc merging.done parts.front (parts.last ∷ [])) in
      let rise = rise_front cmp parts.front parts.last (rw parts.is at merging.waiting_rise) in
      record {
        rest = parts.front;
        last = parts.last;
        is = parts.is;
        shorter = omega (arith, merging.long, ap length parts.is, length-append parts.front (parts.last ∷ []));
        read = λ d. rw ring_is (get_or_last (merging.done ++ parts.front) parts.last d);
        front_is = rw ring_is (take_last (merging.done ++ parts.front) parts.last);
        end_is = rw ring_is (drop_last (merging.done ++ parts.front) parts.last);
        rest_rise = rise.0;
        below = rise.1;
      }

module _ {K V : Type 0} {cmp : K → K → Ordering} (total : IsTotalOrder cmp) {old new ring remaining : List (K × V)} {left : ℕ} (merging : IsMerging cmp old new ring left remaining)
    (front : List (K × V)) (row : K × V) (remaining_is : remaining ≡ front ++ row ∷ [])
    (len : ℕ) (len_is : len ≡ length ring) where
  -- the last row on either side is one row of the result
  merges_last : (waiting rest : List (K × V)) (last : K × V) → with_rows cmp merging.waiting remaining ≡ with_rows cmp waiting rest ++ last ∷ [] → with_rows cmp waiting rest ++ last ∷ merging.done ≡ with_rows cmp old new
  merges_last waiting rest last is = sym (append_assoc (with_rows cmp waiting rest) (last ∷ []) merging.done) ∙ ap (λ l. l ++ merging.done) (sym is) ∙ merging.merges

  front_rise : SortedByKey cmp front × AreBelow cmp front row.0
  front_rise = rise_front cmp front row (rw remaining_is at merging.remaining_rise)

  -- the old row goes first
  pub step_old : 0 < left → ((d : K × V) → cmp row.0 (get_or ring (len - 1) d).0 ≡ Less)
      → IsMerging cmp old new (drop (len - 1) ring ++ take (len - 1) ring) (left - 1) remaining
  step_old some less =
      let w = subst (LastOf cmp merging.done merging.waiting ring left) (sym len_is) (last_of merging some) in
      let passes = passes_old total w.rest w.last front row front_rise.1 (rw w.read at (less w.last)) in
      record {
        done = w.last ∷ merging.done;
        waiting = w.rest;
        parts = rw (w.end_is, w.front_is) refl;
        long = w.shorter;
        merges = merges_last w.rest remaining w.last
            (ap (λ l. with_rows cmp l remaining) w.is ∙ ap (λ l. with_rows cmp (w.rest ++ w.last ∷ []) l) remaining_is ∙ passes ∙ ap (λ l. with_rows cmp w.rest l ++ w.last ∷ []) (sym remaining_is));
        waiting_rise = w.rest_rise;
        remaining_rise = merging.remaining_rise;
      }

  -- both do, as one
  pub step_both : 0 < left → ((d : K × V) → cmp row.0 (get_or ring (len - 1) d).0 ≡ Equal)
      → (last : K × V) → last ≡ get_or ring (len - 1) last → IsMerging cmp old new ((last.0, row.1) ∷ take (len - 1) ring) (left - 1) front
  step_both some equal last last_is =
      let w = subst (LastOf cmp merging.done merging.waiting ring left) (sym len_is) (last_of merging some) in
      let passes = passes_both total w.rest w.last front row w.below front_rise.1 (rw w.read at (equal w.last)) in
      record {
        done = (last.0, row.1) ∷ merging.done;
        waiting = w.rest;
        parts = rw w.front_is refl;
        long = w.shorter;
        merges = merges_last w.rest front (last.0, row.1)
            (ap (λ l. with_rows cmp l remaining) w.is ∙ ap (λ l. with_rows cmp (w.rest ++ w.last ∷ []) l) remaining_is ∙ passes ∙ ap (λ (r : K × V). with_rows cmp w.rest front ++ (r.0, row.1) ∷ []) (sym (last_is ∙ w.read last)));
        waiting_rise = w.rest_rise;
        remaining_rise = front_rise.0;
      }

  waiting_below : (0 < left → (d : K × V) → cmp row.0 (get_or ring (len - 1) d).0 ≡ Greater) → AreBelow cmp merging.waiting row.0
  waiting_below greater = elim (cases_lt 0 left) [
    | inl some ↦
        let w = subst (LastOf cmp merging.done merging.waiting ring left) (sym len_is) (last_of merging some) in
        let less = below-above total row.0 w.last.0 (rw w.read at (greater some w.last)) in
        subst (λ l. AreBelow cmp l row.0) (sym w.is) (AreBelow-push total w.rest w.last row.0 (AreBelow-further total w.rest w.last.0 row.0 w.below less) less)
    | inr none ↦ subst (λ l. AreBelow cmp l row.0) (sym (empty_of merging.waiting (omega (arith, merging.long)))) tt
  ]

  -- the new row does
  pub step_new : (0 < left → (d : K × V) → cmp row.0 (get_or ring (len - 1) d).0 ≡ Greater) → IsMerging cmp old new (row ∷ ring) left front
  step_new greater =
      let passes = passes_new total merging.waiting front row (waiting_below greater) front_rise.1 in
      record {
        done = row ∷ merging.done;
        waiting = merging.waiting;
        parts = ap (λ l. row ∷ l) merging.parts;
        long = merging.long;
        merges = merges_last merging.waiting front row (ap (λ l. with_rows cmp merging.waiting l) remaining_is ∙ passes);
        waiting_rise = merging.waiting_rise;
        remaining_rise = front_rise.0;
      }
