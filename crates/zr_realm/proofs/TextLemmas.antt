-- That the texts of rows differ, as a loop sees it that keeps those it came by.
use Rattle.std.proofs.Common.{◌+◌, ◌<◌, suc, add-one, length, get_or, drop, drop-cons, ◌≡◌, ◌⊎◌, ◌↔◌, inl, inr, ℕ, Bool, true, false, cond, not, ◌&&◌, ◌||◌, List, [], ◌∷◌, Ordering, None, Some, sym, ap, refl, true≢false, ◌∙◌}
use Rattle.std.specs.Borrow.{Bor}
use Rattle.std.specs.Cmp.{eq_by_cmp_equiv}
use Rattle.std.specs.Set.{KeepsOthers}
use Rattle.std.specs.Str.{bytes_eq}
use Rattle.std.specs.BTreeMap.{is_at}
use Rattle.std.specs.BTreeSet.{BTreeSet, Updates, contains, contains_by}
use Rattle.std.proofs.lemmas.Bool.{and_from, and_parts, or_from, or_parts, not-true, not_from_false, false_from_ne_true}
use Rattle.std.proofs.lemmas.Option.{same_Some}
use Rattle.std.proofs.lemmas.Slice.Eq.{bytes_eq-Decides}
use Rattle.ev_rows.specs.KeyOrder.{KeyOrder}
use Rattle.ev_rows.specs.Rows.{SortedByKey, row_at}
use Rattle.ev_rows.proofs.RiseLemmas.{rise_tail}
use Rattle.ev_rows.proofs.RowLemmas.{at_same, later_row, row_at_below, row_at_head}
use Rattle.ev_base.specs.Orders.{text_cmp, text_order}
use Rattle.zr_types.specs.Sound.{TextsDiffer}
use Rattle.zr_realm.specs.SoundTests.{texts_differ, texts_fresh, with_text}

module _ {K V : Type 0} {cmp : K → K → Ordering} (order : KeyOrder cmp) where
  -- where the row of a key is
  pub head_or_later : (row : K × V) (rows : List (K × V)) (key : K) (value : V) → row_at cmp (row ∷ rows) key ≡ Some value
      → ((key ≡ row.0) × (row.1 ≡ value)) ⊎ (row_at cmp rows key ≡ Some value)
  head_or_later row rows key value = go (is_at (cmp key) row.0) refl
    where
      go : (at : Bool) → is_at (cmp key) row.0 ≡ at → cond at (Some row.1) (row_at cmp rows key) ≡ Some value → ((key ≡ row.0) × (row.1 ≡ value)) ⊎ (row_at cmp rows key ≡ Some value)
      go true at here = inl (at_same order key row.0 at, same_Some row.1 value here)
      go false off here = inr here

module _ {K V : Type 0} {cmp : K → K → Ordering} (order : KeyOrder cmp) (counts : V → Bool) (text : V → List ℕ) where
  -- no row that counts has a text that is taken
  abbrev NoneTaken : (List ℕ → Bool) → List (K × V) → Type 0
  NoneTaken taken rows = (key : K) (value : V) → row_at cmp rows key ≡ Some value → counts value ≡ true → taken (text value) ≡ false

  module _ (row : K × V) (rows : List (K × V)) where
    none_taken : (taken : List ℕ → Bool) → (counts row.1 ≡ true → taken (text row.1) ≡ false) → NoneTaken taken rows → NoneTaken taken (row ∷ rows)
    none_taken taken first later key value here counted = go (head_or_later order row rows key value here)
      where
        go : ((key ≡ row.0) × (row.1 ≡ value)) ⊎ (row_at cmp rows key ≡ Some value) → taken (text value) ≡ false
        go (inl is) = ap (λ v. taken (text v)) (sym is.1) ∙ first (ap counts is.1 ∙ counted)
        go (inr at) = later key value at counted

    -- the first text isn't a later one
    other_texts : (counts row.1 ≡ true → NoneTaken (bytes_eq (text row.1)) rows) → (key : K) (value : V) → row_at cmp rows key ≡ Some value → counts row.1 ≡ true → counts value ≡ true → text row.1 ≡ text value → ⊥
    other_texts first key value at counts_first counted same = true≢false (sym ((bytes_eq-Decides (text row.1) (text value)).1 same) ∙ first counts_first key value at counted)

    differ_more : (counts row.1 ≡ true → NoneTaken (bytes_eq (text row.1)) rows) → TextsDiffer cmp counts text rows → TextsDiffer cmp counts text (row ∷ rows)
    differ_more first differ a b x y at_a at_b counts_x counts_y same = go (head_or_later order row rows a x at_a) (head_or_later order row rows b y at_b)
      where
        go : ((a ≡ row.0) × (row.1 ≡ x)) ⊎ (row_at cmp rows a ≡ Some x) → ((b ≡ row.0) × (row.1 ≡ y)) ⊎ (row_at cmp rows b ≡ Some y) → a ≡ b
        go (inl a_is) (inl b_is) = a_is.0 ∙ sym b_is.0
        go (inl a_is) (inr at) = absurd (other_texts first b y at (ap counts a_is.1 ∙ counts_x) counts_y (ap text a_is.1 ∙ same))
        go (inr at) (inl b_is) = absurd (other_texts first a x at (ap counts b_is.1 ∙ counts_y) counts_x (ap text b_is.1 ∙ sym same))
        go (inr later_a) (inr later_b) = differ a b x y later_a later_b counts_x counts_y same

    module _ (rise : SortedByKey cmp (row ∷ rows)) (differ : TextsDiffer cmp counts text (row ∷ rows)) where
      differ_first : counts row.1 ≡ true → NoneTaken (bytes_eq (text row.1)) rows
      differ_first counts_first key value at counted = false_from_ne_true (bytes_eq (text row.1) (text value)) (λ same.
          let here = differ row.0 key row.1 value (row_at_head order row rows) (later_row order row rows rise key value at) counts_first counted ((bytes_eq-Decides (text row.1) (text value)).0 same) in
          let clash = sym (row_at_below order row rows rise) ∙ ap (row_at cmp rows) here ∙ at in cc)

      differ_later : TextsDiffer cmp counts text rows
      differ_later a b x y at_a at_b = differ a b x y (later_row order row rows rise a x at_a) (later_row order row rows rise b y at_b)

  fresh : (taken : List ℕ → Bool) (rows : List (K × V)) → texts_fresh counts text taken rows ≡ true → NoneTaken taken rows × TextsDiffer cmp counts text rows
  fresh taken [] holds = (λ key value at. absurd (none value at), λ a b x y at. absurd (none x at))
    where
      none : (value : V) → None ≡ Some value → ⊥
      none value at = cc
  fresh taken (row ∷ rows) holds = go (λ taken. fresh taken rows) (counts row.1) refl holds
    where
      go : ((taken : List ℕ → Bool) → texts_fresh counts text taken rows ≡ true → NoneTaken taken rows × TextsDiffer cmp counts text rows)
          → (count : Bool) → counts row.1 ≡ count → cond count (not (taken (text row.1)) && texts_fresh counts text (with_text (text row.1) taken) rows) (texts_fresh counts text taken rows) ≡ true
          → NoneTaken taken (row ∷ rows) × TextsDiffer cmp counts text (row ∷ rows)
      go further true is holds =
          let (free, rest) = and_parts (not (taken (text row.1))) (texts_fresh counts text (with_text (text row.1) taken) rows) holds in
          let (none, differ) = further (with_text (text row.1) taken) rest in (
            none_taken row rows taken (λ counted. not-true (taken (text row.1)) free)
                (λ key value at counted. (or_parts (bytes_eq (text row.1) (text value)) (taken (text value)) (none key value at counted)).1),
            differ_more row rows (λ counted key value at counts_value. (or_parts (bytes_eq (text row.1) (text value)) (taken (text value)) (none key value at counts_value)).0) differ,
          )
      go further false is holds =
          let (none, differ) = further taken holds in (
            none_taken row rows taken (λ counted. absurd (true≢false (sym counted ∙ is))) none,
            differ_more row rows (λ counted. absurd (true≢false (sym counted ∙ is))) differ,
          )

  stay_fresh : (taken : List ℕ → Bool) (rows : List (K × V)) → SortedByKey cmp rows → NoneTaken taken rows → TextsDiffer cmp counts text rows → texts_fresh counts text taken rows ≡ true
  stay_fresh taken [] rise none differ = refl
  stay_fresh taken (row ∷ rows) rise none differ = go (λ taken none. stay_fresh taken rows (rise_tail cmp row rows rise) none (differ_later row rows rise differ)) (counts row.1) refl
    where
      later : NoneTaken taken rows
      later key value at = none key value (later_row order row rows rise key value at)

      go : ((taken : List ℕ → Bool) → NoneTaken taken rows → texts_fresh counts text taken rows ≡ true)
          → (count : Bool) → counts row.1 ≡ count → cond count (not (taken (text row.1)) && texts_fresh counts text (with_text (text row.1) taken) rows) (texts_fresh counts text taken rows) ≡ true
      go further true is =
          and_from (not (taken (text row.1))) (texts_fresh counts text (with_text (text row.1) taken) rows) (not_from_false (taken (text row.1)) (none row.0 row.1 (row_at_head order row rows) is))
          (further (with_text (text row.1) taken) (λ key value at counted. or_from (bytes_eq (text row.1) (text value)) (taken (text value)) (differ_first row rows rise differ is key value at counted) (later key value at counted)))
      go further false is = further taken later

  pub differ_says : (rows : List (K × V)) → SortedByKey cmp rows → (texts_differ counts text rows ≡ true) ↔ TextsDiffer cmp counts text rows
  differ_says rows rise = (λ holds. (fresh (λ other. false) rows holds).1, stay_fresh (λ other. false) rows rise (λ key value at counted. refl))

-- references to texts are in the order of the texts
abbrev reference_cmp : Bor (List ℕ) → Bor (List ℕ) → Ordering
reference_cmp a b = text_cmp a.now b.now

-- whether the set has the text
abbrev pub has : BTreeSet (Bor (List ℕ)) → List ℕ → Bool
has seen text = contains_by (λ (key : Bor (List ℕ)). text_cmp text key.now) seen

has_more : (old new : BTreeSet (Bor (List ℕ))) (text : Bor (List ℕ)) → Updates reference_cmp old new text true → has new ≡ with_text text.now (has old)
unfolding KeepsOthers
has_more old new text updates = λ i other. go other (bytes_eq text.now other) refl i
  where
    apart : (other : List ℕ) → bytes_eq text.now other ≡ false → (key : Bor (List ℕ)) → is_at (text_cmp text.now) key.now ≡ true → is_at (text_cmp other) key.now ≡ false
    apart other differ key at = false_from_ne_true (is_at (text_cmp other) key.now) (λ also.
        let same = (bytes_eq-Decides text.now other).1 (at_same text_order text.now key.now at ∙ sym (at_same text_order other key.now also)) in
        true≢false (sym same ∙ differ))

    go : (other : List ℕ) (same : Bool) → bytes_eq text.now other ≡ same → has new other ≡ (same || has old other)
    go other true is = ap (has new) (sym ((bytes_eq-Decides text.now other).0 is)) ∙ updates.1
    go other false is = updates.3 (λ (key : Bor (List ℕ)). is_at (text_cmp other) key.now) (λ x y. (eq_by_cmp_equiv text_order.total).congr other x.now y.now) (apart other is)

module _ {K V : Type 0} (counts : V → Bool) (text : V → List ℕ) (rows : List (K × V)) (at : ℕ) (row : K × V) (here : at < length rows) (is : row ≡ get_or rows at row) where
  next : drop at rows ≡ row ∷ drop (at + 1) rows
  next = drop-cons rows at row here ∙ ap (λ r. r ∷ drop (suc at) rows) (sym is) ∙ ap (λ n. row ∷ drop n rows) (sym (add-one at))

  -- the next row doesn't count
  pub pass_row : (taken : List ℕ → Bool) → counts row.1 ≡ false → texts_fresh counts text taken (drop (at + 1) rows) ≡ texts_fresh counts text taken (drop at rows)
  pass_row taken counted = rw (next, counted) refl

  -- the next row counts, and its text wasn't seen
  pub see_row : (old new : BTreeSet (Bor (List ℕ))) (key : Bor (List ℕ)) → counts row.1 ≡ true → key.now ≡ text row.1
      → not (contains reference_cmp old key) ≡ true → Updates reference_cmp old new key true
      → texts_fresh counts text (has new) (drop (at + 1) rows) ≡ texts_fresh counts text (has old) (drop at rows)
  see_row old new key counted is_text unseen updates =
      let free : has old (text row.1) ≡ false = ap (has old) (sym is_text) ∙ not-true (contains reference_cmp old key) unseen in
      let adds : has new ≡ with_text (text row.1) (has old) = has_more old new key updates ∙ ap (λ (t : List ℕ). with_text t (has old)) is_text in
      rw (next, counted, free, adds) refl
