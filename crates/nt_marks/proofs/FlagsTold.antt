-- What changes for one user number where an actor turns a flag of messages.
use Rattle.std.proofs.Common.{◌≡◌, Bool, true, false, not, ◌&&◌, ◌||◌, cond, List, [], ◌∷◌, ◌++◌, map, filter, Option, None, Some, is_some, option_map, option_and_then, sym, ap, refl, ◌∙◌, subst, append-nil}
use Rattle.std.proofs.Math.Bool.{beq}
use Rattle.std.specs.Option.{option_map_or}
use Rattle.std.specs.BTreeMap.{is_at}
use Rattle.std.specs.List.{cons_option, list_any}
use Rattle.std.specs.List.Sorted.{IsStrictlySortedBy}
use Rattle.std.proofs.lemmas.Bool.{false≢true}
use Rattle.ev_rows.specs.Rows.{SortedByKey, keys_of, one_of, one_row, only_if, row_at, sift}
use Rattle.ev_rows.proofs.RiseLemmas.{rise-filter, rise-nil, rise-sift}
use Rattle.ev_rows.proofs.RowLemmas.{at_itself, row_at-filter, row_at-sift, same_rows}
use Rattle.ev_base.specs.Orders.{message_cmp, message_order, reaction_cmp, user_cmp}
use Rattle.ev_base.specs.declared.ids.UserId.{UserId}
use Rattle.ev_base.specs.declared.ids.MessageId.{MessageId}
use Rattle.ev_base.specs.declared.kinds.Flag.{Flag}
use Rattle.ev_base.specs.declared.kinds.Flag.TheVariants as flag
use Rattle.ev_base.specs.declared.place.Place.{Place}
use Rattle.ev_types.specs.Changes.{KeptMessage, changes_between, details_of, flag_change, flag_event, flag_in, turned}
use Rattle.ev_types.specs.declared.event.Event.{Event}
use Rattle.ev_types.specs.declared.event.Event.TheVariants.{Flags}
use Rattle.ev_types.specs.declared.notice.Audience.TheVariants.{Only}
use Rattle.ev_types.specs.declared.rows.MessageFlags.{MessageFlags}
use Rattle.ev_types.specs.declared.rows.ShownMessage.{ShownMessage}
use Rattle.cmd_rules.proofs.DistinctLemmas.{keys_of-rows_for, rows_for}
use Rattle.nt_marks.specs.MarkParts.{details_in, flag_parts, flags_turned, placed}
use Rattle.nt_marks.proofs.FlagCells.{flags_with, is_marked, marked_after, messages_marked_after, reactions_after, turned_at, wanted}
use Rattle.nt_marks.proofs.OneFlag.{one_flag}
use Rattle.nt_rules.specs.Parts.{heard_of}
use Rattle.nt_rules.proofs.FieldsStay.{no_edits, no_moves, same_bool, unturned}
use Rattle.nt_rules.proofs.Heard.{has_one, heard_to}
use Rattle.nt_rules.proofs.MessageChanges.{messages_written, reactions_stay}
use Rattle.nt_rules.proofs.Sight.{at_messages}
use Rattle.nt_rules.proofs.StreamsStay.{messages_alone}
use Rattle.nt_rules.proofs.WrittenOver.{filter-written, keys-written, rise-written, row_at-written, with_new, written}
use Rattle.zr_types.specs.Commands as receipts
use Rattle.zr_types.specs.Sound.{TablesSorted}
use Rattle.zr_types.specs.Tables.{Tables, message_at, receipt_of}
use Rattle.zr_types.specs.Visibility.{sees_at, sees_message}
use Rattle.zr_types.specs.declared.posts.Message.{Message}
use Rattle.zr_types.specs.declared.posts.Receipt.{Receipt}
use Rattle.zw_views.specs.RowViews.{message_in, reaction_in}
use Rattle.zw_views.specs.Views.{messages, shown_flags, shown_message, view_of}

flag_shown : (kind : Flag) (receipt : Receipt) → flag_in kind (shown_flags receipt) ≡ receipts.flag_in kind receipt
flag_shown flag.Read receipt = refl
flag_shown flag.Starred receipt = refl
flag_shown flag.Collapsed receipt = refl

flag_set : (kind : Flag) (value : Bool) (flags : MessageFlags) → flag_in kind (flags_with kind value flags) ≡ value
flag_set flag.Read value flags = refl
flag_set flag.Starred value flags = refl
flag_set flag.Collapsed value flags = refl

or_true : (b : Bool) → (b || true) ≡ true
or_true true = refl
or_true false = refl

-- one thing made of rows, and one made of their keys
one_of_same : {K V E : Type 0} (f : List (K × V) → E) (g : List K → E) (rows : List (K × V)) (keys : List K) → keys_of rows ≡ keys → f rows ≡ g keys → one_of f rows ≡ one_of g keys
one_of_same f g [] [] same is = refl
one_of_same f g [] (key ∷ keys) same is = cc
one_of_same f g (row ∷ rows) [] same is = cc
one_of_same f g (row ∷ rows) (key ∷ keys) same is = ap (λ event. event ∷ []) is

row_at-rows_for : (keys : List MessageId) (q : MessageId) → row_at message_cmp (rows_for keys) q ≡ only_if (list_any (is_at (message_cmp q)) keys) (Some (tt {0}))
row_at-rows_for [] q = refl
row_at-rows_for (key ∷ keys) q = go (is_at (message_cmp q) key) (row_at-rows_for keys q)
  where
    go : (b : Bool) → row_at message_cmp (rows_for keys) q ≡ only_if (list_any (is_at (message_cmp q)) keys) (Some (tt {0}))
        → cond b (Some (tt {0})) (row_at message_cmp (rows_for keys) q) ≡ only_if (b || list_any (is_at (message_cmp q)) keys) (Some (tt {0}))
    go true further = refl
    go false further = further

module _ (tables : Tables) where
  abbrev place_in : MessageId × Unit {0} → Option Place
  place_in row = option_map (λ (m : Message). m.place) (message_at tables row.0)

  abbrev places : List MessageId → List (MessageId × Place)
  places keys = sift place_in (rows_for keys)

  placed_is_sift : (keys : List MessageId) → placed tables keys ≡ places keys
  placed_is_sift [] = refl
  placed_is_sift (key ∷ keys) = go (message_at tables key) (placed_is_sift keys)
    where
      go : (o : Option Message) → placed tables keys ≡ places keys
          → one_row key (option_map (λ (m : Message). m.place) o) ++ placed tables keys ≡ cons_option (option_map (λ w. (key, w)) (option_map (λ (m : Message). m.place) o)) (places keys)
      go None further = further
      go (Some row) further = ap (λ l. (key, row.place) ∷ l) further

  keys_of-places : (keys : List MessageId) → ((q : MessageId) → list_any (is_at (message_cmp q)) keys ≡ true → is_some (message_at tables q) ≡ true) → keys_of (places keys) ≡ keys
  keys_of-places [] there = refl
  keys_of-places (key ∷ keys) there =
      go (message_at tables key) (there key (ap (λ b. b || list_any (is_at (message_cmp key)) keys) (at_itself message_order key)))
      (keys_of-places keys (λ q is. there q (ap (λ b. is_at (message_cmp q) key || b) is ∙ or_true (is_at (message_cmp q) key))))
    where
      go : (o : Option Message) → is_some o ≡ true → keys_of (places keys) ≡ keys
          → keys_of (cons_option (option_map (λ w. (key, w)) (option_map (λ (m : Message). m.place) o)) (places keys)) ≡ key ∷ keys
      go None is further = absurd (false≢true is)
      go (Some row) is further = ap (λ l. key ∷ l) further

-- the details are those of the messages with their places
details_same : (tables : Tables) (rows : List KeptMessage) (keys : List MessageId) → map (λ (row : KeptMessage). (row.0, row.1.1.place)) rows ≡ placed tables keys
    → (kind : Flag) (sign : Bool) → details_of kind sign rows ≡ details_in tables kind sign keys
details_same tables rows keys same flag.Read true = refl
details_same tables rows keys same flag.Read false = same
details_same tables rows keys same flag.Starred sign = refl
details_same tables rows keys same flag.Collapsed sign = refl

-- the user sees the message, and the flag of the user's receipt isn't so already
abbrev pub IsTurned : Tables → UserId → Flag → Bool → MessageId → Type 0
IsTurned tables hearer flag add q =
    (receipt : Receipt) × ((receipt_of tables hearer q ≡ Some receipt) × (sees_message tables hearer q ≡ true) × (beq (receipts.flag_in flag receipt) add ≡ false))

module _ (tables : Tables) (rise : TablesSorted tables) (hearer : UserId) (flag : Flag) (add : Bool) (keys : List MessageId) (keys_rise : IsStrictlySortedBy message_cmp keys)
    (marked : MessageId → Bool) (marked_is : (q : MessageId) → list_any (is_at (message_cmp q)) keys ≡ marked q) (each : (q : MessageId) → marked q ≡ true → IsTurned tables hearer flag add q) where
  abbrev rows : List (MessageId × ShownMessage)
  rows = messages tables hearer

  abbrev new : MessageId × ShownMessage → ShownMessage
  new = turned_at flag add marked

  abbrev both : MessageId × ShownMessage → ShownMessage × ShownMessage
  both row = (row.1, new row)

  abbrev test : MessageId × ShownMessage → Bool
  test row = turned flag add (row.0, both row)

  abbrev found : List (MessageId × ShownMessage)
  found = filter test rows

  abbrev place_of : MessageId × ShownMessage → Place
  place_of row = row.1.place

  rows_rise : SortedByKey message_cmp rows
  rows_rise = rise-sift message_cmp (message_in tables hearer) tables.messages rise.messages

  found_rise : SortedByKey message_cmp found
  found_rise = rise-filter message_cmp test rows rows_rise

  keyed_rise : SortedByKey message_cmp (rows_for keys)
  keyed_rise = subst (IsStrictlySortedBy message_cmp) (sym (keys_of-rows_for keys)) keys_rise

  test_off : (q : MessageId) (shown : ShownMessage) → marked q ≡ false → test (q, shown) ≡ false
  test_off q shown off =
      ap (λ b. beq (flag_in flag (cond b (flags_with flag add shown.flags) shown.flags)) add && not (beq (flag_in flag shown.flags) add)) off
      ∙ unturned (flag_in flag shown.flags) add

  test_on : (q : MessageId) (message : Message) (receipt : Receipt) → marked q ≡ true → beq (receipts.flag_in flag receipt) add ≡ false → test (q, shown_message message receipt) ≡ true
  test_on q message receipt on differs =
      ap (λ b. beq (flag_in flag (cond b (flags_with flag add (shown_flags receipt)) (shown_flags receipt))) add && not (beq (flag_in flag (shown_flags receipt)) add)) on
      ∙ (λ i. beq (flag_set flag add (shown_flags receipt) i) add && not (beq (flag_shown flag receipt i) add))
      ∙ (λ i. same_bool add i && not (differs i))

  abbrev tested : MessageId → Option ShownMessage → Option Place
  tested q o = option_map (λ (shown : ShownMessage). shown.place) (option_and_then (λ shown. only_if (test (q, shown)) (Some shown)) o)

  abbrev named : MessageId → Bool → Option Place
  named q b = option_and_then (λ (mark : Unit {0}). place_in tables (q, mark)) (only_if b (Some (tt {0})))

  same_cell : (q : MessageId) (b : Bool) → marked q ≡ b
      → tested q (option_and_then (λ row. only_if (sees_message tables hearer q) (option_map (shown_message row) (receipt_of tables hearer q))) (message_at tables q)) ≡ named q b
  same_cell q false off = none (option_and_then (λ row. only_if (sees_message tables hearer q) (option_map (shown_message row) (receipt_of tables hearer q))) (message_at tables q))
    where
      none : (o : Option ShownMessage) → tested q o ≡ None
      none None = refl
      none (Some shown) = ap (λ b. option_map (λ (row : ShownMessage). row.place) (only_if b (Some shown))) (test_off q shown off)
  same_cell q true on =
      let turned_there = each q on in
      (λ i. tested q (option_and_then (λ row. only_if (turned_there.1.1 i) (option_map (shown_message row) (turned_there.1.0 i))) (message_at tables q)))
      ∙ there turned_there.0 turned_there.1.2 (message_at tables q)
    where
      there : (receipt : Receipt) → beq (receipts.flag_in flag receipt) add ≡ false → (o : Option Message)
          → tested q (option_and_then (λ row. Some (shown_message row receipt)) o) ≡ option_map (λ (m : Message). m.place) o
      there receipt differs None = refl
      there receipt differs (Some message) =
          ap (λ b. option_map (λ (row : ShownMessage). row.place) (only_if b (Some (shown_message message receipt)))) (test_on q message receipt on differs)

  -- the messages whose flag is turned are the marked ones, with their places
  found_are : written place_of found ≡ places tables keys
  found_are =
      same_rows message_order (written place_of found) (places tables keys) (rise-written place_of message_order found found_rise) (rise-sift message_cmp (place_in tables) (rows_for keys) keyed_rise)
      (λ q. row_at-written place_of message_order found found_rise q
      ∙ ap (option_map (λ (shown : ShownMessage). shown.place)) (row_at-filter message_order test rows q rows_rise)
      ∙ ap (tested q) (at_messages tables rise hearer q)
      ∙ same_cell q (marked q) refl
      ∙ sym (row_at-sift message_order (place_in tables) (rows_for keys) q keyed_rise ∙ ap (option_and_then (λ (mark : Unit {0}). place_in tables (q, mark))) (row_at-rows_for keys q) ∙ ap (named q) (marked_is q)))

  is_there : (q : MessageId) → list_any (is_at (message_cmp q)) keys ≡ true → is_some (message_at tables q) ≡ true
  is_there q is = go (message_at tables q) (each q (sym (marked_is q) ∙ is)).1.1
    where
      go : (o : Option Message) → option_map_or (λ row. sees_at tables hearer q row.sender row.place) o false ≡ true → is_some o ≡ true
      go None sees = absurd (false≢true sees)
      go (Some row) sees = refl

  turned_are : filter (turned flag add) (with_new new rows) ≡ written both found
  turned_are = filter-written both (turned flag add) rows

  keys_are : keys_of (filter (turned flag add) (with_new new rows)) ≡ keys
  keys_are =
      ap keys_of turned_are
      ∙ keys-written both found
      ∙ sym (keys-written place_of found)
      ∙ ap keys_of found_are
      ∙ keys_of-places tables keys is_there

  details_are : map (λ row. (row.0, row.1.1.place)) (filter (turned flag add) (with_new new rows)) ≡ placed tables keys
  details_are = ap (map (λ (row : KeptMessage). (row.0, row.1.1.place))) turned_are ∙ go found ∙ found_are ∙ sym (placed_is_sift tables keys)
    where
      go : (xs : List (MessageId × ShownMessage)) → map (λ (row : KeptMessage). (row.0, row.1.1.place)) (written both xs) ≡ written place_of xs
      go [] = refl
      go (x ∷ xs) = ap (λ l. (x.0, x.1.place) ∷ l) (go xs)

  -- so the event of the flag tells of them
  pub flag_tells : flag_event (with_new new rows) flag add ≡ one_of (flags_turned tables flag add) keys
  flag_tells =
      one_of_same (flag_change flag add) (flags_turned tables flag add) (filter (turned flag add) (with_new new rows)) keys keys_are
      (λ i. Flags (record { flag = flag; add = add; messages = keys_are i; details = details_same tables (filter (turned flag add) (with_new new rows)) keys details_are flag add i }))

module _ (tables : Tables) (rise : TablesSorted tables) (actor : UserId) (flag : Flag) (add : Bool) (keys : List MessageId) (keys_rise : IsStrictlySortedBy message_cmp keys) (hearer : UserId)
    (each : (q : MessageId) → is_marked tables rise actor flag add keys hearer q ≡ true → IsTurned tables hearer flag add q) where
  abbrev after : Tables
  after = marked_after tables rise actor flag add keys hearer

  abbrev marks : MessageId → Bool
  marks = is_marked tables rise actor flag add keys hearer

  wanted_rise : IsStrictlySortedBy message_cmp (wanted tables rise actor flag add keys hearer)
  wanted_rise = go (is_at (user_cmp hearer) actor)
    where
      go : (b : Bool) → IsStrictlySortedBy message_cmp (cond b keys [])
      go true = keys_rise
      go false = rise-nil message_cmp

  pub flags_changed : changes_between (view_of tables hearer) (view_of after hearer) ≡ one_of (flags_turned tables flag add) (wanted tables rise actor flag add keys hearer)
  flags_changed =
      let shown = messages tables hearer in
      let new = turned_at flag add marks in
      messages_alone tables rise hearer after refl refl refl refl
      ∙ messages_written (view_of tables hearer) (view_of after hearer) new (rise-sift message_cmp (message_in tables hearer) tables.messages rise.messages) (messages_marked_after tables rise actor flag add keys hearer)
      ∙ (λ i. no_moves new (λ row. refl) shown i ++ no_edits new (λ row. refl) shown i ++ one_flag flag add marks shown i
      ++ reactions_stay (view_of tables hearer) (view_of after hearer) (rise-sift reaction_cmp (reaction_in tables hearer) tables.reactions rise.reactions) (reactions_after tables rise actor flag add keys hearer) i)
      ∙ append-nil (flag_event (with_new new shown) flag add)
      ∙ flag_tells tables rise hearer flag add (wanted tables rise actor flag add keys hearer) wanted_rise marks (λ q. refl) each

  -- the actor is told of them
  pub flags_told : heard_of hearer (flag_parts tables actor flag add keys) ≡ changes_between (view_of tables hearer) (view_of after hearer)
  flags_told =
      heard_to hearer (Only (actor ∷ [])) (one_of (flags_turned tables flag add) keys)
      ∙ ap (λ b. cond b (one_of (flags_turned tables flag add) keys) []) (has_one hearer actor)
      ∙ go (is_at (user_cmp hearer) actor)
      ∙ sym flags_changed
    where
      go : (b : Bool) → cond b (one_of (flags_turned tables flag add) keys) [] ≡ one_of (flags_turned tables flag add) (cond b keys [])
      go true = refl
      go false = refl
