-- What changed leads from one view to the other in the section of subscribers.
use Rattle.std.proofs.Common.{◌≡◌, Bool, true, false, cond, ◌&&◌, ◌==◌, List, [], ◌∷◌, ◌++◌, map, flat_map, fold, Equal, Ordering, Option, None, Some, is_some, sym, ap, subst, refl, ◌∙◌}
use Rattle.std.specs.Option.{option_map_or}
use Rattle.std.specs.Ordering.{ordering_then}
use Rattle.std.specs.BTreeMap.{is_at}
use Rattle.std.proofs.lemmas.Cmp.{tied_itself}
use Rattle.std.proofs.lemmas.List.Folds.{flat_map-map}
use Rattle.std.proofs.lemmas.List.Sums.{fold-append}
use Rattle.ev_rows.specs.Rows.{SortedByKey, row_at, gained, kept, lost, fresh, keys_of, one_of}
use Rattle.ev_rows.proofs.RowFolds.{fold-flat_map_at}
use Rattle.ev_rows.proofs.RiseLemmas.{IsBelow, rise-nil, rise-cons, rise_head, rise_tail}
use Rattle.ev_rows.proofs.RowLemmas.{at_itself, at_same}
use Rattle.ev_rows.proofs.ChangeLemmas.{row_at-gained}
use Rattle.ev_base.specs.Orders.{user_cmp, user_order, stream_cmp, stream_order, stream_user_cmp, stream_user_order}
use Rattle.ev_base.specs.declared.ids.UserId.{UserId}
use Rattle.ev_base.specs.declared.ids.StreamId.{StreamId}
use Rattle.ev_types.specs.declared.rows.ShownStream.{ShownStream}
use Rattle.ev_types.specs.declared.event.Event.{Event}
use Rattle.ev_types.specs.declared.event.Event.TheVariants.{StreamCreate, StreamDelete, PeerAdd, PeerRemove}
use Rattle.ev_types.specs.Sections.{Sections}
use Rattle.ev_types.specs.Writes.{put, drop_row, drop_under, cell_after}
use Rattle.ev_types.specs.EventWrites.{subscriber_rules, subscriber_writes}
use Rattle.ev_types.specs.Applying.{rows_applied}
use Rattle.ev_types.specs.Changes.{stream_changes, stream_events, Peers, peers_of, peers_added, peers_removed, peer_events, changes_between}
use Rattle.ev_types.specs.Comparable.{Comparable}
use Rattle.ev_laws.proofs.Quiet.{skip_front, quiet_append, quiet_one_of, quiet_flat_map}
use Rattle.ev_laws.proofs.Groups.{quiet_stream_changes, quiet_realm, quiet_users, quiet_subscriptions, quiet_messages, peers_after_streams}
use Rattle.ev_laws.proofs.Cells.{over, without, cell_step, rows_lead, fold-one_of}
use Rattle.ev_laws.proofs.Tests.{numbers_at, then_at}

-- the subscribers of a stream, by user
module _ (s : StreamId) where
  pub row_at-peers_of : (rows : Peers) (u : UserId) → row_at user_cmp (peers_of s rows) u ≡ row_at stream_user_cmp rows (s, u)
  row_at-peers_of [] u = refl
  row_at-peers_of (row ∷ rows) u = go (is_at (stream_cmp s) row.0.0) (is_at (user_cmp u) row.0.1) refl refl (row_at-peers_of rows u)
    where
      go : (here at : Bool) → is_at (stream_cmp s) row.0.0 ≡ here → is_at (user_cmp u) row.0.1 ≡ at → row_at user_cmp (peers_of s rows) u ≡ row_at stream_user_cmp rows (s, u)
          → row_at user_cmp (peers_of s (row ∷ rows)) u ≡ row_at stream_user_cmp (row ∷ rows) (s, u)
      go true true is at further = rw (is, then_at (stream_cmp s row.0.0) (user_cmp u row.0.1) true true is at, at) refl
      go true false is at further = rw (is, then_at (stream_cmp s row.0.0) (user_cmp u row.0.1) true false is at, at) further
      go false at is at_is further = rw (is, then_at (stream_cmp s row.0.0) (user_cmp u row.0.1) false at is at_is) further

  below-peers_of : (u : UserId) (rows : Peers) → IsBelow stream_user_cmp (s, u) rows → IsBelow user_cmp u (peers_of s rows)
  below-peers_of u [] below = tt
  below-peers_of u (row ∷ rows) below = go (is_at (stream_cmp s) row.0.0) refl (below-peers_of u rows below.1)
    where
      go : (here : Bool) → is_at (stream_cmp s) row.0.0 ≡ here → IsBelow user_cmp u (peers_of s rows) → IsBelow user_cmp u (peers_of s (row ∷ rows))
      go true is further =
          let tied : stream_cmp s row.0.0 ≡ Equal = ap (stream_cmp s) (sym (at_same stream_order s row.0.0 is)) ∙ tied_itself stream_order.total s in
          rw is (sym (ap (λ (o : Ordering). ordering_then o (user_cmp u row.0.1)) tied) ∙ below.0, further)
      go false is further = rw is further

  pub rise-peers_of : (rows : Peers) → SortedByKey stream_user_cmp rows → SortedByKey user_cmp (peers_of s rows)
  rise-peers_of [] rise = rise-nil user_cmp
  rise-peers_of (row ∷ rows) rise = go (is_at (stream_cmp s) row.0.0) refl (rise-peers_of rows (rise_tail stream_user_cmp row rows rise))
    where
      go : (here : Bool) → is_at (stream_cmp s) row.0.0 ≡ here → SortedByKey user_cmp (peers_of s rows) → SortedByKey user_cmp (peers_of s (row ∷ rows))
      go true is further =
          let P : StreamId → Type 0 = λ t. IsBelow stream_user_cmp (t, row.0.1) rows in
          rw is (rise-cons user_cmp (row.0.1, row.1) (peers_of s rows) (below-peers_of row.0.1 rows (subst P (sym (at_same stream_order s row.0.0 is)) (rise_head stream_user_cmp row rows rise))) further)
      go false is further = rw is further

-- what the writes of peers do to the row of a subscriber
module _ (q : StreamId × UserId) where
  abbrev step : Option (Unit {0}) → Event → Option (Unit {0})
  step = cell_step subscriber_rules subscriber_writes q

  settled : (o cell : Option (Unit {0})) → over o (over (Some tt) cell) ≡ Some tt
  settled None cell = refl
  settled (Some u) cell = refl

  gone : (o : Option (Unit {0})) → without {V = Unit {0}} o None ≡ None
  gone None = refl
  gone (Some u) = refl

  cell-joined : (s : StreamId) (rows : List (UserId × Unit {0})) (cell : Option (Unit {0}))
      → cell_after subscriber_rules q cell (map (λ user. put (s, user) tt) (keys_of rows)) ≡ cond (is_at (stream_cmp q.0) s) (over (row_at user_cmp rows q.1) cell) cell
  cell-joined s [] cell = same (is_at (stream_cmp q.0) s)
    where
      same : (b : Bool) → cell ≡ cond b cell cell
      same true = refl
      same false = refl
  cell-joined s (row ∷ rows) cell =
      ap (λ (b : Bool). cell_after subscriber_rules q (cond b (Some tt) cell) (map (λ user. put (s, user) tt) (keys_of rows))) (then_at (stream_cmp q.0 s) (user_cmp q.1 row.0) (is_at (stream_cmp q.0) s) (is_at (user_cmp q.1) row.0) refl refl)
      ∙ go (is_at (stream_cmp q.0) s) (is_at (user_cmp q.1) row.0) (λ c. cell-joined s rows c)
    where
      go : (here at : Bool) → ((c : Option (Unit {0})) → cell_after subscriber_rules q c (map (λ user. put (s, user) tt) (keys_of rows)) ≡ cond here (over (row_at user_cmp rows q.1) c) c)
          → cell_after subscriber_rules q (cond (here && at) (Some tt) cell) (map (λ user. put (s, user) tt) (keys_of rows)) ≡ cond here (over (cond at (Some row.1) (row_at user_cmp rows q.1)) cell) cell
      go true true further = further (Some tt) ∙ settled (row_at user_cmp rows q.1) cell
      go true false further = further cell
      go false at further = further cell

  cell-left : (s : StreamId) (rows : List (UserId × Unit {0})) (cell : Option (Unit {0}))
      → cell_after subscriber_rules q cell (map (λ user. drop_row (s, user)) (keys_of rows)) ≡ cond (is_at (stream_cmp q.0) s) (without (row_at user_cmp rows q.1) cell) cell
  cell-left s [] cell = same (is_at (stream_cmp q.0) s)
    where
      same : (b : Bool) → cell ≡ cond b cell cell
      same true = refl
      same false = refl
  cell-left s (row ∷ rows) cell =
      ap (λ (b : Bool). cell_after subscriber_rules q (cond b None cell) (map (λ user. drop_row (s, user)) (keys_of rows))) (then_at (stream_cmp q.0 s) (user_cmp q.1 row.0) (is_at (stream_cmp q.0) s) (is_at (user_cmp q.1) row.0) refl refl)
      ∙ go (is_at (stream_cmp q.0) s) (is_at (user_cmp q.1) row.0) (λ c. cell-left s rows c)
    where
      go : (here at : Bool) → ((c : Option (Unit {0})) → cell_after subscriber_rules q c (map (λ user. drop_row (s, user)) (keys_of rows)) ≡ cond here (without (row_at user_cmp rows q.1) c) c)
          → cell_after subscriber_rules q (cond (here && at) None cell) (map (λ user. drop_row (s, user)) (keys_of rows)) ≡ cond here (without (cond at (Some row.1) (row_at user_cmp rows q.1)) cell) cell
      go true true further = further None ∙ gone (row_at user_cmp rows q.1)
      go true false further = further cell
      go false at further = further cell

  cell-deleted : (rows : List (StreamId × ShownStream)) (cell : Option (Unit {0})) → cell_after subscriber_rules q cell (map drop_under (keys_of rows)) ≡ without (row_at stream_cmp rows q.0) cell
  cell-deleted [] cell = refl
  cell-deleted (row ∷ rows) cell = go (q.0.0 == row.0.0) (is_at (stream_cmp q.0) row.0) (numbers_at q.0.0 row.0.0) (λ c. cell-deleted rows c)
    where
      nothing : (o : Option ShownStream) → without {V = Unit {0}} o None ≡ None
      nothing None = refl
      nothing (Some w) = refl

      go : (under at : Bool) → under ≡ at → ((c : Option (Unit {0})) → cell_after subscriber_rules q c (map drop_under (keys_of rows)) ≡ without (row_at stream_cmp rows q.0) c)
          → cell_after subscriber_rules q (cond under None cell) (map drop_under (keys_of rows)) ≡ without (cond at (Some row.1) (row_at stream_cmp rows q.0)) cell
      go true true is further = further None ∙ nothing (row_at stream_cmp rows q.0)
      go true false is further = cc
      go false true is further = cc
      go false false is further = further cell

  module _ (before after : Sections) where
    abbrev old : Option (Unit {0})
    old = row_at stream_user_cmp before.subscribers q

    abbrev new : Option (Unit {0})
    new = row_at stream_user_cmp after.subscribers q

    abbrev stream_before : Option ShownStream
    stream_before = row_at stream_cmp before.streams q.0

    abbrev stream_after : Option ShownStream
    stream_after = row_at stream_cmp after.streams q.0

    -- the streams that are lost take their subscribers along
    told_streams : SortedByKey stream_cmp before.streams → (cell : Option (Unit {0})) → fold step cell (stream_events before.streams after.streams) ≡ without (fresh stream_after stream_before) cell
    told_streams rises cell =
        skip_front step (one_of StreamCreate (gained stream_cmp before.streams after.streams) ++ flat_map stream_changes (kept stream_cmp before.streams after.streams)) (one_of StreamDelete (keys_of (lost stream_cmp before.streams after.streams)))
        (quiet_append step (one_of StreamCreate (gained stream_cmp before.streams after.streams)) (flat_map stream_changes (kept stream_cmp before.streams after.streams))
        (quiet_one_of step StreamCreate (gained stream_cmp before.streams after.streams) (λ rows c. refl))
        (quiet_flat_map step stream_changes (kept stream_cmp before.streams after.streams) (λ row. quiet_stream_changes step row (λ field c. refl)))) cell
        ∙ fold-one_of step StreamDelete (λ streams. cell_after subscriber_rules q cell (map drop_under streams)) cell refl (λ streams. refl) (keys_of (lost stream_cmp before.streams after.streams))
        ∙ cell-deleted (lost stream_cmp before.streams after.streams) cell
        ∙ ap (λ o. without o cell) (row_at-gained stream_order after.streams before.streams rises q.0)

    -- who joined and who left, stream by stream
    told_joined : (s : StreamId) (cell : Option (Unit {0})) → fold step cell (peers_added before.subscribers after.subscribers s)
        ≡ cond (is_at (stream_cmp q.0) s) (over (row_at user_cmp (gained user_cmp (peers_of s before.subscribers) (peers_of s after.subscribers)) q.1) cell) cell
    told_joined s cell =
        fold-one_of step (PeerAdd s) (λ users. cell_after subscriber_rules q cell (map (λ user. put (s, user) tt) users)) cell refl (λ users. refl) (keys_of (gained user_cmp (peers_of s before.subscribers) (peers_of s after.subscribers)))
        ∙ cell-joined s (gained user_cmp (peers_of s before.subscribers) (peers_of s after.subscribers)) cell

    told_left : (s : StreamId) (cell : Option (Unit {0})) → fold step cell (peers_removed before.subscribers after.subscribers s)
        ≡ cond (is_at (stream_cmp q.0) s) (without (row_at user_cmp (lost user_cmp (peers_of s before.subscribers) (peers_of s after.subscribers)) q.1) cell) cell
    told_left s cell =
        fold-one_of step (PeerRemove s) (λ users. cell_after subscriber_rules q cell (map (λ user. drop_row (s, user)) users)) cell refl (λ users. refl) (keys_of (lost user_cmp (peers_of s before.subscribers) (peers_of s after.subscribers)))
        ∙ cell-left s (lost user_cmp (peers_of s before.subscribers) (peers_of s after.subscribers)) cell

    module _ (coherent : Comparable before after) where
      here : is_at (stream_cmp q.0) q.0 ≡ true
      here = at_itself stream_order q.0

      joined : (cell : Option (Unit {0})) → fold step cell (flat_map (peers_added before.subscribers after.subscribers) (keys_of after.streams)) ≡ option_map_or (λ row. over (fresh old new) cell) stream_after cell
      joined cell =
          ap (fold step cell) (flat_map-map (peers_added before.subscribers after.subscribers) (λ (row : StreamId × ShownStream). row.0) after.streams)
          ∙ fold-flat_map_at stream_order step (λ (row : StreamId × ShownStream). peers_added before.subscribers after.subscribers row.0) q.0
          (λ row c off. told_joined row.0 c ∙ rw off refl) after.streams coherent.after_coheres.rises.streams cell
          ∙ ap (λ (c : Option (Unit {0})). option_map_or (λ (row : ShownStream). c) stream_after cell)
          (told_joined q.0 cell
          ∙ ap (λ (b : Bool). cond b (over (row_at user_cmp (gained user_cmp (peers_of q.0 before.subscribers) (peers_of q.0 after.subscribers)) q.1) cell) cell) here
          ∙ ap (λ o. over o cell)
          (row_at-gained user_order (peers_of q.0 before.subscribers) (peers_of q.0 after.subscribers) (rise-peers_of q.0 after.subscribers coherent.after_coheres.rises.subscribers) q.1
          ∙ ap (λ o. fresh o (row_at user_cmp (peers_of q.0 after.subscribers) q.1)) (row_at-peers_of q.0 before.subscribers q.1)
          ∙ ap (fresh old) (row_at-peers_of q.0 after.subscribers q.1)))

      left : (cell : Option (Unit {0})) → fold step cell (flat_map (peers_removed before.subscribers after.subscribers) (keys_of after.streams)) ≡ option_map_or (λ row. without (fresh new old) cell) stream_after cell
      left cell =
          ap (fold step cell) (flat_map-map (peers_removed before.subscribers after.subscribers) (λ (row : StreamId × ShownStream). row.0) after.streams)
          ∙ fold-flat_map_at stream_order step (λ (row : StreamId × ShownStream). peers_removed before.subscribers after.subscribers row.0) q.0
          (λ row c off. told_left row.0 c ∙ rw off refl) after.streams coherent.after_coheres.rises.streams cell
          ∙ ap (λ (c : Option (Unit {0})). option_map_or (λ (row : ShownStream). c) stream_after cell)
          (told_left q.0 cell
          ∙ ap (λ (b : Bool). cond b (without (row_at user_cmp (lost user_cmp (peers_of q.0 before.subscribers) (peers_of q.0 after.subscribers)) q.1) cell) cell) here
          ∙ ap (λ o. without o cell)
          (row_at-gained user_order (peers_of q.0 after.subscribers) (peers_of q.0 before.subscribers) (rise-peers_of q.0 before.subscribers coherent.before_coheres.rises.subscribers) q.1
          ∙ ap (λ o. fresh o (row_at user_cmp (peers_of q.0 before.subscribers) q.1)) (row_at-peers_of q.0 after.subscribers q.1)
          ∙ ap (fresh new) (row_at-peers_of q.0 before.subscribers q.1)))

      leads : (o n : Option (Unit {0})) (b a : Option ShownStream) → (is_some o ≡ true → is_some b ≡ true) → (is_some n ≡ true → is_some a ≡ true)
          → option_map_or (λ row. without (fresh n o) (option_map_or (λ row. over (fresh o n) (without (fresh a b) o)) a (without (fresh a b) o))) a (option_map_or (λ row. over (fresh o n) (without (fresh a b) o)) a (without (fresh a b) o)) ≡ n
      leads o (Some n) b None of_before of_after = let clash : false ≡ true = of_after refl in cc
      leads None None None None of_before of_after = refl
      leads (Some o) None None None of_before of_after = let clash : false ≡ true = of_before refl in cc
      leads o None (Some b) None of_before of_after = refl
      leads None None None (Some a) of_before of_after = refl
      leads None None (Some b) (Some a) of_before of_after = refl
      leads None (Some n) None (Some a) of_before of_after = refl
      leads None (Some n) (Some b) (Some a) of_before of_after = refl
      leads (Some o) None None (Some a) of_before of_after = refl
      leads (Some o) None (Some b) (Some a) of_before of_after = refl
      leads (Some o) (Some n) None (Some a) of_before of_after = refl
      leads (Some o) (Some n) (Some b) (Some a) of_before of_after = refl

      subscriber_leads : fold step old (changes_between before after) ≡ new
      subscriber_leads =
          peers_after_streams step before after old (quiet_realm step before after (λ f c. refl)) (quiet_users step before after (λ u r c. refl) (λ u f c. refl))
          (quiet_subscriptions step before after (λ r c. refl) (λ s f c. refl) (λ s c. refl))
          (quiet_messages step before after (λ f c. refl) (λ m c. refl) (λ m s t c. refl) (λ m t c. refl) (λ f c. refl) (λ m u e c. refl) (λ m u e c. refl) (λ m c. refl))
          ∙ ap (λ c. fold step c (peer_events before after)) (told_streams coherent.before_coheres.rises.streams old)
          ∙ fold-append step (without (fresh stream_after stream_before) old) (flat_map (peers_added before.subscribers after.subscribers) (keys_of after.streams)) (flat_map (peers_removed before.subscribers after.subscribers) (keys_of after.streams))
          ∙ ap (λ c. fold step c (flat_map (peers_removed before.subscribers after.subscribers) (keys_of after.streams))) (joined (without (fresh stream_after stream_before) old))
          ∙ left (option_map_or (λ row. over (fresh old new) (without (fresh stream_after stream_before) old)) stream_after (without (fresh stream_after stream_before) old))
          ∙ leads old new stream_before stream_after (coherent.before_coheres.subscribers q) (coherent.after_coheres.subscribers q)

pub subscribers_lead : (before after : Sections) → Comparable before after → rows_applied subscriber_rules subscriber_writes (changes_between before after) before.subscribers ≡ after.subscribers
subscribers_lead before after comparable =
    rows_lead subscriber_rules stream_user_order subscriber_writes (changes_between before after) before.subscribers after.subscribers comparable.before_coheres.rises.subscribers comparable.after_coheres.rises.subscribers
    (λ q. subscriber_leads q before after comparable)
