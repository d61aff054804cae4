-- The changes of subscribers, stream by stream.
use Rattle.std.proofs.Common.{◌≡◌, Bool, true, false, cond, List, [], ◌∷◌, ◌++◌, flat_map, Option, None, Some, is_some, option_map, sym, ap, refl, ◌∙◌, append-nil}
use Rattle.std.specs.Option.{option_and_then}
use Rattle.std.specs.BTreeMap.{is_at}
use Rattle.std.specs.List.{cons_option}
use Rattle.std.proofs.lemmas.List.Elements.{filter_map-append}
use Rattle.ev_rows.specs.Rows.{SortedByKey, gained, keys_of, made_of, one_of, only_if, row_at, sift}
use Rattle.ev_rows.proofs.RiseLemmas.{rise-sift, rise_tail}
use Rattle.ev_rows.proofs.RowLemmas.{at_same, row_at-sift, row_at_below}
use Rattle.ev_base.specs.Orders.{stream_cmp, stream_order, user_cmp}
use Rattle.ev_base.specs.declared.ids.UserId.{UserId}
use Rattle.ev_base.specs.declared.ids.StreamId.{StreamId}
use Rattle.ev_types.specs.declared.event.Event.{Event}
use Rattle.ev_types.specs.declared.event.Event.TheVariants.{PeerAdd, PeerRemove}
use Rattle.ev_types.specs.declared.rows.ShownStream.{ShownStream}
use Rattle.ev_types.specs.Changes.{peer_events, peers_added, peers_of, peers_removed}
use Rattle.zr_types.specs.declared.streams.Stream.{Stream}
use Rattle.zr_types.specs.Tables.{Tables, stream_at}
use Rattle.zr_types.specs.Visibility.{is_subscribed, role_of, sees_by, sees_stream}
use Rattle.zw_views.specs.RowViews.{stream_in}
use Rattle.zw_views.specs.Views.{peers, shown_stream, streams, subscribers, view_of}
use Rattle.zw_views.proofs.NestedLemmas.{nested, under}
use Rattle.nt_rules.proofs.Alike.{either_way}
use Rattle.nt_rules.specs.Parts.{gained_peers, lost_peers}

abbrev Users : Type 0
Users = List (UserId × Unit {0})

module _ (stream : StreamId) where
  -- a stream's users among rows under one stream
  peers_of-under : (key : StreamId) (rows : Users) → peers_of stream (under key rows) ≡ cond (is_at (stream_cmp stream) key) rows []
  peers_of-under key [] = either_way (is_at (stream_cmp stream) key) []
  peers_of-under key (row ∷ rows) = go (is_at (stream_cmp stream) key) (peers_of-under key rows)
    where
      go : (b : Bool) → peers_of stream (under key rows) ≡ cond b rows []
          → cons_option (only_if b (Some (row.0, row.1))) (peers_of stream (under key rows)) ≡ cond b (row ∷ rows) []
      go true further = ap (λ l. row ∷ l) further
      go false further = further

  module _ {V : Type 0} (inner : StreamId → Users) where
    -- and among rows under several: those under it, where it is there
    pub peers_of-nested : (rows : List (StreamId × V)) → SortedByKey stream_cmp rows
        → peers_of stream (nested inner rows) ≡ cond (is_some (row_at stream_cmp rows stream)) (inner stream) []
    peers_of-nested [] rise = refl
    peers_of-nested (row ∷ rows) rise =
        filter_map-append _ (under row.0 (inner row.0)) (nested inner rows)
        ∙ ap (λ (l : Users). l ++ peers_of stream (nested inner rows)) (peers_of-under row.0 (inner row.0))
        ∙ ap (λ (l : Users). cond (is_at (stream_cmp stream) row.0) (inner row.0) [] ++ l) (peers_of-nested rows (rise_tail stream_cmp row rows rise))
        ∙ go (is_at (stream_cmp stream) row.0) refl
      where
        go : (b : Bool) → is_at (stream_cmp stream) row.0 ≡ b
            → cond b (inner row.0) [] ++ cond (is_some (row_at stream_cmp rows stream)) (inner stream) []
            ≡ cond (is_some (cond b (Some row.1) (row_at stream_cmp rows stream))) (inner stream) []
        go true at =
            let same : stream ≡ row.0 = at_same stream_order stream row.0 at in
            let none : row_at stream_cmp rows stream ≡ None = ap (row_at stream_cmp rows) same ∙ row_at_below stream_order row rows rise in
            rw none (append-nil (inner row.0) ∙ ap inner (sym same))
        go false off = refl

module _ (tables : Tables) (rise : SortedByKey stream_cmp tables.streams) (user : UserId) where
  -- a stream is among those that the user sees exactly where the user sees it
  pub has_seen : (stream : StreamId) → is_some (row_at stream_cmp (streams tables user) stream) ≡ sees_stream tables user stream
  has_seen stream = ap is_some (row_at-sift stream_order (stream_in tables user) tables.streams stream rise) ∙ go (stream_at tables stream) refl
    where
      unseen : (role : Option _) → false ≡ sees_by role None (is_subscribed tables user stream)
      unseen None = refl
      unseen (Some role) = refl

      given : (b : Bool) (row : Stream) → is_some (only_if b (Some (shown_stream row))) ≡ b
      given true row = refl
      given false row = refl

      go : (o : Option Stream) → stream_at tables stream ≡ o → is_some (option_and_then (λ (row : Stream). only_if (sees_stream tables user stream) (Some (shown_stream row))) o) ≡ sees_stream tables user stream
      go None is = unseen (role_of tables user) ∙ ap (λ (o : Option Stream). sees_by (role_of tables user) o (is_subscribed tables user stream)) (sym is)
      go (Some row) is = given (sees_stream tables user stream) row

  pub peers_seen : (stream : StreamId) → peers_of stream (subscribers tables user) ≡ cond (sees_stream tables user stream) (peers tables stream) []
  peers_seen stream =
      peers_of-nested stream (peers tables) (streams tables user) (rise-sift stream_cmp (stream_in tables user) tables.streams rise)
      ∙ ap (λ b. cond b (peers tables stream) []) (has_seen stream)

-- what is made of the keys of the rows that a list makes of another
pub flat_map_keys : {K V W E : Type 0} (make : K → List E) (f : K × V → Option W) (rows : List (K × V))
    → flat_map make (keys_of (sift f rows)) ≡ flat_map (λ row. made_of (λ _. make row.0) (f row)) rows
flat_map_keys make f [] = refl
flat_map_keys make f (row ∷ rows) = go (f row) (flat_map_keys make f rows)
  where
    go : (o : Option _) → flat_map make (keys_of (sift f rows)) ≡ flat_map (λ row. made_of (λ _. make row.0) (f row)) rows
        → flat_map make (keys_of (cons_option (option_map (λ w. (row.0, w)) o) (sift f rows))) ≡ made_of (λ _. make row.0) o ++ flat_map (λ row. made_of (λ _. make row.0) (f row)) rows
    go None further = further
    go (Some w) further = ap (λ l. make row.0 ++ l) further

-- what is made of a list by functions that agree
pub flat_map_same : {X E : Type 0} (f g : X → List E) → ((x : X) → f x ≡ g x) → (xs : List X) → flat_map f xs ≡ flat_map g xs
flat_map_same f g same [] = refl
flat_map_same f g same (x ∷ xs) = ap (λ l. l ++ flat_map f xs) (same x) ∙ ap (λ l. g x ++ l) (flat_map_same f g same xs)

module _ (before after : Tables) (old_rise : SortedByKey stream_cmp before.streams) (new_rise : SortedByKey stream_cmp after.streams) (user : UserId) where
  -- the users who are gained and lost under a stream
  abbrev gained_under : StreamId → Users
  gained_under stream = gained_peers (sees_stream before user stream) (sees_stream after user stream) (peers before stream) (peers after stream)

  abbrev lost_under : StreamId → Users
  lost_under stream = lost_peers (sees_stream before user stream) (sees_stream after user stream) (peers before stream) (peers after stream)

  -- the events of subscribers, stream by stream of the table afterwards
  abbrev pub peers_by_stream : List Event
  peers_by_stream =
      flat_map (λ row. one_of (PeerAdd row.0) (keys_of (gained_under row.0))) after.streams
      ++ flat_map (λ row. one_of (PeerRemove row.0) (keys_of (lost_under row.0))) after.streams

  added_row : (row : StreamId × Stream)
      → made_of (λ (_ : ShownStream). peers_added (subscribers before user) (subscribers after user) row.0) (stream_in after user row)
      ≡ one_of (PeerAdd row.0) (keys_of (gained_under row.0))
  added_row row =
      ap (λ (l : Users). made_of (λ (_ : ShownStream). one_of (PeerAdd row.0) (keys_of (gained user_cmp l (peers_of row.0 (subscribers after user))))) (stream_in after user row)) (peers_seen before old_rise user row.0)
      ∙ ap (λ (l : Users). made_of (λ (_ : ShownStream). one_of (PeerAdd row.0) (keys_of (gained user_cmp (cond (sees_stream before user row.0) (peers before row.0) []) l))) (stream_in after user row)) (peers_seen after new_rise user row.0)
      ∙ go (sees_stream after user row.0)
    where
      go : (b : Bool)
          → made_of (λ (_ : ShownStream). one_of (PeerAdd row.0) (keys_of (gained user_cmp (cond (sees_stream before user row.0) (peers before row.0) []) (cond b (peers after row.0) [])))) (only_if b (Some (shown_stream row.1)))
          ≡ one_of (PeerAdd row.0) (keys_of (gained_peers (sees_stream before user row.0) b (peers before row.0) (peers after row.0)))
      go true = refl
      go false = refl

  removed_row : (row : StreamId × Stream)
      → made_of (λ (_ : ShownStream). peers_removed (subscribers before user) (subscribers after user) row.0) (stream_in after user row)
      ≡ one_of (PeerRemove row.0) (keys_of (lost_under row.0))
  removed_row row =
      ap (λ (l : Users). made_of (λ (_ : ShownStream). one_of (PeerRemove row.0) (keys_of (gained user_cmp (peers_of row.0 (subscribers after user)) l))) (stream_in after user row)) (peers_seen before old_rise user row.0)
      ∙ ap (λ (l : Users). made_of (λ (_ : ShownStream). one_of (PeerRemove row.0) (keys_of (gained user_cmp l (cond (sees_stream before user row.0) (peers before row.0) [])))) (stream_in after user row)) (peers_seen after new_rise user row.0)
      ∙ go (sees_stream after user row.0)
    where
      go : (b : Bool)
          → made_of (λ (_ : ShownStream). one_of (PeerRemove row.0) (keys_of (gained user_cmp (cond b (peers after row.0) []) (cond (sees_stream before user row.0) (peers before row.0) [])))) (only_if b (Some (shown_stream row.1)))
          ≡ one_of (PeerRemove row.0) (keys_of (lost_peers (sees_stream before user row.0) b (peers before row.0) (peers after row.0)))
      go true = refl
      go false = refl

  pub peers_change : peer_events (view_of before user) (view_of after user) ≡ peers_by_stream
  peers_change =
      let add = peers_added (subscribers before user) (subscribers after user) in
      let remove = peers_removed (subscribers before user) (subscribers after user) in
      ap (λ (l : List Event). l ++ flat_map remove (keys_of (streams after user))) (flat_map_keys add (stream_in after user) after.streams ∙ flat_map_same _ _ added_row after.streams)
      ∙ ap (λ (l : List Event). flat_map (λ row. one_of (PeerAdd row.0) (keys_of (gained_under row.0))) after.streams ++ l) (flat_map_keys remove (stream_in after user) after.streams ∙ flat_map_same _ _ removed_row after.streams)
