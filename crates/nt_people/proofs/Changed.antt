-- Changes of one user's row: of a field that all see, of the role, and of whether the user is active.
use Rattle.std.proofs.Common.{◌≡◌, ℕ, ◌==◌, bytes_eq, Bool, true, false, not, ◌&&◌, cond, List, [], ◌∷◌, ◌++◌, flat_map, Option, None, Some, is_some, option_map, option_and_then, sym, ap, refl, ◌∙◌, append-nil}
use Rattle.std.proofs.Math.Bool.{beq}
use Rattle.std.specs.BTreeMap.{is_at}
use Rattle.ev_rows.specs.Rows.{AgreeBut, SortedByKey, fresh, gained, keys_of, made_of, one_of, one_row, only_if, row_at}
use Rattle.ev_rows.proofs.RiseLemmas.{rise-sift}
use Rattle.ev_rows.proofs.RowLemmas.{at_same, row_at-sift}
use Rattle.ev_rows.proofs.ChangeLemmas.{gained_at}
use Rattle.ev_base.specs.Orders.{user_cmp, user_order}
use Rattle.ev_base.specs.declared.ids.UserId.{UserId}
use Rattle.ev_base.specs.declared.ids.StreamId.{StreamId}
use Rattle.ev_base.specs.declared.kinds.Role.{Role}
use Rattle.ev_types.specs.Changes.{changes_between, stream_events, unless, user_changes}
use Rattle.ev_types.specs.declared.event.Event.{Event}
use Rattle.ev_types.specs.declared.event.Event.TheVariants.{PeerAdd, PeerRemove, StreamCreate, StreamDelete, UserChange}
use Rattle.ev_types.specs.declared.event.UserField.TheVariants as user_field
use Rattle.ev_types.specs.declared.notice.Audience.TheVariants.{Everyone, Only}
use Rattle.ev_types.specs.declared.notice.Part.{Part}
use Rattle.nt_people.specs.PeopleParts.{active_parts, message_sight, name_parts, opened, peer_part, role_parts, stream_sight}
use Rattle.nt_people.proofs.SightShift.{message_shift, no_subscription, nothing, quiet, shifted, stream_shift}
use Rattle.nt_people.proofs.Still.{nothing_opens, same_messages, same_streams}
use Rattle.nt_people.proofs.UserRows.{changed_cell, changed_here, changed_rise, changed_user, peer_at, same_peers, same_roles}
use Rattle.nt_rules.specs.Parts.{gained_peers, heard_of, lost_peers, to, viewers}
use Rattle.nt_rules.proofs.Alike.{either_way}
use Rattle.nt_rules.proofs.FieldsStay.{realm_stays, same_bool, same_number, same_text}
use Rattle.nt_rules.proofs.Heard.{has_one, has_viewers, heard_both, heard_each, heard_to}
use Rattle.nt_rules.proofs.PeerChanges.{flat_map_same, peers_change}
use Rattle.nt_rules.proofs.Six.{six}
use Rattle.ev_base.specs.Roles.{role_number}
use Rattle.zr_types.specs.declared.people.User.{User}
use Rattle.zr_types.specs.declared.streams.Stream.{Stream}
use Rattle.zr_types.specs.Effects.{changed_at, with_user}
use Rattle.zr_types.specs.Sound.{TablesSorted}
use Rattle.zr_types.specs.Tables.{Tables, stream_at, user_at}
use Rattle.zr_types.specs.Visibility.{is_subscribed, role_of, sees_by, sees_stream}
use Rattle.zw_views.specs.Views.{peers, shown_realm, shown_user, view_of}

abbrev nobody_there : List (UserId × Unit {0})
nobody_there = []

module _ (tables : Tables) (rise : TablesSorted tables) (user : UserId) (change : User → User) (hearer : UserId) where
  abbrev after : Tables
  after = with_user tables user change

  after_rise : SortedByKey user_cmp (changed_at user_cmp user change tables.users)
  after_rise = changed_rise tables rise.users user change

  -- nobody comes or goes
  same_there : is_some (role_of after hearer) ≡ is_some (role_of tables hearer)
  same_there = ap (λ o. is_some (option_map (λ (row : User). row.role) o)) (changed_cell tables rise.users user change hearer) ∙ go (is_at (user_cmp hearer) user) (user_at tables hearer)
    where
      go : (b : Bool) (o : Option User) → is_some (option_map (λ (row : User). row.role) (cond b (option_map change o) o)) ≡ is_some (option_map (λ (row : User). row.role) o)
      go true None = refl
      go true (Some row) = refl
      go false o = refl

  abbrev told : User → List Event
  told row = user_changes (user, (shown_user row, shown_user (change row)))

  abbrev sight : Option Role → Option Role → List Event
  sight old new = stream_sight tables hearer old new ++ message_sight tables hearer old new

  no_sight : (old new : Option Role) → new ≡ old → sight old new ≡ []
  no_sight old new same = ap (sight old) same ∙ rw (same_streams tables hearer old, same_messages tables hearer old) refl

  -- of a change that keeps whether the user is active
  changed : ((row : User) → (change row).is_active ≡ row.is_active)
      → changes_between (view_of tables hearer) (view_of after hearer) ≡ made_of told (user_at tables user) ++ sight (role_of tables hearer) (role_of after hearer)
  changed keeps =
      shifted tables rise (changed_at user_cmp user change tables.users) after_rise hearer (same_peers tables rise.users user change keeps) (λ stream is. same_there) (λ message is. same_there)
      ∙ ap (λ l. l ++ sight (role_of tables hearer) (role_of after hearer)) (changed_user tables rise.users user change)

  -- a change that keeps the role too is told to everyone
  pub change_told : (parts : User → List Part) → ((row : User) → heard_of hearer (parts row) ≡ told row)
      → ((row : User) → (change row).is_active ≡ row.is_active) → ((row : User) → (change row).role ≡ row.role)
      → heard_of hearer (made_of parts (user_at tables user)) ≡ changes_between (view_of tables hearer) (view_of after hearer)
  change_told parts heard keeps_active keeps_role =
      go (user_at tables user)
      ∙ sym (append-nil (made_of told (user_at tables user)))
      ∙ ap (λ l. made_of told (user_at tables user) ++ l) (sym (no_sight (role_of tables hearer) (role_of after hearer) (same_roles tables rise.users user change keeps_role hearer)))
      ∙ sym (changed keeps_active)
    where
      go : (o : Option User) → heard_of hearer (made_of parts o) ≡ made_of told o
      go None = refl
      go (Some row) = heard row

  -- the subscribers of a stream may be changed at the user alone
  abbrev cell : StreamId → Option User → Option (Unit {0})
  cell stream o = option_and_then (λ row. only_if (row.is_active && is_subscribed tables user stream) (Some (tt {0}))) o

  abbrev peer_test : StreamId → UserId × User → Option (Unit {0})
  peer_test stream row = only_if (row.1.is_active && is_subscribed tables row.0 stream) (Some (tt {0}))

  old_rise : (stream : StreamId) → SortedByKey user_cmp (peers tables stream)
  old_rise stream = rise-sift user_cmp (peer_test stream) tables.users rise.users

  new_rise : (stream : StreamId) → SortedByKey user_cmp (peers after stream)
  new_rise stream = rise-sift user_cmp (peer_test stream) (changed_at user_cmp user change tables.users) after_rise

  old_cell : (stream : StreamId) (q : UserId) → row_at user_cmp (peers tables stream) q ≡ option_and_then (λ row. peer_test stream (q, row)) (user_at tables q)
  old_cell stream q = row_at-sift user_order (peer_test stream) tables.users q rise.users

  new_cell : (stream : StreamId) → row_at user_cmp (peers after stream) user ≡ cell stream (option_map change (user_at tables user))
  new_cell stream =
      row_at-sift user_order (peer_test stream) (changed_at user_cmp user change tables.users) user after_rise
      ∙ ap (cell stream) (changed_here tables rise.users user change)

  peers_agree : (stream : StreamId) → AgreeBut user_cmp user (peers tables stream) (peers after stream)
  peers_agree stream q off =
      peer_at tables rise.users user change stream q
      ∙ ap (λ b. option_and_then (λ row. peer_test stream (q, row)) (cond b (option_map change (user_at tables q)) (user_at tables q))) off
      ∙ sym (old_cell stream q)

  gained_peer : (stream : StreamId) → gained user_cmp (peers tables stream) (peers after stream) ≡ one_row user (fresh (cell stream (user_at tables user)) (cell stream (option_map change (user_at tables user))))
  gained_peer stream =
      gained_at user_order (peers tables stream) (peers after stream) user (new_rise stream) (peers_agree stream)
      ∙ ap (λ o. one_row user (fresh o (row_at user_cmp (peers after stream) user))) (old_cell stream user)
      ∙ ap (λ o. one_row user (fresh (cell stream (user_at tables user)) o)) (new_cell stream)

  lost_peer : (stream : StreamId) → gained user_cmp (peers after stream) (peers tables stream) ≡ one_row user (fresh (cell stream (option_map change (user_at tables user))) (cell stream (user_at tables user)))
  lost_peer stream =
      gained_at user_order (peers after stream) (peers tables stream) user (old_rise stream) (λ q off. sym (peers_agree stream q off))
      ∙ ap (λ o. one_row user (fresh o (row_at user_cmp (peers tables stream) user))) (new_cell stream)
      ∙ ap (λ o. one_row user (fresh (cell stream (option_map change (user_at tables user))) o)) (old_cell stream user)

  abbrev turn : (StreamId → List UserId → Event) → Option (Unit {0}) → Option (Unit {0}) → StreamId → List Event
  turn make old new stream = one_of (make stream) (keys_of (cond (sees_stream tables hearer stream) (one_row user (fresh old new)) []))

  abbrev added : Option User → StreamId × Stream → List Event
  added o row = turn PeerAdd (cell row.0 o) (cell row.0 (option_map change o)) row.0

  abbrev removed : Option User → StreamId × Stream → List Event
  removed o row = turn PeerRemove (cell row.0 (option_map change o)) (cell row.0 o) row.0

  module _ (keeps : (row : User) → (change row).role ≡ row.role) where
    same_role : role_of after hearer ≡ role_of tables hearer
    same_role = same_roles tables rise.users user change keeps hearer

    same_sight : (stream : StreamId) → sees_stream after hearer stream ≡ sees_stream tables hearer stream
    same_sight stream = ap (λ role. sees_by role (stream_at tables stream) (is_subscribed tables hearer stream)) same_role

    added_peer : (row : StreamId × Stream)
        → one_of (PeerAdd row.0) (keys_of (gained_peers (sees_stream tables hearer row.0) (sees_stream after hearer row.0) (peers tables row.0) (peers after row.0))) ≡ added (user_at tables user) row
    added_peer row =
        ap (λ b. one_of (PeerAdd row.0) (keys_of (gained_peers (sees_stream tables hearer row.0) b (peers tables row.0) (peers after row.0)))) (same_sight row.0)
        ∙ go (sees_stream tables hearer row.0)
        ∙ ap (λ rows. one_of (PeerAdd row.0) (keys_of (cond (sees_stream tables hearer row.0) rows []))) (gained_peer row.0)
      where
        go : (b : Bool) → one_of (PeerAdd row.0) (keys_of (gained_peers b b (peers tables row.0) (peers after row.0)))
            ≡ one_of (PeerAdd row.0) (keys_of (cond b (gained user_cmp (peers tables row.0) (peers after row.0)) []))
        go true = refl
        go false = refl

    removed_peer : (row : StreamId × Stream)
        → one_of (PeerRemove row.0) (keys_of (lost_peers (sees_stream tables hearer row.0) (sees_stream after hearer row.0) (peers tables row.0) (peers after row.0))) ≡ removed (user_at tables user) row
    removed_peer row =
        ap (λ b. one_of (PeerRemove row.0) (keys_of (lost_peers (sees_stream tables hearer row.0) b (peers tables row.0) (peers after row.0)))) (same_sight row.0)
        ∙ go (sees_stream tables hearer row.0)
        ∙ ap (λ rows. one_of (PeerRemove row.0) (keys_of (cond (sees_stream tables hearer row.0) rows []))) (lost_peer row.0)
      where
        go : (b : Bool) → one_of (PeerRemove row.0) (keys_of (lost_peers b b (peers tables row.0) (peers after row.0)))
            ≡ one_of (PeerRemove row.0) (keys_of (cond b (gained user_cmp (peers after row.0) (peers tables row.0)) []))
        go true = refl
        go false = refl

    no_stream : stream_events (view_of tables hearer).streams (view_of after hearer).streams ≡ []
    no_stream =
        stream_shift tables rise (changed_at user_cmp user change tables.users) after_rise hearer
        ∙ ap (λ role. one_of StreamCreate (opened tables hearer (role_of tables hearer) role) ++ one_of StreamDelete (keys_of (opened tables hearer role (role_of tables hearer)))) same_role
        ∙ ap (λ rows. one_of StreamCreate rows ++ one_of StreamDelete (keys_of rows)) (nothing_opens tables hearer (role_of tables hearer))

    -- of a change that keeps the role
    changed_peers : changes_between (view_of tables hearer) (view_of after hearer)
        ≡ made_of told (user_at tables user) ++ (flat_map (added (user_at tables user)) tables.streams ++ flat_map (removed (user_at tables user)) tables.streams)
    changed_peers =
        six (view_of tables hearer) (view_of after hearer) (realm_stays (shown_realm tables.realm)) (changed_user tables rise.users user change) no_stream
        (no_subscription tables rise (changed_at user_cmp user change tables.users) after_rise hearer (λ stream is. same_there))
        (peers_change tables after rise.streams rise.streams hearer
        ∙ ap (λ (l : List Event). l ++ flat_map (λ row. one_of (PeerRemove row.0) (keys_of (lost_peers (sees_stream tables hearer row.0) (sees_stream after hearer row.0) (peers tables row.0) (peers after row.0)))) tables.streams) (flat_map_same _ (added (user_at tables user)) added_peer tables.streams)
        ∙ ap (λ (l : List Event). flat_map (added (user_at tables user)) tables.streams ++ l) (flat_map_same _ (removed (user_at tables user)) removed_peer tables.streams))
        (message_shift tables rise (changed_at user_cmp user change tables.users) after_rise hearer (λ message is. same_there)
        ∙ ap (message_sight tables hearer (role_of tables hearer)) same_role ∙ same_messages tables hearer (role_of tables hearer))
        ∙ together (made_of told (user_at tables user)) (flat_map (added (user_at tables user)) tables.streams ++ flat_map (removed (user_at tables user)) tables.streams)
      where
        together : (a b : List Event) → [] ++ a ++ [] ++ [] ++ b ++ [] ≡ a ++ b
        together a b = append-nil (((a ++ []) ++ []) ++ b) ∙ ap (λ l. l ++ b) (append-nil (a ++ []) ∙ append-nil a)

-- the user becomes active, or no longer is
module _ (tables : Tables) (rise : TablesSorted tables) (user : UserId) (is_active : Bool) (hearer : UserId) where
  abbrev turned : User → User
  turned row = record row { is_active = is_active }

  told_active : (row : User) → user_changes (user, (shown_user row, shown_user (turned row))) ≡ unless (beq row.is_active is_active) (UserChange user (user_field.IsActive is_active))
  told_active row = rw (same_text row.full_name, same_number (role_number row.role)) refl

  abbrev seen : Event → StreamId → List Event
  seen event stream = cond (is_subscribed tables user stream) (cond (sees_stream tables hearer stream) (event ∷ []) []) []

  heard_peer : (row : StreamId × Stream) → heard_of hearer (peer_part tables user is_active row) ≡ seen (cond is_active (PeerAdd row.0 (user ∷ [])) (PeerRemove row.0 (user ∷ []))) row.0
  heard_peer row = go (is_subscribed tables user row.0)
    where
      go : (b : Bool) → heard_of hearer (cond b (to (Only (keys_of (viewers tables row.0))) (cond is_active (PeerAdd row.0 (user ∷ [])) (PeerRemove row.0 (user ∷ [])) ∷ [])) [])
          ≡ cond b (cond (sees_stream tables hearer row.0) (cond is_active (PeerAdd row.0 (user ∷ [])) (PeerRemove row.0 (user ∷ [])) ∷ []) []) []
      go true =
          heard_to hearer (Only (keys_of (viewers tables row.0))) (cond is_active (PeerAdd row.0 (user ∷ [])) (PeerRemove row.0 (user ∷ [])) ∷ [])
          ∙ ap (λ b. cond b (cond is_active (PeerAdd row.0 (user ∷ [])) (PeerRemove row.0 (user ∷ [])) ∷ []) []) (has_viewers hearer tables rise.users row.0)
      go false = refl

  -- what one turn of a cell makes
  cell_adds : (stream : StreamId) (a v sub sees : Bool)
      → one_of (PeerAdd stream) (keys_of (cond sees (one_row user (fresh (only_if (a && sub) (Some (tt {0}))) (only_if (v && sub) (Some (tt {0}))))) []))
      ≡ cond (not a && v) (cond sub (cond sees (PeerAdd stream (user ∷ []) ∷ []) []) []) []
  cell_adds stream true true true true = refl
  cell_adds stream true true true false = refl
  cell_adds stream true true false true = refl
  cell_adds stream true true false false = refl
  cell_adds stream true false true true = refl
  cell_adds stream true false true false = refl
  cell_adds stream true false false true = refl
  cell_adds stream true false false false = refl
  cell_adds stream false true true true = refl
  cell_adds stream false true true false = refl
  cell_adds stream false true false true = refl
  cell_adds stream false true false false = refl
  cell_adds stream false false true true = refl
  cell_adds stream false false true false = refl
  cell_adds stream false false false true = refl
  cell_adds stream false false false false = refl

  cell_removes : (stream : StreamId) (a v sub sees : Bool)
      → one_of (PeerRemove stream) (keys_of (cond sees (one_row user (fresh (only_if (v && sub) (Some (tt {0}))) (only_if (a && sub) (Some (tt {0}))))) []))
      ≡ cond (a && not v) (cond sub (cond sees (PeerRemove stream (user ∷ []) ∷ []) []) []) []
  cell_removes stream true true true true = refl
  cell_removes stream true true true false = refl
  cell_removes stream true true false true = refl
  cell_removes stream true true false false = refl
  cell_removes stream true false true true = refl
  cell_removes stream true false true false = refl
  cell_removes stream true false false true = refl
  cell_removes stream true false false false = refl
  cell_removes stream false true true true = refl
  cell_removes stream false true true false = refl
  cell_removes stream false true false true = refl
  cell_removes stream false true false false = refl
  cell_removes stream false false true true = refl
  cell_removes stream false false true false = refl
  cell_removes stream false false false true = refl
  cell_removes stream false false false false = refl

  -- where the user was as active before, nothing is told
  added_now : (row : User) (at : StreamId × Stream) → added tables rise user turned hearer (Some row) at ≡ cond (not row.is_active && is_active) (seen (PeerAdd at.0 (user ∷ [])) at.0) []
  added_now row at = cell_adds at.0 row.is_active is_active (is_subscribed tables user at.0) (sees_stream tables hearer at.0)

  removed_now : (row : User) (at : StreamId × Stream) → removed tables rise user turned hearer (Some row) at ≡ cond (row.is_active && not is_active) (seen (PeerRemove at.0 (user ∷ [])) at.0) []
  removed_now row at = cell_removes at.0 row.is_active is_active (is_subscribed tables user at.0) (sees_stream tables hearer at.0)

  abbrev adds : StreamId × Stream → List Event
  adds at = seen (PeerAdd at.0 (user ∷ [])) at.0

  abbrev removes : StreamId × Stream → List Event
  removes at = seen (PeerRemove at.0 (user ∷ [])) at.0

  -- of a flag before and a flag afterwards: what is heard is what changed
  by_flags : (was : Bool) → (here : (at : StreamId × Stream) → heard_of hearer (peer_part tables user is_active at) ≡ seen (cond is_active (PeerAdd at.0 (user ∷ [])) (PeerRemove at.0 (user ∷ []))) at.0)
      → heard_of hearer (cond (beq was is_active) [] (to Everyone (UserChange user (user_field.IsActive is_active) ∷ []) ++ flat_map (peer_part tables user is_active) tables.streams))
      ≡ unless (beq was is_active) (UserChange user (user_field.IsActive is_active))
      ++ (flat_map (λ at. cond (not was && is_active) (adds at) []) tables.streams ++ flat_map (λ at. cond (was && not is_active) (removes at) []) tables.streams)
  by_flags was here = go was is_active
      (heard_both hearer (to Everyone (UserChange user (user_field.IsActive is_active) ∷ [])) (flat_map (peer_part tables user is_active) tables.streams)
      ∙ ap (λ l. UserChange user (user_field.IsActive is_active) ∷ l) (heard_each hearer (peer_part tables user is_active) tables.streams ∙ flat_map_same _ _ here tables.streams))
    where
      go : (was now : Bool)
          → heard_of hearer (to Everyone (UserChange user (user_field.IsActive is_active) ∷ []) ++ flat_map (peer_part tables user is_active) tables.streams)
          ≡ UserChange user (user_field.IsActive is_active) ∷ flat_map (λ at. seen (cond now (PeerAdd at.0 (user ∷ [])) (PeerRemove at.0 (user ∷ []))) at.0) tables.streams
          → heard_of hearer (cond (beq was now) [] (to Everyone (UserChange user (user_field.IsActive is_active) ∷ []) ++ flat_map (peer_part tables user is_active) tables.streams))
          ≡ unless (beq was now) (UserChange user (user_field.IsActive is_active))
          ++ (flat_map (λ at. cond (not was && now) (adds at) []) tables.streams ++ flat_map (λ at. cond (was && not now) (removes at) []) tables.streams)
      go true true heard = sym (ap (λ (l : List Event). l ++ flat_map (quiet {X = StreamId × Stream}) tables.streams) (nothing tables.streams) ∙ nothing tables.streams)
      go false false heard = sym (ap (λ (l : List Event). l ++ flat_map (quiet {X = StreamId × Stream}) tables.streams) (nothing tables.streams) ∙ nothing tables.streams)
      go false true heard = heard ∙ ap (λ l. UserChange user (user_field.IsActive is_active) ∷ l)
          (sym (append-nil (flat_map adds tables.streams)) ∙ ap (λ (l : List Event). flat_map adds tables.streams ++ l) (sym (nothing tables.streams)))
      go true false heard = heard ∙ ap (λ l. UserChange user (user_field.IsActive is_active) ∷ l)
          (ap (λ (l : List Event). l ++ flat_map removes tables.streams) (sym (nothing tables.streams)))

  pub active_told : heard_of hearer (made_of (active_parts tables user is_active) (user_at tables user))
      ≡ changes_between (view_of tables hearer) (view_of (with_user tables user turned) hearer)
  active_told = go (user_at tables user) ∙ sym (changed_peers tables rise user turned hearer (λ row. refl))
    where
      go : (o : Option User) → heard_of hearer (made_of (active_parts tables user is_active) o)
          ≡ made_of (λ row. user_changes (user, (shown_user row, shown_user (turned row)))) o
          ++ (flat_map (added tables rise user turned hearer o) tables.streams ++ flat_map (removed tables rise user turned hearer o) tables.streams)
      go None =
          sym (ap (λ (l : List Event). l ++ flat_map (removed tables rise user turned hearer None) tables.streams)
          (flat_map_same (added tables rise user turned hearer None) quiet (λ at. nobody (PeerAdd at.0) (sees_stream tables hearer at.0)) tables.streams ∙ nothing tables.streams)
          ∙ flat_map_same (removed tables rise user turned hearer None) quiet (λ at. nobody (PeerRemove at.0) (sees_stream tables hearer at.0)) tables.streams ∙ nothing tables.streams)
        where
          nobody : (make : List UserId → Event) (b : Bool) → one_of make (keys_of (cond b nobody_there nobody_there)) ≡ []
          nobody make true = refl
          nobody make false = refl
      go (Some row) =
          by_flags row.is_active heard_peer
          ∙ ap (λ (l : List Event). l ++ (flat_map (λ at. cond (not row.is_active && is_active) (adds at) []) tables.streams ++ flat_map (λ at. cond (row.is_active && not is_active) (removes at) []) tables.streams)) (sym (told_active row))
          ∙ ap (λ (l : List Event). user_changes (user, (shown_user row, shown_user (turned row))) ++ (l ++ flat_map (λ at. cond (row.is_active && not is_active) (removes at) []) tables.streams)) (flat_map_same _ _ (λ at. sym (added_now row at)) tables.streams)
          ∙ ap (λ (l : List Event). user_changes (user, (shown_user row, shown_user (turned row))) ++ (flat_map (added tables rise user turned hearer (Some row)) tables.streams ++ l)) (flat_map_same _ _ (λ at. sym (removed_now row at)) tables.streams)

-- the user gets another role
module _ (tables : Tables) (rise : TablesSorted tables) (user : UserId) (role : Role) (hearer : UserId) where
  abbrev in_role : User → User
  in_role row = record row { role = role }

  role_cell : role_of (with_user tables user in_role) hearer ≡ cond (is_at (user_cmp hearer) user) (option_map (λ (row : User). role) (user_at tables hearer)) (role_of tables hearer)
  role_cell = ap (option_map (λ (row : User). row.role)) (changed_cell tables rise.users user in_role hearer) ∙ go (is_at (user_cmp hearer) user) (user_at tables hearer)
    where
      go : (b : Bool) (o : Option User) → option_map (λ (row : User). row.role) (cond b (option_map in_role o) o) ≡ cond b (option_map (λ (row : User). role) o) (option_map (λ (row : User). row.role) o)
      go true None = refl
      go true (Some row) = refl
      go false o = refl

  abbrev own_sight : UserId → Option Role → Option Role → List Event
  own_sight reader old new = stream_sight tables reader old new ++ message_sight tables reader old new

  abbrev role_change : User → List Event
  role_change row = unless (role_number row.role == role_number role) (UserChange user (user_field.Role role))

  told_role : (row : User) → told tables rise user in_role hearer row ≡ role_change row
  told_role row = rw (same_text row.full_name, same_bool row.is_active) (append-nil (role_change row))

  -- only the user's own sight changes
  seen_by : (b : Bool) → is_at (user_cmp hearer) user ≡ b
      → own_sight hearer (role_of tables hearer) (cond b (option_map (λ (row : User). role) (user_at tables hearer)) (role_of tables hearer))
      ≡ cond b (own_sight user (role_of tables user) (option_map (λ (row : User). role) (user_at tables user))) []
  seen_by true at = ap (λ reader. own_sight reader (role_of tables reader) (option_map (λ (row : User). role) (user_at tables reader))) (at_same user_order hearer user at)
  seen_by false off = no_sight tables rise user in_role hearer (role_of tables hearer) (role_of tables hearer) refl

  pub role_told : heard_of hearer (made_of (role_parts tables user role) (user_at tables user))
      ≡ changes_between (view_of tables hearer) (view_of (with_user tables user in_role) hearer)
  role_told =
      go (user_at tables user)
      ∙ ap (λ l. made_of (told tables rise user in_role hearer) (user_at tables user) ++ l) (sym (seen_by (is_at (user_cmp hearer) user) refl) ∙ ap (own_sight hearer (role_of tables hearer)) (sym role_cell))
      ∙ sym (changed tables rise user in_role hearer (λ row. refl))
    where
      go : (o : Option User) → heard_of hearer (made_of (role_parts tables user role) o)
          ≡ made_of (told tables rise user in_role hearer) o ++ cond (is_at (user_cmp hearer) user) (own_sight user (option_map (λ (row : User). row.role) o) (option_map (λ (row : User). role) o)) []
      go None = either_way (is_at (user_cmp hearer) user) []
          ∙ ap (λ (l : List Event). cond (is_at (user_cmp hearer) user) l []) (sym (no_sight tables rise user in_role user None None refl))
      go (Some row) =
          heard_both hearer (to Everyone (role_change row)) (to (Only (user ∷ [])) (own_sight user (Some row.role) (Some role)))
          ∙ ap (λ l. l ++ heard_of hearer (to (Only (user ∷ [])) (own_sight user (Some row.role) (Some role)))) (heard_to hearer Everyone (role_change row) ∙ sym (told_role row))
          ∙ ap (λ l. told tables rise user in_role hearer row ++ l)
          (heard_to hearer (Only (user ∷ [])) (own_sight user (Some row.role) (Some role)) ∙ ap (λ b. cond b (own_sight user (Some row.role) (Some role)) []) (has_one hearer user))

-- the user gets another name
module _ (tables : Tables) (rise : TablesSorted tables) (user : UserId) (full_name : List ℕ) (hearer : UserId) where
  abbrev named : User → User
  named row = record row { full_name = full_name }

  abbrev name_change : User → List Event
  name_change row = unless (bytes_eq row.full_name full_name) (UserChange user (user_field.FullName full_name))

  told_name : (row : User) → told tables rise user named hearer row ≡ name_change row
  told_name row = rw (same_number (role_number row.role), same_bool row.is_active) (append-nil (name_change row ++ []) ∙ append-nil (name_change row))

  pub name_told : heard_of hearer (made_of (name_parts tables user full_name) (user_at tables user))
      ≡ changes_between (view_of tables hearer) (view_of (with_user tables user named) hearer)
  name_told =
      change_told tables rise user named hearer (name_parts tables user full_name) (λ row. heard_to hearer Everyone (name_change row) ∙ sym (told_name row)) (λ row. refl) (λ row. refl)
