-- What a change of one user's row makes of the users that are shown, of roles and of subscribers.
use Rattle.std.proofs.Common.{◌≡◌, Bool, true, false, ◌&&◌, cond, List, [], map, Option, None, Some, option_map, option_and_then, sym, ap, refl, ◌∙◌, append-nil}
use Rattle.std.specs.BTreeMap.{is_at}
use Rattle.ev_rows.specs.Rows.{AgreeBut, SortedByKey, events_at, made_of, only_if, row_at, sift}
use Rattle.ev_rows.proofs.RiseLemmas.{rise-sift}
use Rattle.ev_rows.proofs.RowLemmas.{AgreeBut-sift, at_itself, row_at-sift, same_rows}
use Rattle.ev_rows.proofs.ChangeLemmas.{keyed_at}
use Rattle.ev_base.specs.Orders.{user_cmp, user_order}
use Rattle.ev_base.specs.declared.ids.UserId.{UserId}
use Rattle.ev_base.specs.declared.ids.StreamId.{StreamId}
use Rattle.ev_types.specs.Changes.{user_changes, user_events}
use Rattle.ev_types.specs.declared.event.Event.{Event}
use Rattle.ev_types.specs.declared.event.Event.TheVariants.{UserAdd}
use Rattle.ev_types.specs.declared.rows.ShownUser.{ShownUser}
use Rattle.zr_types.specs.declared.people.User.{User}
use Rattle.zr_types.specs.Effects.{with_user}
use Rattle.zr_types.specs.Tables.{Tables, user_at}
use Rattle.zr_types.specs.Visibility.{is_subscribed, role_of}
use Rattle.zr_types.proofs.ChangedRows.{rise-changed_at, row_at-changed_at}
use Rattle.zw_views.specs.Views.{peers, realm_users, shown_user}
use Rattle.zw_views.proofs.ViewLemmas.{users_are_sifted}
use Rattle.nt_rules.proofs.FieldsStay.{user_stays}

abbrev Rows : Type 0
Rows = List (UserId × User)

-- users, all of them shown
abbrev pub shown_users : Rows → List (UserId × ShownUser)
shown_users rows = sift (λ row. Some (shown_user row.1)) rows

rise_shown : (rows : Rows) → SortedByKey user_cmp rows → SortedByKey user_cmp (shown_users rows)
rise_shown rows rise = rise-sift user_cmp (λ row. Some (shown_user row.1)) rows rise

at_shown : (rows : Rows) → SortedByKey user_cmp rows → (q : UserId) → row_at user_cmp (shown_users rows) q ≡ option_map shown_user (row_at user_cmp rows q)
at_shown rows rise q = row_at-sift user_order (λ row. Some (shown_user row.1)) rows q rise ∙ go (row_at user_cmp rows q)
  where
    go : (o : Option User) → option_and_then (λ row. Some (shown_user row)) o ≡ option_map shown_user o
    go None = refl
    go (Some row) = refl

abbrev pub events_of_row : UserId → Option ShownUser → Option ShownUser → List Event
events_of_row user old new = events_at (map (λ row. UserAdd row.0 row.1)) user_changes (λ _. []) user old new

module _ (before after : Tables) (old_rise : SortedByKey user_cmp before.users) (new_rise : SortedByKey user_cmp after.users) (user : UserId) (agree : AgreeBut user_cmp user before.users after.users) where
  -- the events of a change of one row
  pub one_user : user_events (realm_users before) (realm_users after) ≡ events_of_row user (option_map shown_user (user_at before user)) (option_map shown_user (user_at after user))
  one_user =
      ap (λ rows. user_events rows (realm_users after)) (users_are_sifted before)
      ∙ ap (λ rows. user_events (shown_users before.users) rows) (users_are_sifted after)
      ∙ keyed_at user_order (map (λ row. UserAdd row.0 row.1)) user_changes (λ _. []) user_stays (shown_users before.users) (shown_users after.users) user
      (rise_shown before.users old_rise) (rise_shown after.users new_rise)
      (AgreeBut-sift user_order (λ row. Some (shown_user row.1)) (λ row. Some (shown_user row.1)) before.users after.users user old_rise new_rise agree (λ q v off. refl))
      ∙ ap (λ o. events_of_row user o (row_at user_cmp (shown_users after.users) user)) (at_shown before.users old_rise user)
      ∙ ap (λ o. events_of_row user (option_map shown_user (user_at before user)) o) (at_shown after.users new_rise user)

module _ (tables : Tables) (rise : SortedByKey user_cmp tables.users) (user : UserId) (change : User → User) where
  abbrev after : Tables
  after = with_user tables user change

  pub changed_rise : SortedByKey user_cmp after.users
  changed_rise = rise-changed_at user_order user change tables.users rise

  pub changed_cell : (q : UserId) → user_at after q ≡ cond (is_at (user_cmp q) user) (option_map change (user_at tables q)) (user_at tables q)
  changed_cell q = row_at-changed_at user_order user change tables.users q

  pub changed_agrees : AgreeBut user_cmp user tables.users after.users
  changed_agrees q off = changed_cell q ∙ rw off refl

  pub changed_here : user_at after user ≡ option_map change (user_at tables user)
  changed_here = changed_cell user ∙ rw (at_itself user_order user) refl

  -- what is told of the row
  pub changed_user : user_events (realm_users tables) (realm_users after) ≡ made_of (λ row. user_changes (user, (shown_user row, shown_user (change row)))) (user_at tables user)
  changed_user =
      one_user tables after rise changed_rise user changed_agrees
      ∙ ap (λ o. events_of_row user (option_map shown_user (user_at tables user)) (option_map shown_user o)) changed_here
      ∙ go (user_at tables user)
    where
      go : (o : Option User) → events_of_row user (option_map shown_user o) (option_map shown_user (option_map change o)) ≡ made_of (λ row. user_changes (user, (shown_user row, shown_user (change row)))) o
      go None = refl
      go (Some row) = append-nil (user_changes (user, (shown_user row, shown_user (change row))))

  -- a change that keeps the role leaves all roles
  pub same_roles : ((row : User) → (change row).role ≡ row.role) → (q : UserId) → role_of after q ≡ role_of tables q
  same_roles keeps q = ap (option_map (λ row. row.role)) (changed_cell q) ∙ go (is_at (user_cmp q) user) (user_at tables q)
    where
      go : (b : Bool) (o : Option User) → option_map (λ row. row.role) (cond b (option_map change o) o) ≡ option_map (λ row. row.role) o
      go true None = refl
      go true (Some row) = ap Some (keeps row)
      go false o = refl

  abbrev peer_cell : StreamId → UserId × User → Option (Unit {0})
  peer_cell stream row = only_if (row.1.is_active && is_subscribed tables row.0 stream) (Some (tt {0}))

  pub peer_at : (stream : StreamId) (q : UserId) → row_at user_cmp (peers after stream) q
      ≡ option_and_then (λ row. peer_cell stream (q, row)) (cond (is_at (user_cmp q) user) (option_map change (user_at tables q)) (user_at tables q))
  peer_at stream q = row_at-sift user_order (peer_cell stream) after.users q changed_rise ∙ ap (option_and_then (λ row. peer_cell stream (q, row))) (changed_cell q)

  -- a change that keeps whether the user is active leaves all subscribers
  pub same_peers : ((row : User) → (change row).is_active ≡ row.is_active) → (stream : StreamId) → peers after stream ≡ peers tables stream
  same_peers keeps stream =
      same_rows user_order (peers after stream) (peers tables stream) (rise-sift user_cmp (peer_cell stream) after.users changed_rise) (rise-sift user_cmp (peer_cell stream) tables.users rise)
      (λ q. peer_at stream q ∙ go q (is_at (user_cmp q) user) (user_at tables q) ∙ sym (row_at-sift user_order (peer_cell stream) tables.users q rise))
    where
      go : (q : UserId) (b : Bool) (o : Option User) → option_and_then (λ row. peer_cell stream (q, row)) (cond b (option_map change o) o) ≡ option_and_then (λ row. peer_cell stream (q, row)) o
      go q true None = refl
      go q true (Some row) = ap (λ (active : Bool). only_if (active && is_subscribed tables q stream) (Some (tt {0}))) (keeps row)
      go q false o = refl
