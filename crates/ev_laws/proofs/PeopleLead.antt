-- What changed leads from one view to the other in the sections of the realm, of users, of streams and of subscriptions.
use Rattle.std.proofs.Common.{◌≡◌, ℕ, Bool, true, false, ◌==◌, List, [], ◌∷◌, ◌++◌, map, fold, bytes_eq, Option, None, Some, sym, ap, refl, ◌∙◌}
use Rattle.std.proofs.Math.Bool.{beq}
use Rattle.std.specs.BTreeMap.{is_at}
use Rattle.std.proofs.lemmas.List.Sums.{fold-append}
use Rattle.std.proofs.lemmas.Option.{same_Some}
use Rattle.ev_rows.specs.Rows.{row_at, gained, lost, fresh, keys_of, one_of}
use Rattle.ev_rows.proofs.ChangeLemmas.{row_at-gained, rise-gained}
use Rattle.ev_base.specs.Orders.{user_cmp, user_order, stream_cmp, stream_order}
use Rattle.ev_base.specs.Roles.{role_number}
use Rattle.ev_base.specs.declared.ids.UserId.{UserId}
use Rattle.ev_base.specs.declared.ids.StreamId.{StreamId}
use Rattle.ev_base.specs.declared.kinds.Role.{Role}
use Rattle.ev_types.specs.declared.rows.ShownRealm.{ShownRealm}
use Rattle.ev_types.specs.declared.rows.ShownUser.{ShownUser}
use Rattle.ev_types.specs.declared.rows.ShownStream.{ShownStream}
use Rattle.ev_types.specs.declared.rows.ShownSubscription.{ShownSubscription}
use Rattle.ev_types.specs.declared.event.RealmField.TheVariants as realm_field
use Rattle.ev_types.specs.declared.event.UserField.TheVariants as user_field
use Rattle.ev_types.specs.declared.event.StreamField.TheVariants as stream_field
use Rattle.ev_types.specs.declared.event.SubscriptionField.TheVariants as subscription_field
use Rattle.ev_types.specs.declared.event.Event.{Event}
use Rattle.ev_types.specs.declared.event.Event.TheVariants.{RealmUpdate, UserAdd, UserChange, StreamCreate, StreamChange, StreamDelete, SubAdd, SubChange, SubRemove}
use Rattle.ev_types.specs.Sections.{Sections}
use Rattle.ev_types.specs.Writes.{put, drop_row, cell_after}
use Rattle.ev_types.specs.EventWrites.{realm_after, user_rules, user_writes, stream_rules, stream_writes, subscription_rules, subscription_writes}
use Rattle.ev_types.specs.Applying.{realm_applied, rows_applied}
use Rattle.ev_types.specs.Changes.{unless, realm_changes, user_changes, stream_changes, subscription_changes, changes_between}
use Rattle.ev_types.specs.Comparable.{Comparable}
use Rattle.ev_laws.proofs.Tests.{texts_same, bools_same, roles_same}
use Rattle.ev_laws.proofs.Groups.{quiet_user_changes, quiet_stream_changes, quiet_subscription_changes, quiet_realm, quiet_users, quiet_streams, quiet_subscriptions, quiet_peers, quiet_messages, realm_alone, users_alone, streams_alone, subscriptions_alone}
use Rattle.ev_laws.proofs.Cells.{without, cell_step, rows_lead, cell-puts, cell-drops, cell-unless, fold-one_of, keyed_leads}

-- the realm
realm_name : (same : Bool) (before after : ShownRealm) → (same ≡ true → after.name ≡ before.name)
    → realm_applied (unless same (RealmUpdate (realm_field.Name after.name))) before ≡ record before { name = after.name }
realm_name true before after is = ap (λ (name : List ℕ). record before { name = name }) (sym (is refl))
realm_name false before after is = refl

realm_description : (same : Bool) (before after : ShownRealm) → (same ≡ true → after.description ≡ before.description)
    → realm_applied (unless same (RealmUpdate (realm_field.Description after.description))) before ≡ record before { description = after.description }
realm_description true before after is = ap (λ (description : List ℕ). record before { description = description }) (sym (is refl))
realm_description false before after is = refl

realm_told : (before after : ShownRealm) → realm_applied (realm_changes before after) before ≡ after
realm_told before after =
    fold-append realm_after before (unless (bytes_eq before.name after.name) (RealmUpdate (realm_field.Name after.name))) (unless (bytes_eq before.description after.description) (RealmUpdate (realm_field.Description after.description)))
    ∙ ap (realm_applied (unless (bytes_eq before.description after.description) (RealmUpdate (realm_field.Description after.description))))
    (realm_name (bytes_eq before.name after.name) before after (texts_same before.name after.name))
    ∙ realm_description (bytes_eq before.description after.description) (record before { name = after.name }) after (texts_same before.description after.description)

pub realm_leads : (before after : Sections) → realm_applied (changes_between before after) before.realm ≡ after.realm
realm_leads before after =
    realm_alone realm_after before after before.realm (quiet_users realm_after before after (λ u r c. refl) (λ u f c. refl)) (quiet_streams realm_after before after (λ r c. refl) (λ s f c. refl) (λ s c. refl))
    (quiet_subscriptions realm_after before after (λ r c. refl) (λ s f c. refl) (λ s c. refl)) (quiet_peers realm_after before after (λ s u c. refl) (λ s u c. refl))
    (quiet_messages realm_after before after (λ f c. refl) (λ m c. refl) (λ m s t c. refl) (λ m t c. refl) (λ f c. refl) (λ m u e c. refl) (λ m u e c. refl) (λ m c. refl))
    ∙ realm_told before.realm after.realm

-- users
module _ (q : UserId) where
  abbrev user_step : Option ShownUser → Event → Option ShownUser
  user_step = cell_step user_rules user_writes q

  users_added : (rows : List (UserId × ShownUser)) (cell : Option ShownUser) → fold user_step cell (map (λ row. UserAdd row.0 row.1) rows) ≡ cell_after user_rules q cell (map (λ row. put row.0 row.1) rows)
  users_added [] cell = refl
  users_added (row ∷ rows) cell = users_added rows (user_step cell (UserAdd row.0 row.1))

  user_quiet : (row : UserId × (ShownUser × ShownUser)) (cell : Option ShownUser) → is_at (user_cmp q) row.0 ≡ false → fold user_step cell (user_changes row) ≡ cell
  user_quiet row cell off = (quiet_user_changes user_step row (λ field c. rw off refl)).leaves cell

  user_told : (old new : ShownUser) → new.email ≡ old.email → fold user_step (Some old) (user_changes (q, (old, new))) ≡ Some new
  user_told old new email =
      let name = unless (bytes_eq old.full_name new.full_name) (UserChange q (user_field.FullName new.full_name)) in
      let rank = unless (role_number old.role == role_number new.role) (UserChange q (user_field.Role new.role)) in
      let active = unless (beq old.is_active new.is_active) (UserChange q (user_field.IsActive new.is_active)) in
      fold-append user_step (Some old) (name ++ rank) active
      ∙ ap (λ c. fold user_step c active)
      (fold-append user_step (Some old) name rank
      ∙ ap (λ c. fold user_step c rank)
      (cell-unless user_rules user_order q user_writes (bytes_eq old.full_name new.full_name) (UserChange q (user_field.FullName new.full_name)) (user_field.FullName new.full_name) old refl
      (λ same. ap (λ (full_name : List ℕ). record old { full_name = full_name }) (texts_same old.full_name new.full_name same)))
      ∙ cell-unless user_rules user_order q user_writes (role_number old.role == role_number new.role) (UserChange q (user_field.Role new.role)) (user_field.Role new.role) (record old { full_name = new.full_name }) refl
      (λ same. ap (λ (r : Role). record old { full_name = new.full_name; role = r }) (roles_same old.role new.role same)))
      ∙ cell-unless user_rules user_order q user_writes (beq old.is_active new.is_active) (UserChange q (user_field.IsActive new.is_active)) (user_field.IsActive new.is_active)
      (record old { full_name = new.full_name; role = new.role }) refl
      (λ same. ap (λ (b : Bool). record old { full_name = new.full_name; role = new.role; is_active = b }) (bools_same old.is_active new.is_active same))
      ∙ ap (λ (e : List ℕ). Some (record new { email = e })) (sym email)

module _ (before after : Sections) (comparable : Comparable before after) where
  users_stay : (q : UserId) → row_at user_cmp (lost user_cmp before.realm_users after.realm_users) q ≡ None
  users_stay q =
      row_at-gained user_order after.realm_users before.realm_users comparable.before_coheres.rises.realm_users q ∙ go (row_at user_cmp before.realm_users q) refl
    where
      go : (old : Option ShownUser) → row_at user_cmp before.realm_users q ≡ old → fresh (row_at user_cmp after.realm_users q) old ≡ None
      go None is = none (row_at user_cmp after.realm_users q)
        where
          none : (o : Option ShownUser) → fresh {Y = ShownUser} o None ≡ None
          none None = refl
          none (Some u) = refl
      go (Some old) is = let there = (comparable.users q old is).1 in rw there refl

  pub users_lead : rows_applied user_rules user_writes (changes_between before after) before.realm_users ≡ after.realm_users
  users_lead =
      rows_lead user_rules user_order user_writes (changes_between before after) before.realm_users after.realm_users comparable.before_coheres.rises.realm_users comparable.after_coheres.rises.realm_users
      (λ q.
      users_alone (user_step q) before after (row_at user_cmp before.realm_users q) (quiet_realm (user_step q) before after (λ f c. refl)) (quiet_streams (user_step q) before after (λ r c. refl) (λ s f c. refl) (λ s c. refl))
      (quiet_subscriptions (user_step q) before after (λ r c. refl) (λ s f c. refl) (λ s c. refl)) (quiet_peers (user_step q) before after (λ s u c. refl) (λ s u c. refl))
      (quiet_messages (user_step q) before after (λ f c. refl) (λ m c. refl) (λ m s t c. refl) (λ m t c. refl) (λ f c. refl) (λ m u e c. refl) (λ m u e c. refl) (λ m c. refl))
      ∙ keyed_leads user_order (map (λ row. UserAdd row.0 row.1)) user_changes (λ gone. []) before.realm_users after.realm_users q (user_step q)
      comparable.before_coheres.rises.realm_users comparable.after_coheres.rises.realm_users
      (λ cell. users_added q (gained user_cmp before.realm_users after.realm_users) cell
      ∙ cell-puts user_rules user_order q (gained user_cmp before.realm_users after.realm_users) (rise-gained user_cmp before.realm_users after.realm_users comparable.after_coheres.rises.realm_users) cell)
      (user_quiet q)
      (λ old new old_is new_is. let there = comparable.users q old old_is in user_told q old new (ap (λ (u : ShownUser). u.email) (same_Some new there.0 (sym new_is ∙ there.1)) ∙ there.2))
      (λ cell. ap (λ o. without o cell) (sym (users_stay q))))

-- streams
module _ (q : StreamId) where
  abbrev stream_step : Option ShownStream → Event → Option ShownStream
  stream_step = cell_step stream_rules stream_writes q

  stream_quiet : (row : StreamId × (ShownStream × ShownStream)) (cell : Option ShownStream) → is_at (stream_cmp q) row.0 ≡ false → fold stream_step cell (stream_changes row) ≡ cell
  stream_quiet row cell off = (quiet_stream_changes stream_step row (λ field c. rw off refl)).leaves cell

  stream_told : (old new : ShownStream) → fold stream_step (Some old) (stream_changes (q, (old, new))) ≡ Some new
  stream_told old new =
      let name = unless (bytes_eq old.name new.name) (StreamChange q (stream_field.Name new.name)) in
      let about = unless (bytes_eq old.description new.description) (StreamChange q (stream_field.Description new.description)) in
      let invite = unless (beq old.invite_only new.invite_only) (StreamChange q (stream_field.InviteOnly new.invite_only)) in
      let history = unless (beq old.history_public_to_subscribers new.history_public_to_subscribers) (StreamChange q (stream_field.HistoryPublicToSubscribers new.history_public_to_subscribers)) in
      fold-append stream_step (Some old) (name ++ about ++ invite) history
      ∙ ap (λ c. fold stream_step c history)
      (fold-append stream_step (Some old) (name ++ about) invite
      ∙ ap (λ c. fold stream_step c invite)
      (fold-append stream_step (Some old) name about
      ∙ ap (λ c. fold stream_step c about)
      (cell-unless stream_rules stream_order q stream_writes (bytes_eq old.name new.name) (StreamChange q (stream_field.Name new.name)) (stream_field.Name new.name) old refl
      (λ same. ap (λ (t : List ℕ). record old { name = t }) (texts_same old.name new.name same)))
      ∙ cell-unless stream_rules stream_order q stream_writes (bytes_eq old.description new.description) (StreamChange q (stream_field.Description new.description)) (stream_field.Description new.description) (record old { name = new.name }) refl
      (λ same. ap (λ (t : List ℕ). record old { name = new.name; description = t }) (texts_same old.description new.description same)))
      ∙ cell-unless stream_rules stream_order q stream_writes (beq old.invite_only new.invite_only) (StreamChange q (stream_field.InviteOnly new.invite_only)) (stream_field.InviteOnly new.invite_only)
      (record old { name = new.name; description = new.description }) refl
      (λ same. ap (λ (b : Bool). record old { name = new.name; description = new.description; invite_only = b }) (bools_same old.invite_only new.invite_only same)))
      ∙ cell-unless stream_rules stream_order q stream_writes (beq old.history_public_to_subscribers new.history_public_to_subscribers) (StreamChange q (stream_field.HistoryPublicToSubscribers new.history_public_to_subscribers))
      (stream_field.HistoryPublicToSubscribers new.history_public_to_subscribers) (record new { history_public_to_subscribers = old.history_public_to_subscribers }) refl
      (λ same. ap (λ (b : Bool). record new { history_public_to_subscribers = b }) (bools_same old.history_public_to_subscribers new.history_public_to_subscribers same))

pub streams_lead : (before after : Sections) → Comparable before after → rows_applied stream_rules stream_writes (changes_between before after) before.streams ≡ after.streams
streams_lead before after comparable =
    let rises = comparable.before_coheres.rises.streams in
    let rises_after = comparable.after_coheres.rises.streams in
    rows_lead stream_rules stream_order stream_writes (changes_between before after) before.streams after.streams rises rises_after
    (λ q.
    streams_alone (stream_step q) before after (row_at stream_cmp before.streams q) (quiet_realm (stream_step q) before after (λ f c. refl)) (quiet_users (stream_step q) before after (λ u r c. refl) (λ u f c. refl))
    (quiet_subscriptions (stream_step q) before after (λ r c. refl) (λ s f c. refl) (λ s c. refl)) (quiet_peers (stream_step q) before after (λ s u c. refl) (λ s u c. refl))
    (quiet_messages (stream_step q) before after (λ f c. refl) (λ m c. refl) (λ m s t c. refl) (λ m t c. refl) (λ f c. refl) (λ m u e c. refl) (λ m u e c. refl) (λ m c. refl))
    ∙ keyed_leads stream_order (one_of StreamCreate) stream_changes (λ gone. one_of StreamDelete (keys_of gone)) before.streams after.streams q (stream_step q) rises rises_after
    (λ cell. fold-one_of (stream_step q) StreamCreate (λ rows. cell_after stream_rules q cell (map (λ row. put row.0 row.1) rows)) cell refl (λ rows. refl) (gained stream_cmp before.streams after.streams)
    ∙ cell-puts stream_rules stream_order q (gained stream_cmp before.streams after.streams) (rise-gained stream_cmp before.streams after.streams rises_after) cell)
    (stream_quiet q) (λ old new old_is new_is. stream_told q old new)
    (λ cell. fold-one_of (stream_step q) StreamDelete (λ keys. cell_after stream_rules q cell (map drop_row keys)) cell refl (λ keys. refl) (keys_of (lost stream_cmp before.streams after.streams))
    ∙ cell-drops stream_rules stream_order q (lost stream_cmp before.streams after.streams) cell))

-- subscriptions
module _ (q : StreamId) where
  abbrev subscription_step : Option ShownSubscription → Event → Option ShownSubscription
  subscription_step = cell_step subscription_rules subscription_writes q

  subscription_quiet : (row : StreamId × (ShownSubscription × ShownSubscription)) (cell : Option ShownSubscription) → is_at (stream_cmp q) row.0 ≡ false → fold subscription_step cell (subscription_changes row) ≡ cell
  subscription_quiet row cell off = (quiet_subscription_changes subscription_step row (λ field c. rw off refl)).leaves cell

  subscription_told : (old new : ShownSubscription) → fold subscription_step (Some old) (subscription_changes (q, (old, new))) ≡ Some new
  subscription_told old new =
      let color = unless (bytes_eq old.color new.color) (SubChange q (subscription_field.Color new.color)) in
      let muted = unless (beq old.is_muted new.is_muted) (SubChange q (subscription_field.IsMuted new.is_muted)) in
      let pinned = unless (beq old.pin_to_top new.pin_to_top) (SubChange q (subscription_field.PinToTop new.pin_to_top)) in
      fold-append subscription_step (Some old) (color ++ muted) pinned
      ∙ ap (λ c. fold subscription_step c pinned)
      (fold-append subscription_step (Some old) color muted
      ∙ ap (λ c. fold subscription_step c muted)
      (cell-unless subscription_rules stream_order q subscription_writes (bytes_eq old.color new.color) (SubChange q (subscription_field.Color new.color)) (subscription_field.Color new.color) old refl
      (λ same. ap (λ (t : List ℕ). record old { color = t }) (texts_same old.color new.color same)))
      ∙ cell-unless subscription_rules stream_order q subscription_writes (beq old.is_muted new.is_muted) (SubChange q (subscription_field.IsMuted new.is_muted)) (subscription_field.IsMuted new.is_muted) (record old { color = new.color }) refl
      (λ same. ap (λ (b : Bool). record old { color = new.color; is_muted = b }) (bools_same old.is_muted new.is_muted same)))
      ∙ cell-unless subscription_rules stream_order q subscription_writes (beq old.pin_to_top new.pin_to_top) (SubChange q (subscription_field.PinToTop new.pin_to_top)) (subscription_field.PinToTop new.pin_to_top)
      (record new { pin_to_top = old.pin_to_top }) refl
      (λ same. ap (λ (b : Bool). record new { pin_to_top = b }) (bools_same old.pin_to_top new.pin_to_top same))

pub subscriptions_lead : (before after : Sections) → Comparable before after → rows_applied subscription_rules subscription_writes (changes_between before after) before.subscriptions ≡ after.subscriptions
subscriptions_lead before after comparable =
    let rises = comparable.before_coheres.rises.subscriptions in
    let rises_after = comparable.after_coheres.rises.subscriptions in
    rows_lead subscription_rules stream_order subscription_writes (changes_between before after) before.subscriptions after.subscriptions rises rises_after
    (λ q.
    subscriptions_alone (subscription_step q) before after (row_at stream_cmp before.subscriptions q) (quiet_realm (subscription_step q) before after (λ f c. refl)) (quiet_users (subscription_step q) before after (λ u r c. refl) (λ u f c. refl))
    (quiet_streams (subscription_step q) before after (λ r c. refl) (λ s f c. refl) (λ s c. refl)) (quiet_peers (subscription_step q) before after (λ s u c. refl) (λ s u c. refl))
    (quiet_messages (subscription_step q) before after (λ f c. refl) (λ m c. refl) (λ m s t c. refl) (λ m t c. refl) (λ f c. refl) (λ m u e c. refl) (λ m u e c. refl) (λ m c. refl))
    ∙ keyed_leads stream_order (one_of SubAdd) subscription_changes (λ gone. one_of SubRemove (keys_of gone)) before.subscriptions after.subscriptions q (subscription_step q) rises rises_after
    (λ cell. fold-one_of (subscription_step q) SubAdd (λ rows. cell_after subscription_rules q cell (map (λ row. put row.0 row.1) rows)) cell refl (λ rows. refl) (gained stream_cmp before.subscriptions after.subscriptions)
    ∙ cell-puts subscription_rules stream_order q (gained stream_cmp before.subscriptions after.subscriptions) (rise-gained stream_cmp before.subscriptions after.subscriptions rises_after) cell)
    (subscription_quiet q) (λ old new old_is new_is. subscription_told q old new)
    (λ cell. fold-one_of (subscription_step q) SubRemove (λ keys. cell_after subscription_rules q cell (map drop_row keys)) cell refl (λ keys. refl) (keys_of (lost stream_cmp before.subscriptions after.subscriptions))
    ∙ cell-drops subscription_rules stream_order q (lost stream_cmp before.subscriptions after.subscriptions) cell))
