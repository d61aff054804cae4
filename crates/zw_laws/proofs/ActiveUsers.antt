-- A user who is active stays so until a commit deactivates the user.
use Rattle.std.proofs.Common.{◌≡◌, ℕ, suc, ◌+◌, ◌<◌, ◌≤◌, Bool, true, false, cond, List, [], ◌∷◌, ◌++◌, length, Option, None, Some, option_map, refl, ap, sym, subst, ◌∙◌, ◌⊎◌, inl, inr, arith}
use Rattle.std.specs.Option.{option_map_or}
use Rattle.std.specs.BTreeMap.{is_at}
use Rattle.std.proofs.lemmas.Bool.{cases_lt, false≢true, eq-eqb, or_parts}
use Rattle.ev_rows.specs.Rows.{row_at}
use Rattle.ev_rows.proofs.RowLemmas.{at_same}
use Rattle.ev_base.specs.Orders.{user_cmp, user_order}
use Rattle.ev_base.specs.declared.ids.UserId.{UserId}
use Rattle.ev_base.specs.declared.ids.StreamId.{StreamId}
use Rattle.ev_types.specs.declared.notice.Notice.{Notice}
use Rattle.zr_types.specs.declared.people.User.{User}
use Rattle.zr_types.specs.declared.command.Command.{Command}
use Rattle.zr_types.specs.declared.command.Command.TheVariants.{People, Streams, Posts, Marks}
use Rattle.zr_types.specs.declared.command.PeopleCommand.{PeopleCommand}
use Rattle.zr_types.specs.declared.command.PeopleCommand.TheVariants as of_people
use Rattle.zr_types.specs.declared.command.StreamCommand.{StreamCommand}
use Rattle.zr_types.specs.declared.command.StreamCommand.TheVariants as of_streams
use Rattle.zr_types.specs.declared.command.PostCommand.{PostCommand}
use Rattle.zr_types.specs.declared.command.PostCommand.TheVariants as of_posts
use Rattle.zr_types.specs.declared.command.MarkCommand.{MarkCommand}
use Rattle.zr_types.specs.declared.command.MarkCommand.TheVariants as of_marks
use Rattle.ev_base.specs.declared.place.Place.TheVariants as place
use Rattle.zr_types.specs.Commands.{stream_meant, stream_receivers}
use Rattle.zr_types.specs.Effects.{changed_at, effect, mark_effect, next_message, people_effect, post_effect, stream_effect, with_message}
use Rattle.zr_types.specs.Sound.{user_number}
use Rattle.zr_types.specs.Tables.{Tables}
use Rattle.zr_types.specs.Visibility.{is_active_user}
use Rattle.zr_types.proofs.ChangedRows.{row_at-changed_at}
use Rattle.zw_views.proofs.RowChanges.{row_at-more}
use Rattle.zw_traces.specs.RealmTrace.{Accepted, deactivated_by, deactivated_user, is_active_after, prefix_of, state_of, commands, IsLegalRealm}
use Rattle.zw_traces.specs.declared.realm.RealmStep.{RealmStep}
use Rattle.zw_traces.specs.Account.{end_user, same_user}
use Rattle.zw_traces.specs.RealmFeeds.{AreAnnounced}
use Rattle.zw_traces.proofs.PrefixCommits.{first_of_more}
use Rattle.zw_traces.proofs.RealmTraces.{announced_within}

-- one of the users is told by what ends
abbrev pub ends_it : UserId → Option UserId → Bool
ends_it user ended = option_map_or (same_user user) ended false

module _ (user : UserId) where
  -- the user is active among these users
  abbrev ActiveIn : List (UserId × User) → Type 0
  ActiveIn rows = option_map_or (λ (row : User). row.is_active) (row_at user_cmp rows user) false ≡ true

  changed_active : (other : UserId) (change : User → User) (rows : List (UserId × User))
      → (is_at (user_cmp user) other ≡ true → (row : User) → row.is_active ≡ true → (change row).is_active ≡ true)
      → ActiveIn rows → ActiveIn (changed_at user_cmp other change rows)
  changed_active other change rows keeps active =
      subst (λ (cell : Option User). option_map_or (λ (row : User). row.is_active) cell false ≡ true) (sym (row_at-changed_at user_order other change rows user))
      (go (is_at (user_cmp user) other) refl (row_at user_cmp rows user) active)
    where
      go : (at : Bool) → is_at (user_cmp user) other ≡ at → (cell : Option User) → option_map_or (λ (row : User). row.is_active) cell false ≡ true
          → option_map_or (λ (row : User). row.is_active) (cond at (option_map change cell) cell) false ≡ true
      go false is cell active = active
      go true is None active = active
      go true is (Some row) active = keeps is row active

  more_active : (rows more : List (UserId × User)) → ActiveIn rows → ActiveIn (rows ++ more)
  more_active rows more active = go (row_at user_cmp rows user) refl active
    where
      go : (cell : Option User) → row_at user_cmp rows user ≡ cell → option_map_or (λ (row : User). row.is_active) cell false ≡ true → ActiveIn (rows ++ more)
      go None is active = absurd (false≢true active)
      go (Some row) is active =
          ap (λ (cell : Option User). option_map_or (λ (row : User). row.is_active) cell false) (row_at-more user_cmp user_order user_number (λ a b. refl) rows more user row is) ∙ active

  people_active : (command : PeopleCommand) (tables : Tables) → ends_it user (deactivated_by (People command)) ≡ false
      → ActiveIn tables.users → ActiveIn (people_effect command tables).users
  people_active (of_people.RealmUpdate property value) tables stays active = active
  people_active (of_people.UserAdd email full_name role key) tables stays active = more_active tables.users _ active
  people_active (of_people.UserUpdate other full_name) tables stays active = changed_active other (λ row. record row { full_name = full_name }) tables.users (λ at row is. is) active
  people_active (of_people.UserRole other role) tables stays active = changed_active other (λ row. record row { role = role }) tables.users (λ at row is. is) active
  people_active (of_people.UserDeactivate other) tables stays active =
      changed_active other (λ row. record row { is_active = false }) tables.users
      (λ at row is. absurd (false≢true (sym stays ∙ eq-eqb user.0 other.0 (ap (λ (u : UserId). u.0) (at_same user_order user other at))))) active
  people_active (of_people.UserReactivate other) tables stays active = changed_active other (λ row. record row { is_active = true }) tables.users (λ at row is. refl) active

  stream_users : (actor : UserId) (command : StreamCommand) (tables : Tables) → (stream_effect actor command tables).users ≡ tables.users
  stream_users actor (of_streams.Create name description privacy) tables = refl
  stream_users actor (of_streams.Update stream property value) tables = refl
  stream_users actor (of_streams.SetPrivacy stream privacy) tables = refl
  stream_users actor (of_streams.Archive stream) tables = refl
  stream_users actor (of_streams.Subscribe stream other) tables = refl
  stream_users actor (of_streams.Unsubscribe stream other) tables = refl
  stream_users actor (of_streams.SubProperty stream value) tables = refl

  post_users : (actor : UserId) (moment : ℕ) (new : _) (command : PostCommand) (tables : Tables) → (post_effect actor moment new command tables).users ≡ tables.users
  post_users actor moment new (of_posts.SendStream to topic content) tables = go (stream_meant tables actor to)
    where
      go : (cell : Option StreamId) → (option_map_or (λ stream. with_message tables new actor (place.Stream stream topic) content moment (stream_receivers tables actor stream)) cell tables).users ≡ tables.users
      go None = refl
      go (Some stream) = refl
  post_users actor moment new (of_posts.SendDm to content) tables = refl
  post_users actor moment new (of_posts.EditContent message content) tables = refl
  post_users actor moment new (of_posts.Move message stream topic mode) tables = refl
  post_users actor moment new (of_posts.Delete message) tables = refl

  mark_users : (actor : UserId) (command : MarkCommand) (tables : Tables) → (mark_effect actor command tables).users ≡ tables.users
  mark_users actor (of_marks.Flags add flag messages) tables = refl
  mark_users actor (of_marks.ReactionAdd message emoji) tables = refl
  mark_users actor (of_marks.ReactionRemove message emoji) tables = refl

  effect_active : (actor : UserId) (moment : ℕ) (new : _) (command : Command) (tables : Tables) → ends_it user (deactivated_by command) ≡ false
      → ActiveIn tables.users → ActiveIn (effect actor moment new command tables).users
  effect_active actor moment new (People command) tables stays active = people_active command tables stays active
  effect_active actor moment new (Streams command) tables stays active = subst ActiveIn (sym (stream_users actor command tables)) active
  effect_active actor moment new (Posts command) tables stays active = subst ActiveIn (sym (post_users actor moment new command tables)) active
  effect_active actor moment new (Marks command) tables stays active = subst ActiveIn (sym (mark_users actor command tables)) active

  -- after one commit more
  next_active : (all : List Accepted) (n : ℕ) → n < length all → ends_it user (deactivated_user (prefix_of (suc n) all)) ≡ false
      → is_active_after user n all ≡ true → is_active_after user (suc n) all ≡ true
  next_active all n within stays active =
      let next = first_of_more n all within in
      let accepted = next.0 in
      let before = prefix_of n all in
      let kept = effect_active accepted.actor accepted.moment (next_message (state_of before)) accepted.command (state_of before).tables
      (sym (ap (λ list. ends_it user (deactivated_user list)) next.1) ∙ stays) active in
      ap (λ list. is_active_user (state_of list).tables user) next.1 ∙ kept

  -- after the commits of some announced notices, none of which ends the user
  pub told_active : (realm : List RealmStep) → IsLegalRealm realm → (place at : ℕ) (list : List Notice) → AreAnnounced realm (suc place) list → end_user user list ≡ false
      → place ≤ at → at ≤ place + length list → is_active_after user at (commands realm) ≡ true → is_active_after user (place + length list) (commands realm) ≡ true
  told_active realm legal place at [] are stays low high active =
      let same : at ≡ place + 0 = omega arith in
      ap (λ n. is_active_after user n (commands realm)) (sym same) ∙ active
  told_active realm legal place at (notice ∷ list) are stays low high active =
      ap (λ n. is_active_after user n (commands realm)) (sym counted)
      ∙ go (told_active realm legal (suc place) at list further parts.1) (told_active realm legal (suc place) (suc place) list further parts.1) (cases_lt place at)
    where
      all : List Accepted
      all = commands realm

      counted : suc place + length list ≡ place + suc (length list)
      counted = omega arith

      next_is : suc (suc place) ≡ suc place + 1
      next_is = omega arith

      parts : (ends_it user notice.ends ≡ false) × (end_user user list ≡ false)
      parts = or_parts (ends_it user notice.ends) (end_user user list) stays

      further : AreAnnounced realm (suc (suc place)) list
      further = subst (λ n. AreAnnounced realm n list) (sym next_is) are.2

      go : (suc place ≤ at → at ≤ suc place + length list → is_active_after user at all ≡ true → is_active_after user (suc place + length list) all ≡ true)
          → (suc place ≤ suc place → suc place ≤ suc place + length list → is_active_after user (suc place) all ≡ true → is_active_after user (suc place + length list) all ≡ true)
          → (place < at) ⊎ (at ≤ place) → is_active_after user (suc place + length list) all ≡ true
      go on_at on_next (inl later) = on_at (omega arith) (omega (arith, counted, high)) active
      go on_at on_next (inr first) =
          let here : at ≡ place = omega arith in
          let known = announced_within realm legal in
          let announced = are.1 in
          let begun : is_active_after user place all ≡ true = ap (λ n. is_active_after user n all) (sym here) ∙ active in
          on_next (omega arith) (omega arith) (next_active all place (omega arith) (sym (ap (ends_it user) are.0.ends) ∙ parts.0) begun)
