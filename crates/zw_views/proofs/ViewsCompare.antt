-- Views of successive tables are comparable.
use Rattle.std.proofs.Common.{◌≡◌, ℕ, Bool, true, false, List, Option, None, Some, option_map, option_and_then, refl, ap, sym, subst, ◌∙◌}
use Rattle.std.proofs.lemmas.Bool.{false≢true}
use Rattle.ev_rows.specs.Rows.{only_if, row_at}
use Rattle.ev_rows.proofs.RiseLemmas.{rise-nil}
use Rattle.ev_rows.proofs.RowLemmas.{row_at-sift}
use Rattle.ev_base.specs.declared.ids.UserId.{UserId}
use Rattle.ev_base.specs.declared.ids.MessageId.{MessageId}
use Rattle.ev_base.specs.Orders.{user_cmp, stream_cmp, message_cmp, user_stream_cmp, message_user_cmp, reaction_cmp, user_order, message_order}
use Rattle.ev_base.specs.declared.place.Place.{Place}
use Rattle.ev_types.specs.declared.rows.ShownUser.{ShownUser}
use Rattle.ev_types.specs.declared.rows.ShownMessage.{ShownMessage}
use Rattle.zr_types.specs.declared.people.User.{User}
use Rattle.zr_types.specs.declared.posts.Message.{Message}
use Rattle.zr_types.specs.declared.posts.Receipt.{Receipt}
use Rattle.zr_types.specs.Tables.{Tables, RealmState, opening_state, user_at, message_at, receipt_of}
use Rattle.zr_types.specs.Sound.{TablesSorted}
use Rattle.zr_types.specs.Visibility.{sees_message}
use Rattle.zr_types.specs.Effects.{after_command, next_message}
use Rattle.zw_views.specs.RowViews as row
use Rattle.zw_views.specs.Views.{messages, realm_users, shown_message, shown_user, view_of}
use Rattle.ev_types.specs.Comparable.{Comparable, KeepsDirect}
use Rattle.zw_views.proofs.ViewLemmas.{users_are_sifted}
use Rattle.zw_views.proofs.ViewsCohere.{cohere}
use Rattle.zw_views.specs.Laws.{IsCounted}
use Rattle.zr_types.specs.declared.command.Command.{Command}
use Rattle.zw_views.proofs.TablesFollow.{IsStep, TablesFollow, effect_step}

pub opening_counted : IsCounted opening_state
opening_counted = record {
  sorted = record { users = rise-nil user_cmp; streams = rise-nil stream_cmp; subscriptions = rise-nil user_stream_cmp; messages = rise-nil message_cmp; receipts = rise-nil message_user_cmp; reactions = rise-nil reaction_cmp };
  users = tt;
  streams = tt;
  sent = λ message is. absurd (false≢true is);
}

module _ (state : RealmState) (counted : IsCounted state) (actor : UserId) (moment : ℕ) (command : Command) where
  pub command_step : IsStep state.tables state.sent (after_command actor moment command state).tables (after_command actor moment command state).sent
  command_step =
      effect_step state.tables state.sent counted.sorted counted.users counted.streams counted.sent actor moment (next_message state) refl command

  pub stays_counted : IsCounted (after_command actor moment command state)
  stays_counted = record { sorted = command_step.rise; users = command_step.users; streams = command_step.streams; sent = command_step.within }

module _ (before after : Tables) (before_rise : TablesSorted before) (after_rise : TablesSorted after) (follow : TablesFollow before after) (user : UserId) where
  user_cell : (tables : Tables) → TablesSorted tables → (q : UserId) → row_at user_cmp (realm_users tables) q ≡ option_and_then (λ v. Some (shown_user v)) (user_at tables q)
  user_cell tables rise q = ap (λ (rows : List (UserId × ShownUser)). row_at user_cmp rows q) (users_are_sifted tables) ∙ row_at-sift user_order (λ u. Some (shown_user u.1)) tables.users q rise.users

  shown_from : (cell : Option User) (shown : ShownUser) → option_and_then (λ v. Some (shown_user v)) cell ≡ Some shown → (row : User) × (cell ≡ Some row) × (shown_user row ≡ shown)
  shown_from None shown is = cc
  shown_from (Some row) shown is = (row, refl, cc)

  message_cell : (tables : Tables) → TablesSorted tables → (q : MessageId)
      → row_at message_cmp (messages tables user) q ≡ option_and_then (λ v. only_if (sees_message tables user q) (option_map (shown_message v) (receipt_of tables user q))) (message_at tables q)
  message_cell tables rise q = row_at-sift message_order (row.message_in tables user) tables.messages q rise.messages

  -- a message that is shown is there, with its sender, its moment and its place
  record IsShown (cell : Option Message) (shown : ShownMessage) : Type 0 where
    there : Message
    is : cell ≡ Some there
    sender : shown.sender ≡ there.sender
    timestamp : shown.timestamp ≡ there.timestamp
    place : shown.place ≡ there.place

  message_from : (cell : Option Message) (sees : Bool) (receipt : Option Receipt) (shown : ShownMessage)
      → option_and_then (λ v. only_if sees (option_map (shown_message v) receipt)) cell ≡ Some shown → IsShown cell shown
  message_from None sees receipt shown is = cc
  message_from (Some v) false receipt shown is = cc
  message_from (Some v) true None shown is = cc
  message_from (Some v) true (Some r) shown is =
      let same : shown_message v r ≡ shown = cc in
      record { there = v; is = refl; sender = ap (λ s. s.sender) (sym same); timestamp = ap (λ s. s.timestamp) (sym same); place = ap (λ s. s.place) (sym same) }

  pub views_comparable : Comparable (view_of before user) (view_of after user)
  views_comparable = record {
    before_coheres = cohere before before_rise user;
    after_coheres = cohere after after_rise user;
    users = λ q old is.
        let there = shown_from (user_at before q) old (sym (user_cell before before_rise q) ∙ is) in
        let later = follow.users q there.0 there.1 in (
          shown_user later.0,
          user_cell after after_rise q ∙ ap (option_and_then (λ v. Some (shown_user v))) later.1,
          later.2 ∙ ap (λ s. s.email) there.2,
        );
    messages = λ q old new is now.
        let there = message_from (message_at before q) (sees_message before user q) (receipt_of before user q) old (sym (message_cell before before_rise q) ∙ is) in
        let later = message_from (message_at after q) (sees_message after user q) (receipt_of after user q) new (sym (message_cell after after_rise q) ∙ now) in
        let same = follow.messages q there.there later.there there.is later.is in
        let P : Place → Type 0 = λ p. KeepsDirect p new.place in
        record {
          sender = later.sender ∙ same.sender ∙ sym there.sender;
          timestamp = later.timestamp ∙ same.timestamp ∙ sym there.timestamp;
          place = subst P (sym there.place) (subst (λ p. KeepsDirect there.there.place p) (sym later.place) same.place);
        };
  }

pub successive_views : (state : RealmState) → IsCounted state → (actor : UserId) (moment : ℕ) (command : Command) (user : UserId)
    → Comparable (view_of state.tables user) (view_of (after_command actor moment command state).tables user)
successive_views state counted actor moment command user =
    let step = command_step state counted actor moment command in
    views_comparable state.tables (after_command actor moment command state).tables counted.sorted step.rise step.follows user
