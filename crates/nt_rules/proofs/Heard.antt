-- What a user hears of parts.
use Rattle.std.proofs.Common.{◌≡◌, ℕ, Bool, true, false, cond, List, [], ◌∷◌, ◌++◌, flat_map, ◌==◌, ◌&&◌, ◌||◌, Option, None, Some, is_some, option_map, Ordering, Less, Equal, Greater, sym, ap, refl, ◌∙◌}
use Rattle.std.specs.Ordering.{is_eq, ordering_then}
use Rattle.std.specs.Option.{option_and_then}
use Rattle.std.specs.BTreeMap.{is_at}
use Rattle.std.specs.List.{cons_option, filter_map}
use Rattle.std.proofs.lemmas.List.Elements.{filter_map-append}
use Rattle.std.proofs.lemmas.Bool.{eqb-true, eq-eqb}
use Rattle.ev_rows.specs.Rows.{SortedByKey, keys_of, only_if, row_at}
use Rattle.ev_rows.proofs.RowLemmas.{at_itself, at_same, row_at-sift}
use Rattle.ev_base.specs.Orders.{message_cmp, message_user_cmp, user_cmp, user_order}
use Rattle.ev_base.specs.declared.ids.UserId.{UserId}
use Rattle.ev_base.specs.declared.ids.StreamId.{StreamId}
use Rattle.ev_base.specs.declared.ids.MessageId.{MessageId}
use Rattle.ev_types.specs.Audiences.{has_user}
use Rattle.ev_types.specs.declared.event.Event.{Event}
use Rattle.ev_types.specs.declared.notice.Audience.{Audience}
use Rattle.ev_types.specs.declared.notice.Audience.TheVariants.{Only}
use Rattle.ev_types.specs.declared.notice.Part.{Part}
use Rattle.zr_types.specs.declared.people.User.{User}
use Rattle.zr_types.specs.declared.posts.Receipt.{Receipt}
use Rattle.zr_types.specs.Tables.{Tables, stream_at, user_at}
use Rattle.zr_types.specs.Visibility.{is_subscribed, sees_by, sees_message, sees_stream}
use Rattle.zw_views.specs.Views.{has_message}
use Rattle.nt_rules.proofs.Alike.{either_way}
use Rattle.nt_rules.specs.Parts.{heard_of, readers, to, viewers}

-- users are the same where their numbers are
pub same_at : (a b : UserId) → (a.0 == b.0) ≡ is_at (user_cmp b) a
same_at a b = go (a.0 == b.0) (is_at (user_cmp b) a) refl refl
  where
    go : (x y : Bool) → (a.0 == b.0) ≡ x → is_at (user_cmp b) a ≡ y → x ≡ y
    go true true is at = refl
    go true false is at =
        let same : a ≡ b = ap (λ (n : ℕ). record { 0 = n }) (eqb-true a.0 b.0 is) in
        sym (at_itself user_order b) ∙ ap (is_at (user_cmp b)) (sym same) ∙ at
    go false true is at = sym is ∙ eq-eqb a.0 b.0 (ap (λ (u : UserId). u.0) (sym (at_same user_order b a at)))
    go false false is at = refl

module _ (user : UserId) where
  -- of one list of parts after another: first what is heard of the one, then what is heard of the other
  pub heard_both : (a b : List Part) → heard_of user (a ++ b) ≡ heard_of user a ++ heard_of user b
  heard_both a b = filter_map-append _ a b

  -- of parts with one audience: all, or nothing
  pub heard_to : (audience : Audience) (events : List Event) → heard_of user (to audience events) ≡ cond (has_user user audience) events []
  heard_to audience [] = either_way (has_user user audience) []
  heard_to audience (event ∷ events) = go (has_user user audience) (heard_to audience events)
    where
      go : (b : Bool) → heard_of user (to audience events) ≡ cond b events []
          → cons_option (only_if b (Some event)) (heard_of user (to audience events)) ≡ cond b (event ∷ events) []
      go true further = ap (λ l. event ∷ l) further
      go false further = further

  -- of parts made of rows
  pub heard_each : {X : Type 0} (make : X → List Part) (xs : List X) → heard_of user (flat_map make xs) ≡ flat_map (λ x. heard_of user (make x)) xs
  heard_each make [] = refl
  heard_each make (x ∷ xs) = heard_both (make x) (flat_map make xs) ∙ ap (λ l. heard_of user (make x) ++ l) (heard_each make xs)

  -- the keys of a list have the user exactly where the list has a row of the user
  pub has_keys : {V : Type 0} (rows : List (UserId × V)) → has_user user (Only (keys_of rows)) ≡ is_some (row_at user_cmp rows user)
  has_keys [] = refl
  has_keys (row ∷ rows) = ap (λ b. b || has_user user (Only (keys_of rows))) (same_at row.0 user) ∙ go (is_at (user_cmp user) row.0) (has_keys rows)
    where
      go : (b : Bool) → has_user user (Only (keys_of rows)) ≡ is_some (row_at user_cmp rows user)
          → (b || has_user user (Only (keys_of rows))) ≡ is_some (cond b (Some row.1) (row_at user_cmp rows user))
      go true further = refl
      go false further = further

  -- one user alone
  pub has_one : (other : UserId) → has_user user (Only (other ∷ [])) ≡ is_at (user_cmp user) other
  has_one other = has_keys ((other, tt {0}) ∷ []) ∙ go (is_at (user_cmp user) other)
    where
      go : (b : Bool) → is_some (cond b (Some (tt {0})) None) ≡ b
      go true = refl
      go false = refl

  -- those who see a stream
  pub has_viewers : (tables : Tables) → SortedByKey user_cmp tables.users → (stream : StreamId) → has_user user (Only (keys_of (viewers tables stream))) ≡ sees_stream tables user stream
  has_viewers tables rise stream =
      has_keys (viewers tables stream)
      ∙ ap is_some (row_at-sift user_order (λ row. only_if (sees_stream tables row.0 stream) (Some (tt {0}))) tables.users user rise)
      ∙ go (user_at tables user) refl
    where
      given : (b : Bool) → is_some (only_if b (Some (tt {0}))) ≡ b
      given true = refl
      given false = refl

      go : (o : Option User) → user_at tables user ≡ o → is_some (option_and_then (λ (row : User). only_if (sees_stream tables user stream) (Some (tt {0}))) o) ≡ sees_stream tables user stream
      go None is = ap (λ (o : Option User). sees_by (option_map (λ row. row.role) o) (stream_at tables stream) (is_subscribed tables user stream)) (sym is)
      go (Some row) is = given (sees_stream tables user stream)

  -- those who have a message
  pub has_readers : (tables : Tables) (message : MessageId) → has_user user (Only (keys_of (readers tables message))) ≡ has_message tables user message
  has_readers tables message = has_keys (readers tables message) ∙ go tables.receipts
    where
      among : List ((MessageId × UserId) × Receipt) → List (UserId × Unit {0})
      among rows = filter_map (λ row. only_if (is_at (message_cmp message) row.0.0 && sees_message tables row.0.1 message) (Some (row.0.1, tt {0}))) rows

      here : (row : (MessageId × UserId) × Receipt) (rows : List ((MessageId × UserId) × Receipt)) (sees at : Bool)
          → sees_message tables row.0.1 message ≡ sees → is_at (user_cmp user) row.0.1 ≡ at
          → is_some (row_at user_cmp (among rows) user) ≡ (sees_message tables user message && is_some (row_at message_user_cmp rows (message, user)))
          → is_some (row_at user_cmp (cons_option (only_if sees (Some (row.0.1, tt {0}))) (among rows)) user)
          ≡ (sees_message tables user message && is_some (cond at (Some row.1) (row_at message_user_cmp rows (message, user))))
      here row rows true true sees at further =
          let seen : sees_message tables user message ≡ true = ap (λ u. sees_message tables u message) (at_same user_order user row.0.1 at) ∙ sees in
          rw (at, seen) refl
      here row rows true false sees off further = rw off further
      here row rows false true unseen at further =
          let seen : sees_message tables user message ≡ false = ap (λ u. sees_message tables u message) (at_same user_order user row.0.1 at) ∙ unseen in
          further ∙ rw seen refl
      here row rows false false unseen off further = further

      step : (row : (MessageId × UserId) × Receipt) (rows : List ((MessageId × UserId) × Receipt)) (o : Ordering)
          → is_some (row_at user_cmp (among rows) user) ≡ (sees_message tables user message && is_some (row_at message_user_cmp rows (message, user)))
          → is_some (row_at user_cmp (cons_option (only_if (is_eq o && sees_message tables row.0.1 message) (Some (row.0.1, tt {0}))) (among rows)) user)
          ≡ (sees_message tables user message && is_some (cond (is_eq (ordering_then o (user_cmp user row.0.1))) (Some row.1) (row_at message_user_cmp rows (message, user))))
      step row rows Less further = further
      step row rows Equal further = here row rows (sees_message tables row.0.1 message) (is_at (user_cmp user) row.0.1) refl refl further
      step row rows Greater further = further

      go : (rows : List ((MessageId × UserId) × Receipt)) → is_some (row_at user_cmp (among rows) user) ≡ (sees_message tables user message && is_some (row_at message_user_cmp rows (message, user)))
      go [] = none (sees_message tables user message)
        where
          none : (b : Bool) → false ≡ (b && false)
          none true = refl
          none false = refl
      go (row ∷ rows) = step row rows (message_cmp message row.0.0) (go rows)
