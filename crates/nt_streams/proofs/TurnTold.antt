-- What a user hears of the parts of a turn is what the turn changes in the user's view.
use Rattle.std.proofs.Common.{◌≡◌, Bool, true, false, not, ◌&&◌, cond, List, [], ◌∷◌, ◌++◌, map, Option, None, Some, is_some, option_map, option_and_then, sym, ap, refl, ◌∙◌, append-nil}
use Rattle.std.specs.BTreeMap.{is_at}
use Rattle.std.specs.Option.{option_map_or}
use Rattle.std.proofs.lemmas.Bool.{false≢true}
use Rattle.ev_rows.specs.Rows.{AgreeBut, both_of, fresh, gained, keys_of, made_of, one_of, one_row, only_if, row_at}
use Rattle.ev_rows.proofs.RiseLemmas.{rise-sift}
use Rattle.ev_rows.proofs.RowLemmas.{AgreeBut-sift, at_itself, at_same, row_at-sift}
use Rattle.ev_rows.proofs.ChangeLemmas.{gained_at}
use Rattle.ev_base.specs.Orders.{stream_cmp, user_cmp, user_order, user_stream_cmp}
use Rattle.ev_base.specs.declared.ids.UserId.{UserId}
use Rattle.ev_base.specs.declared.ids.StreamId.{StreamId}
use Rattle.ev_base.specs.declared.ids.MessageId.{MessageId}
use Rattle.ev_base.specs.declared.kinds.Role.{Role}
use Rattle.ev_types.specs.Changes.{arrivals, changes_between, full_message, stream_changes, subscription_changes}
use Rattle.ev_types.specs.declared.event.Event.{Event}
use Rattle.ev_types.specs.declared.event.Event.TheVariants.{MessageGone, PeerAdd, PeerRemove, StreamCreate, StreamDelete, SubAdd, SubRemove}
use Rattle.ev_types.specs.declared.notice.Audience.TheVariants.{Only}
use Rattle.ev_types.specs.declared.rows.ShownMessage.{ShownMessage}
use Rattle.nt_rules.specs.Parts.{gained_peers, heard_of, lost_peers, to}
use Rattle.nt_rules.proofs.Alike.{either_way}
use Rattle.nt_rules.proofs.FieldsStay.{realm_stays, subscription_stays}
use Rattle.nt_rules.proofs.Heard.{has_one, heard_to, same_at}
use Rattle.nt_rules.proofs.Six.{six}
use Rattle.nt_rules.proofs.StreamsStay.{no_user}
use Rattle.nt_streams.specs.StreamParts.{before, changed, each, event_of, finder_parts, found, found_messages, found_subscription, keeper_parts, loser_parts, messages_in, own_change, peer_change, those, told, turn_parts}
use Rattle.nt_streams.specs.Turned.{finds, keeps, loses, peers_after, saw, sees, subscription_after}
use Rattle.nt_streams.specs.declared.turn.Turn.{Turn}
use Rattle.nt_streams.proofs.OneRow.{OneRow}
use Rattle.nt_streams.proofs.OneStream.{after, message_turn, peer_turn, shown_own, shown_row, stream_at_key, stream_turn, subscription_at_key, subscription_turn}
use Rattle.nt_streams.proofs.Pieces.{gained_of_none, heard_four, heard_own_parts, heard_those, heard_three}
use Rattle.zr_types.specs.declared.people.User.{User}
use Rattle.zr_types.specs.declared.streams.Stream.{Stream}
use Rattle.zr_types.specs.declared.streams.Subscription.{Subscription}
use Rattle.zr_types.specs.Sound.{TablesSorted}
use Rattle.zr_types.specs.Tables.{Tables, stream_at, subscription_of, user_at}
use Rattle.zr_types.specs.Visibility.{is_active_user, is_subscribed, role_of, sees_by}
use Rattle.zw_views.specs.Views.{peers, shown_realm, shown_stream, shown_subscription, view_of}

abbrev Users : Type 0
Users = List (UserId × Unit {0})

abbrev Shown : Type 0
Shown = List (MessageId × ShownMessage)

-- a stream that is seen is there
needs_row : (role : Option Role) (row : Option Stream) (own : Bool) → sees_by role row own ≡ true → is_some row ≡ true
needs_row None row own is = absurd (false≢true is)
needs_row (Some role) None own is = absurd (false≢true is)
needs_row (Some role) (Some row) own is = refl

and_first : (a b : Bool) → a ≡ false → (a && b) ≡ false
and_first false b is = refl
and_first true b is = absurd (false≢true (sym is))

and_cond : {X : Type 0} (a b : Bool) (xs : List X) → cond (a && b) xs [] ≡ cond a (cond b xs []) []
and_cond true b xs = refl
and_cond false b xs = refl

module _ (tables : Tables) (turn : Turn) where
  -- of a subscription that stays nothing is told
  same_own : (own : Option Subscription) → own_change turn own own ≡ []
  same_own None = refl
  same_own (Some own) = subscription_stays turn.stream (shown_subscription own)

  -- the subscriber who came or went
  abbrev peer_cell : Option Subscription → Option User → Option (Unit {0})
  peer_cell own o = option_and_then (λ (row : User). only_if (row.is_active && is_some own) (Some (tt {0}))) o

  abbrev came : Option (Unit {0}) → Option (Unit {0}) → List Event
  came old new = one_of (PeerAdd turn.stream) (keys_of (one_row turn.user (fresh old new)))

  abbrev went : Option (Unit {0}) → Option (Unit {0}) → List Event
  went old new = one_of (PeerRemove turn.stream) (keys_of (one_row turn.user (fresh new old)))

  peer_cases : (o : Option User) (x y : Option Subscription)
      → came (peer_cell x o) (peer_cell y o) ++ went (peer_cell x o) (peer_cell y o) ≡ cond (option_map_or (λ (row : User). row.is_active) o false) (peer_change turn x y) []
  peer_cases None x y = refl
  peer_cases (Some row) x y = go row.is_active x y
    where
      go : (active : Bool) (x y : Option Subscription)
          → came (only_if (active && is_some x) (Some (tt {0}))) (only_if (active && is_some y) (Some (tt {0}))) ++ went (only_if (active && is_some x) (Some (tt {0}))) (only_if (active && is_some y) (Some (tt {0})))
          ≡ cond active (peer_change turn x y) []
      go false x y = refl
      go true None None = refl
      go true None (Some new) = refl
      go true (Some old) None = refl
      go true (Some old) (Some new) = refl

  -- what is heard, by the truth values and the cells
  abbrev told_of_stream : Option Stream → List Event
  told_of_stream row = event_of (λ (v : Stream). StreamCreate ((turn.stream, shown_stream v) ∷ [])) row

  abbrev told_of_own : Option Subscription → List Event
  told_of_own own = event_of (λ (v : Subscription). SubAdd ((turn.stream, shown_subscription v) ∷ [])) own

  sub_found : (own : Option Subscription) → subscription_at_key turn.stream None (option_map shown_subscription own) ≡ told_of_own own
  sub_found None = refl
  sub_found (Some own) = refl

  sub_lost : (own : Option Subscription) → subscription_at_key turn.stream (option_map shown_subscription own) None ≡ cond (is_some own) (SubRemove (turn.stream ∷ []) ∷ []) []
  sub_lost None = refl
  sub_lost (Some own) = refl

  sub_kept : (x y : Option Subscription) → subscription_at_key turn.stream (option_map shown_subscription x) (option_map shown_subscription y) ≡ own_change turn x y
  sub_kept None None = refl
  sub_kept None (Some new) = refl
  sub_kept (Some old) None = refl
  sub_kept (Some old) (Some new) = append-nil (subscription_changes (turn.stream, (shown_subscription old, shown_subscription new)))

  hidden_row : (row : Option Stream) → shown_row false row ≡ None
  hidden_row None = refl
  hidden_row (Some row) = refl

  hidden_own : (row : Option Stream) (own : Option Subscription) → shown_own false row own ≡ None
  hidden_own None own = refl
  hidden_own (Some row) own = refl

  module _ (old_own new_own : Option Subscription) (old_peers new_peers : Users) (there : Shown) where
    abbrev told_of_peers : List Event
    told_of_peers = one_of (PeerAdd turn.stream) (keys_of new_peers)

    abbrev told_of_messages : List Event
    told_of_messages = arrivals (map (full_message tables.reactions) there)

    abbrev heard_by : Bool → Bool → Bool → Option Stream → List Event → List Event → List Event
    heard_by f k l new fields joined =
        (cond f (told_of_stream new) [] ++ cond f (told_of_own new_own) [] ++ cond f told_of_peers [] ++ cond f told_of_messages [])
        ++ (cond k fields [] ++ cond k (own_change turn old_own new_own) [] ++ cond k joined [])
        ++ (cond l (StreamDelete (turn.stream ∷ []) ∷ []) [] ++ cond l (cond (is_some old_own) (SubRemove (turn.stream ∷ []) ∷ []) []) [] ++ cond l (one_of MessageGone (keys_of there)) [])

    abbrev fields_of : Option Stream → Option Stream → List Event
    fields_of old new = made_of (λ (both : Stream × Stream). stream_changes (turn.stream, (shown_stream both.0, shown_stream both.1))) (both_of old new)

    abbrev peers_by : Bool → Bool → Option Stream → List Event
    peers_by b c new =
        made_of (λ (row : Stream). one_of (PeerAdd turn.stream) (keys_of (gained_peers b c old_peers new_peers))) new
        ++ made_of (λ (row : Stream). one_of (PeerRemove turn.stream) (keys_of (lost_peers b c old_peers new_peers))) new

    abbrev messages_by : Bool → Bool → List Event
    messages_by b c =
        arrivals (map (full_message tables.reactions) (cond (c && not b) there [])) ++ one_of MessageGone (keys_of (cond (b && not c) there []))

    abbrev changes_by : Bool → Bool → Option Stream → Option Stream → List Event
    changes_by b c old new =
        [] ++ [] ++ stream_at_key turn.stream (shown_row b old) (shown_row c new)
        ++ subscription_at_key turn.stream (shown_own b old old_own) (shown_own c new new_own)
        ++ peers_by b c new ++ messages_by b c

    quiet_peers : (b : Bool) (new : Option Stream) → peers_by b false new ≡ []
    quiet_peers b None = refl
    quiet_peers b (Some new) = refl

    module _ (joined : List Event)
        (joined_is : one_of (PeerAdd turn.stream) (keys_of (gained user_cmp old_peers new_peers)) ++ one_of (PeerRemove turn.stream) (keys_of (gained user_cmp new_peers old_peers)) ≡ joined) where
      found_case : (old : Option Stream) (new : Stream) → heard_by true false false (Some new) (fields_of old (Some new)) joined ≡ changes_by false true old (Some new)
      found_case old new =
          let front = told_of_stream (Some new) ++ told_of_own new_own ++ told_of_peers ++ told_of_messages in
          let rows = sym (hidden_row old) in
          let owns : told_of_own new_own ≡ subscription_at_key turn.stream (shown_own false old old_own) (option_map shown_subscription new_own) =
          sym (sub_found new_own) ∙ ap (λ o. subscription_at_key turn.stream o (option_map shown_subscription new_own)) (sym (hidden_own old old_own)) in
          let comers : told_of_peers ≡ one_of (PeerAdd turn.stream) (keys_of (gained user_cmp {V = Unit {0}} [] new_peers)) ++ [] =
          ap (λ (l : Users). one_of (PeerAdd turn.stream) (keys_of l)) (sym (gained_of_none new_peers)) ∙ sym (append-nil (one_of (PeerAdd turn.stream) (keys_of (gained user_cmp {V = Unit {0}} [] new_peers)))) in
          let arrived = sym (append-nil told_of_messages) in
          append-nil (front ++ []) ∙ append-nil front
          ∙ (λ i. stream_at_key turn.stream (rows i) (Some (shown_stream new)) ++ owns i ++ comers i ++ arrived i)

      lost_case : (old : Stream) (new : Option Stream) → heard_by false false true new (fields_of (Some old) new) joined ≡ changes_by true false (Some old) new
      lost_case old new =
          let gone = one_of MessageGone (keys_of there) in
          let first = (StreamDelete (turn.stream ∷ []) ∷ []) ++ cond (is_some old_own) (SubRemove (turn.stream ∷ []) ∷ []) [] in
          let rows = sym (hidden_row new) in
          let owns : cond (is_some old_own) (SubRemove (turn.stream ∷ []) ∷ []) [] ≡ subscription_at_key turn.stream (option_map shown_subscription old_own) (shown_own false new new_own) =
          sym (sub_lost old_own) ∙ ap (λ o. subscription_at_key turn.stream (option_map shown_subscription old_own) o) (sym (hidden_own new new_own)) in
          let nobody = sym (quiet_peers true new) in
          ap (λ l. l ++ gone) (sym (append-nil first))
          ∙ (λ i. stream_at_key turn.stream (Some (shown_stream old)) (rows i) ++ owns i ++ nobody i ++ gone)

      kept_case : (old new : Stream) → heard_by false true false (Some new) (fields_of (Some old) (Some new)) joined ≡ changes_by true true (Some old) (Some new)
      kept_case old new =
          let fields = sym (append-nil (stream_changes (turn.stream, (shown_stream old, shown_stream new)))) in
          let owns = sym (sub_kept old_own new_own) in
          let others = sym joined_is in
          λ i. (fields i ++ owns i ++ others i) ++ []

      hidden_case : (old new : Option Stream) → [] ≡ changes_by false false old new
      hidden_case old new =
          let was = sym (hidden_row old) in
          let is = sym (hidden_row new) in
          let own_was = sym (hidden_own old old_own) in
          let own_is = sym (hidden_own new new_own) in
          let nobody = sym (quiet_peers false new) in
          λ i. (stream_at_key turn.stream (was i) (is i) ++ subscription_at_key turn.stream (own_was i) (own_is i) ++ nobody i) ++ []

      by_sight : (b c : Bool) (old new : Option Stream) → (b ≡ true → is_some old ≡ true) → (c ≡ true → is_some new ≡ true)
          → heard_by (c && not b) (c && b) (b && not c) new (fields_of old new) joined ≡ changes_by b c old new
      by_sight false false old new was is = hidden_case old new
      by_sight false true old None was is = absurd (false≢true (is refl))
      by_sight false true old (Some new) was is = found_case old new
      by_sight true false None new was is = absurd (false≢true (was refl))
      by_sight true false (Some old) new was is = lost_case old new
      by_sight true true None new was is = absurd (false≢true (was refl))
      by_sight true true (Some old) None was is = absurd (false≢true (is refl))
      by_sight true true (Some old) (Some new) was is = kept_case old new

module _ (tables : Tables) (rise : TablesSorted tables) (turn : Turn)
    (new_streams : List (StreamId × Stream)) (new_subscriptions : List ((UserId × StreamId) × Subscription))
    (one : OneRow stream_cmp turn.stream turn.row tables.streams new_streams)
    (own : OneRow user_stream_cmp (turn.user, turn.stream) turn.subscription tables.subscriptions new_subscriptions)
    (hearer : UserId) where
  -- who isn't there hears nothing
  nobody_saw : user_at tables hearer ≡ None → saw tables turn hearer ≡ false
  nobody_saw is = ap (λ (o : Option User). sees_by (option_map (λ (r : User). r.role) o) (stream_at tables turn.stream) (is_subscribed tables hearer turn.stream)) is

  nobody_sees : user_at tables hearer ≡ None → sees tables turn hearer ≡ false
  nobody_sees is = ap (λ (o : Option User). sees_by (option_map (λ (r : User). r.role) o) turn.row (is_some (subscription_after tables turn hearer))) is

  nobody_finds : user_at tables hearer ≡ None → finds tables turn hearer ≡ false
  nobody_finds is = and_first (sees tables turn hearer) (not (saw tables turn hearer)) (nobody_sees is)

  nobody_keeps : user_at tables hearer ≡ None → keeps tables turn hearer ≡ false
  nobody_keeps is = and_first (sees tables turn hearer) (saw tables turn hearer) (nobody_sees is)

  nobody_loses : user_at tables hearer ≡ None → loses tables turn hearer ≡ false
  nobody_loses is = and_first (saw tables turn hearer) (not (sees tables turn hearer)) (nobody_saw is)

  nobody_leaves : user_at tables hearer ≡ None → (loses tables turn hearer && is_subscribed tables hearer turn.stream) ≡ false
  nobody_leaves is = and_first (loses tables turn hearer) (is_subscribed tables hearer turn.stream) (nobody_loses is)

  -- what those who find the stream hear
  abbrev comers : List Event
  comers = one_of (PeerAdd turn.stream) (keys_of (peers_after tables turn))

  finder_heard : heard_of hearer (finder_parts tables turn)
      ≡ cond (finds tables turn hearer) (found turn) [] ++ cond (finds tables turn hearer) (found_subscription tables turn hearer) []
      ++ cond (finds tables turn hearer) comers [] ++ cond (finds tables turn hearer) (found_messages tables turn hearer) []
  finder_heard =
      let users = those tables (finds tables turn) in
      let a = heard_those hearer tables rise.users (finds tables turn) nobody_finds (found turn) in
      let b = heard_own_parts hearer tables rise.users (finds tables turn) nobody_finds (found_subscription tables turn) in
      let c = heard_those hearer tables rise.users (finds tables turn) nobody_finds comers in
      let d = heard_own_parts hearer tables rise.users (finds tables turn) nobody_finds (found_messages tables turn) in
      heard_four hearer (told users (found turn)) (each tables (finds tables turn) (found_subscription tables turn)) (told users comers)
      (each tables (finds tables turn) (found_messages tables turn))
      ∙ (λ i. a i ++ b i ++ c i ++ d i)

  own_itself : subscription_after tables turn turn.user ≡ turn.subscription
  own_itself = ap (λ b. cond b turn.subscription (subscription_of tables turn.user turn.stream)) (same_at turn.user turn.user ∙ at_itself user_order turn.user)

  -- of the one subscription that turns
  abbrev own_events : List Event
  own_events = own_change turn (before tables turn) turn.subscription

  abbrev mine : UserId → List Event
  mine user = cond (keeps tables turn user) (own_change turn (subscription_of tables user turn.stream) (subscription_after tables turn user)) []

  own_heard : heard_of hearer (cond (keeps tables turn turn.user) (to (Only (turn.user ∷ [])) own_events) []) ≡ mine hearer
  own_heard = by_keep (keeps tables turn turn.user) ∙ go (is_at (user_cmp hearer) turn.user) refl
    where
      by_keep : (k : Bool) → heard_of hearer (cond k (to (Only (turn.user ∷ [])) own_events) []) ≡ cond (is_at (user_cmp hearer) turn.user) (cond k own_events []) []
      by_keep true = heard_to hearer (Only (turn.user ∷ [])) own_events ∙ ap (λ b. cond b own_events []) (has_one hearer turn.user)
      by_keep false = either_way (is_at (user_cmp hearer) turn.user) []

      go : (b : Bool) → is_at (user_cmp hearer) turn.user ≡ b
          → cond (is_at (user_cmp hearer) turn.user) (cond (keeps tables turn turn.user) own_events []) [] ≡ mine hearer
      go true at =
          ap (λ b. cond b (cond (keeps tables turn turn.user) own_events []) []) at
          ∙ ap (λ (o : Option Subscription). cond (keeps tables turn turn.user) (own_change turn (before tables turn) o) []) (sym own_itself)
          ∙ ap mine (sym (at_same user_order hearer turn.user at))
      go false off =
          let old = subscription_of tables hearer turn.stream in
          let stays : subscription_after tables turn hearer ≡ old = ap (λ b. cond b turn.subscription old) (same_at turn.user hearer ∙ off) in
          ap (λ b. cond b (cond (keeps tables turn turn.user) own_events []) []) off
          ∙ either_way (keeps tables turn hearer) []
          ∙ ap (λ l. cond (keeps tables turn hearer) l []) (sym (same_own tables turn old))
          ∙ ap (λ (o : Option Subscription). cond (keeps tables turn hearer) (own_change turn old o) []) (sym stays)

  -- and of the subscriber
  abbrev joined : List Event
  joined = cond (is_active_user tables turn.user) (peer_change turn (before tables turn) turn.subscription) []

  peer_heard : heard_of hearer (cond (is_active_user tables turn.user) (told (those tables (keeps tables turn)) (peer_change turn (before tables turn) turn.subscription)) [])
      ≡ cond (keeps tables turn hearer) joined []
  peer_heard = go (is_active_user tables turn.user)
    where
      go : (b : Bool) → heard_of hearer (cond b (told (those tables (keeps tables turn)) (peer_change turn (before tables turn) turn.subscription)) [])
          ≡ cond (keeps tables turn hearer) (cond b (peer_change turn (before tables turn) turn.subscription) []) []
      go true = heard_those hearer tables rise.users (keeps tables turn) nobody_keeps (peer_change turn (before tables turn) turn.subscription)
      go false = either_way (keeps tables turn hearer) []

  keeper_heard : heard_of hearer (keeper_parts tables turn) ≡ cond (keeps tables turn hearer) (changed tables turn) [] ++ mine hearer ++ cond (keeps tables turn hearer) joined []
  keeper_heard =
      let a = heard_those hearer tables rise.users (keeps tables turn) nobody_keeps (changed tables turn) in
      heard_three hearer (told (those tables (keeps tables turn)) (changed tables turn)) (cond (keeps tables turn turn.user) (to (Only (turn.user ∷ [])) own_events) [])
      (cond (is_active_user tables turn.user) (told (those tables (keeps tables turn)) (peer_change turn (before tables turn) turn.subscription)) [])
      ∙ (λ i. a i ++ own_heard i ++ peer_heard i)

  -- what those who lose it hear
  abbrev gone : UserId → List Event
  gone user = one_of MessageGone (keys_of (messages_in tables turn.stream user))

  abbrev leaves : UserId → Bool
  leaves user = loses tables turn user && is_subscribed tables user turn.stream

  loser_heard : heard_of hearer (loser_parts tables turn)
      ≡ cond (loses tables turn hearer) (StreamDelete (turn.stream ∷ []) ∷ []) []
      ++ cond (loses tables turn hearer) (cond (is_subscribed tables hearer turn.stream) (SubRemove (turn.stream ∷ []) ∷ []) []) []
      ++ cond (loses tables turn hearer) (gone hearer) []
  loser_heard =
      let a = heard_those hearer tables rise.users (loses tables turn) nobody_loses (StreamDelete (turn.stream ∷ []) ∷ []) in
      let b = heard_those hearer tables rise.users leaves nobody_leaves (SubRemove (turn.stream ∷ []) ∷ []) ∙ and_cond (loses tables turn hearer) (is_subscribed tables hearer turn.stream) (SubRemove (turn.stream ∷ []) ∷ []) in
      let c = heard_own_parts hearer tables rise.users (loses tables turn) nobody_loses gone in
      heard_three hearer (told (those tables (loses tables turn)) (StreamDelete (turn.stream ∷ []) ∷ [])) (told (those tables leaves) (SubRemove (turn.stream ∷ []) ∷ []))
      (each tables (loses tables turn) gone)
      ∙ (λ i. a i ++ b i ++ c i)

  -- the subscribers differ at the one user
  abbrev old_test : UserId × User → Option (Unit {0})
  old_test row = only_if (row.1.is_active && is_subscribed tables row.0 turn.stream) (Some (tt {0}))

  abbrev new_test : UserId × User → Option (Unit {0})
  new_test row = only_if (row.1.is_active && is_some (subscription_after tables turn row.0)) (Some (tt {0}))

  peers_agree : AgreeBut user_cmp turn.user (peers tables turn.stream) (peers_after tables turn)
  peers_agree =
      AgreeBut-sift user_order old_test new_test tables.users tables.users turn.user rise.users rise.users (λ q off. refl)
      (λ q v off. ap (λ b. only_if (v.is_active && is_some (cond b turn.subscription (subscription_of tables q turn.stream))) (Some (tt {0}))) (same_at turn.user q ∙ off))

  abbrev there_before : Option (Unit {0})
  there_before = peer_cell tables turn (before tables turn) (user_at tables turn.user)

  abbrev there_after : Option (Unit {0})
  there_after = peer_cell tables turn turn.subscription (user_at tables turn.user)

  old_cell : row_at user_cmp (peers tables turn.stream) turn.user ≡ there_before
  old_cell = row_at-sift user_order old_test tables.users turn.user rise.users

  new_cell : row_at user_cmp (peers_after tables turn) turn.user ≡ there_after
  new_cell =
      row_at-sift user_order new_test tables.users turn.user rise.users
      ∙ ap (λ (o : Option Subscription). peer_cell tables turn o (user_at tables turn.user)) own_itself

  gains : gained user_cmp (peers tables turn.stream) (peers_after tables turn) ≡ one_row turn.user (fresh there_before there_after)
  gains =
      gained_at user_order (peers tables turn.stream) (peers_after tables turn) turn.user (rise-sift user_cmp new_test tables.users rise.users) peers_agree
      ∙ (λ i. one_row turn.user (fresh (old_cell i) (new_cell i)))

  losses : gained user_cmp (peers_after tables turn) (peers tables turn.stream) ≡ one_row turn.user (fresh there_after there_before)
  losses =
      gained_at user_order (peers_after tables turn) (peers tables turn.stream) turn.user (rise-sift user_cmp old_test tables.users rise.users) (λ q off. sym (peers_agree q off))
      ∙ (λ i. one_row turn.user (fresh (new_cell i) (old_cell i)))

  joined_is : one_of (PeerAdd turn.stream) (keys_of (gained user_cmp (peers tables turn.stream) (peers_after tables turn)))
      ++ one_of (PeerRemove turn.stream) (keys_of (gained user_cmp (peers_after tables turn) (peers tables turn.stream))) ≡ joined
  joined_is =
      (λ i. one_of (PeerAdd turn.stream) (keys_of (gains i)) ++ one_of (PeerRemove turn.stream) (keys_of (losses i)))
      ∙ peer_cases tables turn (user_at tables turn.user) (before tables turn) turn.subscription

  pub turn_told : heard_of hearer (turn_parts tables turn)
      ≡ changes_between (view_of tables hearer) (view_of (after tables rise turn new_streams new_subscriptions one own) hearer)
  turn_told =
      heard_three hearer (finder_parts tables turn) (keeper_parts tables turn) (loser_parts tables turn)
      ∙ (λ i. finder_heard i ++ keeper_heard i ++ loser_heard i)
      ∙ by_sight tables turn (subscription_of tables hearer turn.stream) (subscription_after tables turn hearer) (peers tables turn.stream) (peers_after tables turn)
      (messages_in tables turn.stream hearer) joined joined_is (saw tables turn hearer) (sees tables turn hearer) (stream_at tables turn.stream) turn.row
      (needs_row (role_of tables hearer) (stream_at tables turn.stream) (is_subscribed tables hearer turn.stream))
      (needs_row (role_of tables hearer) turn.row (is_some (subscription_after tables turn hearer)))
      ∙ sym (six (view_of tables hearer) (view_of (after tables rise turn new_streams new_subscriptions one own) hearer) (realm_stays (shown_realm tables.realm)) (no_user tables rise.users)
      (stream_turn tables rise turn new_streams new_subscriptions one own hearer) (subscription_turn tables rise turn new_streams new_subscriptions one own hearer)
      (peer_turn tables rise turn new_streams new_subscriptions one own hearer) (message_turn tables rise turn new_streams new_subscriptions one own hearer))
