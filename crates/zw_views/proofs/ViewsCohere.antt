-- Every view of tables that are sorted is coherent.
use Rattle.std.proofs.Common.{◌≡◌, Bool, true, false, ◌&&◌, Option, None, Some, is_some, option_map, option_and_then, refl, ap, sym, ◌∙◌}
use Rattle.std.specs.Option.{option_map_or}
use Rattle.std.proofs.lemmas.Bool.{false≢true}
use Rattle.ev_rows.specs.Rows.{only_if, row_at}
use Rattle.ev_rows.proofs.RowLemmas.{row_at-sift}
use Rattle.ev_base.specs.declared.ids.UserId.{UserId}
use Rattle.ev_base.specs.declared.ids.StreamId.{StreamId}
use Rattle.ev_base.specs.declared.ids.MessageId.{MessageId}
use Rattle.ev_base.specs.declared.kinds.Role.{Role}
use Rattle.ev_base.specs.Orders.{stream_cmp, message_cmp, reaction_cmp, stream_order, message_order, reaction_order}
use Rattle.zr_types.specs.declared.streams.Stream.{Stream}
use Rattle.zr_types.specs.declared.posts.Message.{Message}
use Rattle.zr_types.specs.declared.posts.Receipt.{Receipt}
use Rattle.zr_types.specs.Tables.{Tables, message_at, receipt_of, stream_at, subscription_of}
use Rattle.zr_types.specs.Sound.{TablesSorted}
use Rattle.zr_types.specs.Visibility.{is_active_user, is_subscribed, role_of, sees_at, sees_by, sees_message, sees_stream}
use Rattle.zw_views.specs.RowViews as row
use Rattle.zw_views.specs.Views.{has_message, messages, shown_message, shown_stream, shown_subscription, streams, view_of}
use Rattle.ev_types.specs.Comparable.{IsCoherent}
use Rattle.zw_views.proofs.ViewLemmas.{sections_rise, at_subscribers}

-- a row that is made where a test holds is made of a row that is there, and the test holds
made_where : {V W : Type 0} (test : Bool) (make : V → Option W) (cell : Option V) → is_some (option_and_then (λ v. only_if test (make v)) cell) ≡ true
    → (test ≡ true) × (v : V) × (cell ≡ Some v) × (is_some (make v) ≡ true)
made_where test make None is = absurd (false≢true is)
made_where true make (Some v) is = (refl, v, refl, is)
made_where false make (Some v) is = absurd (false≢true is)

both_hold : (a b : Bool) → (a && b) ≡ true → (a ≡ true) × (b ≡ true)
both_hold true b is = (refl, is)
both_hold false b is = absurd (false≢true is)

module _ (tables : Tables) (rise : TablesSorted tables) (user : UserId) where
  sees_there : (stream : StreamId) → sees_stream tables user stream ≡ true → (there : Stream) × (stream_at tables stream ≡ Some there)
  sees_there stream sees = go (role_of tables user) (stream_at tables stream) sees
    where
      go : (role : Option Role) (cell : Option Stream) → sees_by role cell (is_subscribed tables user stream) ≡ true → (there : Stream) × (cell ≡ Some there)
      go None cell is = absurd (false≢true is)
      go (Some role) None is = absurd (false≢true is)
      go (Some role) (Some there) is = (there, refl)

  stream_shown : (stream : StreamId) → sees_stream tables user stream ≡ true → is_some (row_at stream_cmp (streams tables user) stream) ≡ true
  stream_shown stream sees =
      let there = sees_there stream sees in
      ap is_some (row_at-sift stream_order (row.stream_in tables user) tables.streams stream rise.streams)
      ∙ ap (λ (b : Bool). is_some (option_and_then (λ v. only_if b (Some (shown_stream v))) (stream_at tables stream))) sees
      ∙ ap (λ (o : Option Stream). is_some (option_and_then (λ v. only_if true (Some (shown_stream v))) o)) there.1

  message_shown : (message : MessageId) → has_message tables user message ≡ true → is_some (row_at message_cmp (messages tables user) message) ≡ true
  message_shown message has =
      let both = both_hold (sees_message tables user message) (is_some (receipt_of tables user message)) has in
      ap is_some (row_at-sift message_order (row.message_in tables user) tables.messages message rise.messages)
      ∙ go (message_at tables message) (sees_message tables user message) both.0 (receipt_of tables user message) both.1 (λ none. ap (λ (o : Option Message). option_map_or (λ m. sees_at tables user message m.sender m.place) o false) none)
    where
      go : (cell : Option Message) (sees : Bool) → sees ≡ true → (receipt : Option Receipt) → is_some receipt ≡ true → (cell ≡ None → sees ≡ false)
          → is_some (option_and_then (λ v. only_if sees (option_map (shown_message v) receipt)) cell) ≡ true
      go None sees is receipt given unseen = absurd (false≢true (sym (unseen refl) ∙ is))
      go (Some v) false is receipt given unseen = absurd (false≢true is)
      go (Some v) true is None given unseen = absurd (false≢true given)
      go (Some v) true is (Some r) given unseen = refl

  pub cohere : IsCoherent (view_of tables user)
  cohere = record {
    rises = sections_rise tables rise user;
    starred = refl;
    unread = refl;
    reactions = λ key is. message_shown key.0
        (made_where (has_message tables user key.0) (λ v. Some v) (row_at reaction_cmp tables.reactions key)
        (sym (ap is_some (row_at-sift reaction_order (row.reaction_in tables user) tables.reactions key rise.reactions)) ∙ is)).0;
    subscriptions = λ stream is. stream_shown stream
        (made_where (sees_stream tables user stream) (λ v. option_map shown_subscription (subscription_of tables user stream)) (stream_at tables stream)
        (sym (ap is_some (row_at-sift stream_order (row.subscription_in tables user) tables.streams stream rise.streams)) ∙ is)).0;
    subscribers = λ key is. stream_shown key.0
        (both_hold (sees_stream tables user key.0) (is_active_user tables key.1)
        (made_where (sees_stream tables user key.0 && is_active_user tables key.1) (λ v. Some tt) (subscription_of tables key.1 key.0)
        (sym (ap is_some (at_subscribers tables rise user key.0 key.1)) ∙ is)).0).0;
  }
