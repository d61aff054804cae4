-- The messages that stay in a view while some of them move.
use Rattle.std.proofs.Common.{◌≡◌, ℕ, Bool, true, false, ◌&&◌, cond, List, [], ◌∷◌, ◌++◌, map, fold, Option, None, Some, option_map, sym, ap, refl, ◌∙◌, append-nil, append_assoc}
use Rattle.std.specs.List.{AllByRecursion, cons_option}
use Rattle.std.proofs.lemmas.Cmp.{tied_itself}
use Rattle.std.proofs.lemmas.Option.{same_Some}
use Rattle.ev_rows.specs.KeyOrder.{KeyOrder}
use Rattle.ev_rows.specs.Rows.{both_of, keys_of, one_of, only_if, sift}
use Rattle.ev_rows.proofs.ChangeLemmas.{both_of-same}
use Rattle.ev_rows.proofs.RowLemmas.{at_itself}
use Rattle.ev_base.specs.Orders.{pair_order, stream_order, text_order}
use Rattle.ev_base.specs.declared.ids.UserId.{UserId}
use Rattle.ev_base.specs.declared.ids.StreamId.{StreamId}
use Rattle.ev_base.specs.declared.ids.MessageId.{MessageId}
use Rattle.ev_base.specs.declared.place.Place.TheVariants as place
use Rattle.ev_types.specs.declared.rows.ShownMessage.{ShownMessage}
use Rattle.ev_types.specs.declared.event.Event.TheVariants.{MessageMoved}
use Rattle.ev_types.specs.Changes.{Moves, StreamPlace, move_events, place_cmp, same_place, with_move}
use Rattle.zr_types.specs.declared.posts.Message.{Message}
use Rattle.zr_types.specs.declared.posts.Receipt.{Receipt}
use Rattle.zr_types.specs.Tables.{Tables, receipt_of}
use Rattle.zw_views.specs.RowViews.{message_in}
use Rattle.zw_views.specs.Views.{shown_message}
use Rattle.nt_rules.proofs.FieldsStay.{place_stays, with_kept}
use Rattle.nt_moves.specs.MoveParts.{at_topic}
use Rattle.nt_moves.proofs.MoveChanges.{SameText, picked}
use Rattle.nt_moves.proofs.MoveTold.{shown_at, shown_with}

place_order : KeyOrder place_cmp
place_order = pair_order stream_order text_order

module _ (target : StreamPlace) where
  -- the moves, where all go to one place
  abbrev gathered : List MessageId → Moves
  gathered messages = one_of (λ list. (target, list)) messages

  one_more : (done : List MessageId) (message : MessageId) → with_move (gathered done) target message ≡ gathered (done ++ message ∷ [])
  one_more [] message = refl
  one_more (first ∷ done) message =
      let at = at_itself place_order target in
      let same = tied_itself place_order.total target in
      rw (at, same) refl

module _ (before : Tables) (user : UserId) (picks : MessageId × Message → Bool) (from into : StreamId) (old_topic topic : List ℕ) (saw sees : Bool) where
  abbrev pub both_shown : MessageId × Message → Option (ShownMessage × ShownMessage)
  both_shown row = both_of (shown_with before user picks (at_topic from old_topic) saw row) (shown_with before user picks (at_topic into topic) sees row)

  -- their content and flags stay
  same_texts : (row : MessageId × Message) (p a b : Bool) (both : ShownMessage × ShownMessage)
      → both_of (cond p (shown_at before user picks a (at_topic from old_topic) row) (message_in before user row)) (cond p (shown_at before user picks b (at_topic into topic) row) (message_in before user row)) ≡ Some both
      → SameText both
  same_texts row false a b both is = go (message_in before user row) (sym (both_of-same (message_in before user row)) ∙ is)
    where
      go : (o : Option ShownMessage) → option_map (λ v. (v, v)) o ≡ Some both → SameText both
      go None is = cc
      go (Some v) is = let same = same_Some _ _ is in (
        ap (λ (pair : ShownMessage × ShownMessage). pair.1.content) (sym same) ∙ ap (λ (pair : ShownMessage × ShownMessage). pair.0.content) same,
        ap (λ (pair : ShownMessage × ShownMessage). pair.1.flags) (sym same) ∙ ap (λ (pair : ShownMessage × ShownMessage). pair.0.flags) same,
      )
  same_texts row true true true both is = go (receipt_of before user row.0) is
    where
      go : (o : Option Receipt) → both_of (option_map (shown_message (at_topic from old_topic row.1)) o) (option_map (shown_message (at_topic into topic row.1)) o) ≡ Some both → SameText both
      go None is = cc
      go (Some receipt) is = let same = same_Some _ _ is in (
        ap (λ (pair : ShownMessage × ShownMessage). pair.1.content) (sym same) ∙ ap (λ (pair : ShownMessage × ShownMessage). pair.0.content) same,
        ap (λ (pair : ShownMessage × ShownMessage). pair.1.flags) (sym same) ∙ ap (λ (pair : ShownMessage × ShownMessage). pair.0.flags) same,
      )
  same_texts row true true false both is = none (option_map (shown_message (at_topic from old_topic row.1)) (receipt_of before user row.0)) is
    where
      none : (o : Option ShownMessage) → both_of {Y = ShownMessage} o None ≡ Some both → SameText both
      none None is = cc
      none (Some v) is = cc
  same_texts row true false b both is = cc

  pub texts_stay : (rows : List (MessageId × Message)) → AllByRecursion (λ kept. SameText kept.1) (sift both_shown rows)
  texts_stay [] = tt
  texts_stay (row ∷ rows) = go (both_shown row) refl (texts_stay rows)
    where
      go : (o : Option (ShownMessage × ShownMessage)) → both_shown row ≡ o → AllByRecursion (λ kept. SameText kept.1) (sift both_shown rows)
          → AllByRecursion (λ kept. SameText kept.1) (cons_option (option_map (λ w. (row.0, w)) o) (sift both_shown rows))
      go None is further = further
      go (Some both) is further = (same_texts row (picks row) saw sees both is, further)

  module _ (apart : same_place (place.Stream from old_topic) (place.Stream into topic) ≡ false) where
    abbrev target : StreamPlace
    target = (into, topic)

    -- those that move are the picked ones, where both places are seen
    abbrev pub movers : MessageId × Message → Option ShownMessage
    movers row = cond (saw && sees) (picked before user picks (at_topic into topic) row) None

    step : (row : MessageId × Message) (rows : List (MessageId × Message)) (p a b : Bool) (done : List MessageId)
        → ((done : List MessageId) → fold with_kept (gathered target done) (sift both_shown rows) ≡ gathered target (done ++ keys_of (sift movers rows)))
        → fold with_kept (gathered target done) (cons_option (option_map (λ w. (row.0, w))
        (both_of (cond p (shown_at before user picks a (at_topic from old_topic) row) (message_in before user row)) (cond p (shown_at before user picks b (at_topic into topic) row) (message_in before user row)))) (sift both_shown rows))
        ≡ gathered target (done ++ keys_of (cons_option (option_map (λ w. (row.0, w)) (cond (a && b) (only_if p (option_map (shown_message (at_topic into topic row.1)) (receipt_of before user row.0))) None)) (sift movers rows)))
    step row rows false a b done further =
        ap (λ o. fold with_kept (gathered target done) (cons_option (option_map (λ w. (row.0, w)) o) (sift both_shown rows))) (both_of-same (message_in before user row))
        ∙ go (message_in before user row)
        ∙ none a b
      where
        go : (o : Option ShownMessage) → fold with_kept (gathered target done) (cons_option (option_map (λ w. (row.0, w)) (option_map (λ v. (v, v)) o)) (sift both_shown rows)) ≡ gathered target (done ++ keys_of (sift movers rows))
        go None = further done
        go (Some v) = ap (λ moves. fold with_kept moves (sift both_shown rows)) (stays (gathered target done) v) ∙ further done
          where
            stays : (moves : Moves) (v : ShownMessage) → with_kept moves (row.0, (v, v)) ≡ moves
            stays moves v = rw (place_stays v.place) refl

        none : (a b : Bool) → gathered target (done ++ keys_of (sift movers rows))
            ≡ gathered target (done ++ keys_of (cons_option (option_map (λ w. (row.0, w)) (cond (a && b) (only_if {X = ShownMessage} false (option_map (shown_message (at_topic into topic row.1)) (receipt_of before user row.0))) None)) (sift movers rows)))
        none true true = refl
        none true false = refl
        none false b = refl
    step row rows true true true done further = go (receipt_of before user row.0)
      where
        go : (o : Option Receipt) → fold with_kept (gathered target done) (cons_option (option_map (λ w. (row.0, w))
            (both_of (option_map (shown_message (at_topic from old_topic row.1)) o) (option_map (shown_message (at_topic into topic row.1)) o))) (sift both_shown rows))
            ≡ gathered target (done ++ keys_of (cons_option (option_map (λ w. (row.0, w)) (option_map (shown_message (at_topic into topic row.1)) o)) (sift movers rows)))
        go None = further done
        go (Some receipt) =
            ap (λ moves. fold with_kept moves (sift both_shown rows)) (moves_on (gathered target done) receipt ∙ one_more target done row.0)
            ∙ further (done ++ row.0 ∷ [])
            ∙ ap (gathered target) (append_assoc done (row.0 ∷ []) (keys_of (sift movers rows)))
          where
            moves_on : (moves : Moves) (receipt : Receipt)
                → with_kept moves (row.0, (shown_message (at_topic from old_topic row.1) receipt, shown_message (at_topic into topic row.1) receipt)) ≡ with_move moves target row.0
            moves_on moves receipt = rw apart refl
    step row rows true true false done further = go (option_map (shown_message (at_topic from old_topic row.1)) (receipt_of before user row.0))
      where
        go : (o : Option ShownMessage) → fold with_kept (gathered target done) (cons_option (option_map (λ w. (row.0, w)) (both_of {Y = ShownMessage} o None)) (sift both_shown rows)) ≡ gathered target (done ++ keys_of (sift movers rows))
        go None = further done
        go (Some v) = further done
    step row rows true false b done further = further done

    gathers : (rows : List (MessageId × Message)) (done : List MessageId) → fold with_kept (gathered target done) (sift both_shown rows) ≡ gathered target (done ++ keys_of (sift movers rows))
    gathers [] done = ap (gathered target) (sym (append-nil done))
    gathers (row ∷ rows) done = step row rows (picks row) saw sees done (gathers rows)

    pub moves_are : (rows : List (MessageId × Message)) → move_events (sift both_shown rows) ≡ one_of (λ messages. MessageMoved messages into topic) (keys_of (sift movers rows))
    moves_are rows = ap (λ (moves : Moves). map (λ group. MessageMoved group.1 group.0.0 group.0.1) moves) (gathers rows []) ∙ told (keys_of (sift movers rows))
      where
        told : (messages : List MessageId) → map (λ group. MessageMoved group.1 group.0.0 group.0.1) (gathered target messages) ≡ one_of (λ list. MessageMoved list into topic) messages
        told [] = refl
        told (message ∷ messages) = refl
