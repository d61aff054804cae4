-- What a user hears of a new message is what it changes in the user's view.
use Rattle.std.proofs.Common.{◌≡◌, ◌==◌, Bool, true, false, not, ◌&&◌, ◌||◌, cond, List, [], ◌∷◌, ◌++◌, fold, map, Ordering, Less, Equal, Greater, Option, None, Some, is_some, option_map, option_and_then, sym, ap, refl, ◌∙◌}
use Rattle.std.specs.Ordering.{is_eq, ordering_then}
use Rattle.std.specs.BTreeMap.{insert_entry, is_at}
use Rattle.std.specs.List.{cons_option}
use Rattle.std.specs.Option.{option_map_or}
use Rattle.std.proofs.lemmas.Bool.{eqb-true}
use Rattle.ev_rows.specs.Rows.{SortedByKey, both_of, fresh, keys_of, one_of, one_row, only_if, row_at}
use Rattle.ev_rows.proofs.RiseLemmas.{rise_tail}
use Rattle.ev_rows.proofs.RowLemmas.{AgreeBut-insert_entry, at_itself, at_turned, later_row, row_at-insert_entry, row_at_head}
use Rattle.ev_base.specs.Orders.{message_cmp, message_order, message_user_cmp, message_user_order, reaction_cmp, reaction_order, user_cmp, user_order}
use Rattle.ev_base.specs.declared.ids.UserId.{UserId}
use Rattle.ev_base.specs.declared.ids.MessageId.{MessageId}
use Rattle.ev_types.specs.Audiences.{has_user}
use Rattle.ev_types.specs.Changes.{arrivals, changes_between, full_message}
use Rattle.ev_types.specs.Sections.{ReactionKey}
use Rattle.ev_types.specs.declared.event.Event.TheVariants.{MessageGone, MessageNew}
use Rattle.ev_types.specs.declared.notice.Audience.TheVariants.{Only}
use Rattle.ev_types.specs.declared.rows.ShownMessage.{ShownMessage}
use Rattle.nt_rules.specs.Parts.{heard_of, to}
use Rattle.nt_rules.proofs.Heard.{heard_both, heard_to, same_at}
use Rattle.nt_rules.proofs.Sight.{at_messages, whole_message}
use Rattle.nt_posts.specs.PostParts.{new_message, others, sent_parts}
use Rattle.nt_posts.proofs.OneMessage.{Messages, Reactions, Receipts, absent, one_comes_or_goes, with_lists}
use Rattle.zr_types.specs.Effects.{new_receipt}
use Rattle.zr_types.specs.declared.posts.Message.{Message}
use Rattle.zr_types.specs.Sound.{TablesSorted}
use Rattle.zr_types.specs.Tables.{Tables, message_at, receipt_of}
use Rattle.zr_types.specs.Visibility.{is_among, same_user, sees_at, sees_message}
use Rattle.zw_views.specs.Views.{messages, reactions, shown_message, view_of}

pub same_turned : (a b : UserId) → same_user a b ≡ same_user b a
same_turned a b = same_at a b ∙ at_turned user_order b a ∙ sym (same_at b a)

same_is : (a b : UserId) → same_user a b ≡ true → a ≡ b
same_is a b is = ap (λ n. record { 0 = n }) (eqb-true a.0 b.0 is)

module _ (user sender : UserId) where
  -- the others have a user who is among all and isn't the sender
  has_others : (users : List UserId) → has_user user (Only (others sender users)) ≡ (is_among user users && not (same_user user sender))
  has_others [] = refl
  has_others (x ∷ users) =
      here (same_user user x) refl (same_user x sender) refl (has_others users)
    where
      none : (b : Bool) → (b && not true) ≡ false
      none true = refl
      none false = refl

      skipped : (b : Bool) → (x.0 == user.0) ≡ false → has_user user (Only (cond b (x ∷ others sender users) (others sender users))) ≡ has_user user (Only (others sender users))
      skipped true off = ap (λ c. c || has_user user (Only (others sender users))) off
      skipped false off = refl

      here : (at : Bool) → same_user user x ≡ at → (is : Bool) → same_user x sender ≡ is
          → has_user user (Only (others sender users)) ≡ (is_among user users && not (same_user user sender))
          → has_user user (Only (cond (not (same_user x sender)) (x ∷ others sender users) (others sender users))) ≡ ((same_user user x || is_among user users) && not (same_user user sender))
      here false off is same further = skipped (not (same_user x sender)) (same_turned x user ∙ off) ∙ further ∙ sym (ap (λ b. (b || is_among user users) && not (same_user user sender)) off)
      here true at true same further =
          let own : same_user user sender ≡ true = ap (λ u. same_user u sender) (same_is user x at) ∙ same in
          ap (λ b. has_user user (Only (cond (not b) (x ∷ others sender users) (others sender users)))) same
          ∙ further
          ∙ ap (λ b. is_among user users && not b) own ∙ none (is_among user users)
          ∙ sym (none (same_user user x || is_among user users)) ∙ sym (ap (λ b. (same_user user x || is_among user users) && not b) own)
      here true at false same further =
          let own : same_user user sender ≡ false = ap (λ u. same_user u sender) (same_is user x at) ∙ same in
          ap (λ b. has_user user (Only (cond (not b) (x ∷ others sender users) (others sender users)))) same
          ∙ ap (λ b. b || has_user user (Only (others sender users))) (same_turned x user ∙ at)
          ∙ sym ((λ i. (at i || is_among user users) && not (own i)))

module _ (new : MessageId) (sender user : UserId) where
  abbrev pub given : Receipts → List UserId → Receipts
  given rows receivers = fold (λ rows user. insert_entry message_user_cmp rows (new, user) (new_receipt sender user)) rows receivers

  -- a new receipt isn't one for another message
  other_receipt : (q : MessageId) → is_at (message_cmp q) new ≡ false → (other : UserId) → is_at (message_user_cmp (q, user)) (new, other) ≡ false
  other_receipt q off other = go (message_cmp q new) off
    where
      go : (o : Ordering) → is_eq o ≡ false → is_eq (ordering_then o (user_cmp user other)) ≡ false
      go Less is = refl
      go Equal is = cc
      go Greater is = refl

  given_elsewhere : (q : MessageId) → is_at (message_cmp q) new ≡ false → (receivers : List UserId) (rows : Receipts)
      → row_at message_user_cmp (given rows receivers) (q, user) ≡ row_at message_user_cmp rows (q, user)
  given_elsewhere q off [] rows = refl
  given_elsewhere q off (other ∷ receivers) rows =
      given_elsewhere q off receivers (insert_entry message_user_cmp rows (new, other) (new_receipt sender other))
      ∙ row_at-insert_entry message_user_order rows (new, other) (new_receipt sender other) (q, user)
      ∙ ap (λ b. cond b (Some (new_receipt sender other)) (row_at message_user_cmp rows (q, user))) (other_receipt q off other)

  -- and each receiver gets one
  own_receipt : (other : UserId) → is_at (message_user_cmp (new, user)) (new, other) ≡ same_user user other
  own_receipt other = go (message_cmp new new) (at_itself message_order new) ∙ at_turned user_order user other ∙ sym (same_at user other)
    where
      go : (o : Ordering) → is_eq o ≡ true → is_eq (ordering_then o (user_cmp user other)) ≡ is_at (user_cmp user) other
      go Less is = cc
      go Equal is = refl
      go Greater is = cc

  pub given_here : (receivers : List UserId) (rows : Receipts)
      → row_at message_user_cmp (given rows receivers) (new, user) ≡ cond (is_among user receivers) (Some (new_receipt sender user)) (row_at message_user_cmp rows (new, user))
  given_here [] rows = refl
  given_here (other ∷ receivers) rows =
      given_here receivers (insert_entry message_user_cmp rows (new, other) (new_receipt sender other))
      ∙ ap (cond (is_among user receivers) (Some (new_receipt sender user)))
      (row_at-insert_entry message_user_order rows (new, other) (new_receipt sender other) (new, user)
      ∙ ap (λ b. cond b (Some (new_receipt sender other)) (row_at message_user_cmp rows (new, user))) (own_receipt other))
      ∙ go (is_among user receivers) (same_user user other) refl
    where
      go : (later own : Bool) → same_user user other ≡ own
          → cond later (Some (new_receipt sender user)) (cond own (Some (new_receipt sender other)) (row_at message_user_cmp rows (new, user)))
          ≡ cond (own || later) (Some (new_receipt sender user)) (row_at message_user_cmp rows (new, user))
      go true true is = refl
      go true false is = refl
      go false true is = ap (λ u. Some (new_receipt sender u)) (sym (same_is user other is))
      go false false is = refl

-- reactions to other messages are none of this one
none_of : (new : MessageId) (row : ShownMessage) (marks : Reactions) → SortedByKey reaction_cmp marks
    → ((key : ReactionKey) → is_some (row_at reaction_cmp marks key) ≡ true → is_at (message_cmp new) key.0 ≡ false) → (full_message marks (new, row)).reactions ≡ []
none_of new row [] rise apart = refl
none_of new row (mark ∷ marks) rise apart =
    ap (λ b. cons_option (only_if b (Some (mark.0.1, mark.0.2))) (full_message marks (new, row)).reactions) (apart mark.0 (ap is_some (row_at_head reaction_order mark marks)))
    ∙ none_of new row marks (rise_tail reaction_cmp mark marks rise) (λ key is. go key (row_at reaction_cmp marks key) refl is)
  where
    go : (key : ReactionKey) (o : Option (Unit {0})) → row_at reaction_cmp marks key ≡ o → is_some o ≡ true → is_at (message_cmp new) key.0 ≡ false
    go key None is there = cc
    go key (Some v) is there = apart key (ap is_some (later_row reaction_order mark marks rise key v is))

module _ (tables : Tables) (rise : TablesSorted tables) (new : MessageId) (row : Message) (receivers : List UserId) where
  abbrev list : Messages
  list = insert_entry message_cmp tables.messages new row

  abbrev receipts : Receipts
  receipts = given new row.sender row.sender tables.receipts receivers

  abbrev after : Tables
  after = with_lists tables list receipts tables.reactions

  -- the number is new, the sender is among those who receive the message, and all of these see it
  pub record IsSent : Type 0 where
    pub rises : TablesSorted after
    pub no_row : message_at tables new ≡ None
    pub no_receipt : (user : UserId) → receipt_of tables user new ≡ None
    pub no_reaction : (key : ReactionKey) → is_some (row_at reaction_cmp tables.reactions key) ≡ true → is_at (message_cmp new) key.0 ≡ false
    pub has_sender : is_among row.sender receivers ≡ true
    pub seen : (user : UserId) → is_among user receivers ≡ true → sees_at after user new row.sender row.place ≡ true

  module _ (sent : IsSent) (user : UserId) where
    own : receipt_of after user new ≡ cond (is_among user receivers) (Some (new_receipt row.sender user)) None
    own = given_here new row.sender user receivers tables.receipts ∙ ap (cond (is_among user receivers) (Some (new_receipt row.sender user))) (sent.no_receipt user)

    was : row_at message_cmp (messages tables user) new ≡ None
    was =
        at_messages tables rise user new
        ∙ ap (option_and_then (λ row. only_if (sees_message tables user new) (option_map (shown_message row) (receipt_of tables user new)))) sent.no_row

    row_is : message_at after new ≡ Some row
    row_is = row_at-insert_entry message_order tables.messages new row new ∙ ap (λ b. cond b (Some row) (message_at tables new)) (at_itself message_order new)

    abbrev shown : Option ShownMessage
    shown = cond (is_among user receivers) (Some (shown_message row (new_receipt row.sender user))) None

    sees : is_among user receivers ≡ true → sees_message after user new ≡ true
    sees among = ap (λ o. option_map_or (λ row. sees_at after user new row.sender row.place) o false) row_is ∙ sent.seen user among

    is : row_at message_cmp (messages after user) new ≡ shown
    is =
        at_messages after sent.rises user new
        ∙ (λ i. option_and_then (λ row. only_if (sees_message after user new) (option_map (shown_message row) (own i))) (row_is i))
        ∙ go (is_among user receivers) refl
      where
        nothing : (b : Bool) → only_if {X = ShownMessage} b None ≡ None
        nothing true = refl
        nothing false = refl

        go : (b : Bool) → is_among user receivers ≡ b
            → only_if (sees_message after user new) (option_map (shown_message row) (cond b (Some (new_receipt row.sender user)) None))
            ≡ cond b (Some (shown_message row (new_receipt row.sender user))) None
        go true among = ap (λ b. only_if b (Some (shown_message row (new_receipt row.sender user)))) (sees among)
        go false off = nothing (sees_message after user new)

    -- the message is new in a view, with no reactions
    whole : is_among user receivers ≡ true → (read : Bool) → (user.0 == row.sender.0) ≡ read
        → full_message (reactions after user) (new, shown_message row (new_receipt row.sender user)) ≡ new_message new row read
    whole among read reads =
        let here : ShownMessage = shown_message row (new_receipt row.sender user) in
        whole_message after sent.rises user (new, here)
        (λ i. sees among i && is_some ((own ∙ ap (λ b. cond b (Some (new_receipt row.sender user)) None) among) i))
        ∙ (λ i. record {
          message = new;
          row = shown_message row (record { read = reads i; starred = false; collapsed = false });
          reactions = none_of new here tables.reactions rise.reactions sent.no_reaction i;
        })

    one_comes : (read : Bool) → (user.0 == row.sender.0) ≡ read → (b : Bool) → is_among user receivers ≡ b
        → arrivals (map (full_message (reactions after user)) (one_row new (fresh absent (cond b (Some (shown_message row (new_receipt row.sender user))) None))))
        ++ one_of MessageGone (keys_of (one_row new (fresh (cond b (Some (shown_message row (new_receipt row.sender user))) None) absent)))
        ≡ cond b (MessageNew (new_message new row read) ∷ []) []
    one_comes read reads true among = ap (λ full. MessageNew full ∷ []) (whole among read reads)
    one_comes read reads false off = refl

    never_both : both_of absent shown ≡ None
    never_both = refl

    sent_changes : (read : Bool) → (user.0 == row.sender.0) ≡ read → changes_between (view_of tables user) (view_of after user) ≡ cond (is_among user receivers) (MessageNew (new_message new row read) ∷ []) []
    sent_changes read reads =
        one_comes_or_goes tables list receipts tables.reactions user rise sent.rises new
        (AgreeBut-insert_entry message_order tables.messages new row) (λ q off. given_elsewhere new row.sender user q off receivers tables.receipts) (λ key off. refl)
        None shown was is never_both
        ∙ one_comes read reads (is_among user receivers) refl

    heard : heard_of user (sent_parts new row receivers)
        ≡ cond (same_user row.sender user || false) (MessageNew (new_message new row true) ∷ []) []
        ++ cond (is_among user receivers && not (same_user user row.sender)) (MessageNew (new_message new row false) ∷ []) []
    heard =
        heard_both user (to (Only (row.sender ∷ [])) (MessageNew (new_message new row true) ∷ [])) (to (Only (others row.sender receivers)) (MessageNew (new_message new row false) ∷ []))
        ∙ (λ i. heard_to user (Only (row.sender ∷ [])) (MessageNew (new_message new row true) ∷ []) i
        ++ heard_to user (Only (others row.sender receivers)) (MessageNew (new_message new row false) ∷ []) i)
        ∙ ap (λ b. cond (same_user row.sender user || false) (MessageNew (new_message new row true) ∷ []) [] ++ cond b (MessageNew (new_message new row false) ∷ []) []) (has_others user row.sender receivers)

    pub sent_told : heard_of user (sent_parts new row receivers) ≡ changes_between (view_of tables user) (view_of after user)
    sent_told = heard ∙ go (same_user user row.sender) refl
      where
        empty : (b : Bool) → (b && false) ≡ false
        empty true = refl
        empty false = refl

        full : (b : Bool) → (b && true) ≡ b
        full true = refl
        full false = refl

        go : (b : Bool) → same_user user row.sender ≡ b
            → cond (same_user row.sender user || false) (MessageNew (new_message new row true) ∷ []) []
            ++ cond (is_among user receivers && not (same_user user row.sender)) (MessageNew (new_message new row false) ∷ []) []
            ≡ changes_between (view_of tables user) (view_of after user)
        go true is_sender =
            let among : is_among user receivers ≡ true = ap (λ u. is_among u receivers) (same_is user row.sender is_sender) ∙ sent.has_sender in
            (λ i. cond ((same_turned row.sender user ∙ is_sender) i || false) (MessageNew (new_message new row true) ∷ []) []
            ++ cond (is_among user receivers && not (is_sender i)) (MessageNew (new_message new row false) ∷ []) [])
            ∙ ap (λ b. (MessageNew (new_message new row true) ∷ []) ++ cond b (MessageNew (new_message new row false) ∷ []) []) (empty (is_among user receivers))
            ∙ ap (λ b. cond b (MessageNew (new_message new row true) ∷ []) []) (sym among)
            ∙ sym (sent_changes true is_sender)
        go false other =
            (λ i. cond ((same_turned row.sender user ∙ other) i || false) (MessageNew (new_message new row true) ∷ []) []
            ++ cond (is_among user receivers && not (other i)) (MessageNew (new_message new row false) ∷ []) [])
            ∙ ap (λ b. cond b (MessageNew (new_message new row false) ∷ []) []) (full (is_among user receivers))
            ∙ sym (sent_changes false other)
