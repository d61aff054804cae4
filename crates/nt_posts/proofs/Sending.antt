-- A message that a check accepted: its number is new, and those who receive it see it.
use Rattle.std.proofs.Common.{◌≡◌, ℕ, ◌+◌, ◌==◌, Bool, true, false, not, ◌&&◌, ◌||◌, cond, bytes_eq, List, [], ◌∷◌, filter, Option, None, Some, is_some, option_map, option_and_then, sym, ap, refl, ◌∙◌, arith}
use Rattle.std.specs.Prelude.{nat_le}
use Rattle.std.specs.BTreeMap.{insert_entry, is_at}
use Rattle.std.specs.Option.{option_map_or}
use Rattle.std.proofs.lemmas.Bool.{and_from, and_parts, eqb-true, false≢true, leb-true}
use Rattle.std.proofs.lemmas.Option.{same_Some}
use Rattle.cmd_rules.proofs.DistinctLemmas.{list_any-distinct}
use Rattle.ev_rows.specs.Rows.{keys_of, only_if, row_at}
use Rattle.ev_rows.proofs.RiseLemmas.{rise-insert_entry}
use Rattle.ev_rows.proofs.RowLemmas.{at_same, row_at-filter}
use Rattle.ev_base.specs.Orders.{message_cmp, message_order, message_user_cmp, message_user_order, reaction_cmp, user_order}
use Rattle.ev_base.specs.declared.ids.UserId.{UserId}
use Rattle.ev_base.specs.declared.ids.StreamId.{StreamId}
use Rattle.ev_base.specs.declared.ids.MessageId.{MessageId}
use Rattle.ev_base.specs.declared.kinds.Role.{Role}
use Rattle.ev_base.specs.declared.place.Place.TheVariants as place
use Rattle.ev_types.specs.Audiences.{has_user}
use Rattle.ev_types.specs.Sections.{ReactionKey}
use Rattle.ev_types.specs.declared.notice.Audience.TheVariants.{Only}
use Rattle.nt_rules.proofs.FieldsStay.{same_number}
use Rattle.nt_rules.proofs.Heard.{has_keys}
use Rattle.nt_posts.specs.PostParts.{sent_row}
use Rattle.nt_posts.proofs.SentTold.{IsSent, given, given_here, same_turned}
use Rattle.zr_types.specs.Commands.{direct_receivers, first_of, stream_meant, stream_receivers}
use Rattle.zr_types.specs.Effects.{new_receipt}
use Rattle.zr_types.specs.declared.command.StreamRef.{StreamRef}
use Rattle.zr_types.specs.declared.command.StreamRef.TheVariants as ref
use Rattle.zr_types.specs.declared.people.User.{User}
use Rattle.zr_types.specs.declared.posts.Message.{Message}
use Rattle.zr_types.specs.declared.posts.Receipt.{Receipt}
use Rattle.zr_types.specs.declared.streams.Stream.{Stream}
use Rattle.zr_types.specs.Sound.{IsSound, TablesSorted, is_message}
use Rattle.zr_types.specs.Tables.{Tables, message_at, receipt_of, stream_at, user_at}
use Rattle.zr_types.specs.Visibility.{has_protected_history, is_active_user, is_among, is_public, is_guest, is_subscribed, is_user, role_of, same_user, sees_by, sees_stream}
use Rattle.zw_views.proofs.RowChanges.{rise-fold}

-- the users of an audience are those among its list
among_heard : (user : UserId) (users : List UserId) → is_among user users ≡ has_user user (Only users)
among_heard user [] = refl
among_heard user (other ∷ users) = λ i. same_turned user other i || among_heard user users i

module _ (tables : Tables) (sent : ℕ) (rise : TablesSorted tables) (sound : IsSound tables sent) where
  abbrev new : MessageId
  new = record { 0 = sent + 1 }

  -- the next number is new
  no_row : message_at tables new ≡ None
  no_row = go (message_at tables new) refl
    where
      go : (o : Option Message) → message_at tables new ≡ o → o ≡ None
      go None is = refl
      go (Some row) is =
          let within = leb-true (sent + 1) sent (and_parts (nat_le 1 (sent + 1)) (nat_le (sent + 1) sent) (sound.messages_sent new row is)).1 in
          absurd (omega (arith, within))

  not_there : is_message tables new ≡ true → false ≡ true
  not_there there = sym (ap is_some no_row) ∙ there

  no_receipt : (user : UserId) → receipt_of tables user new ≡ None
  no_receipt user = go (receipt_of tables user new) refl
    where
      go : (o : Option Receipt) → receipt_of tables user new ≡ o → o ≡ None
      go None is = refl
      go (Some own) is = absurd (false≢true (not_there (and_parts (is_message tables new) (is_user tables user) (sound.receipts_are_valid (new, user) own is)).0))

  no_reaction : (key : ReactionKey) → is_some (row_at reaction_cmp tables.reactions key) ≡ true → is_at (message_cmp new) key.0 ≡ false
  no_reaction key there = go (row_at reaction_cmp tables.reactions key) refl there (is_at (message_cmp new) key.0) refl
    where
      go : (o : Option (Unit {0})) → row_at reaction_cmp tables.reactions key ≡ o → is_some o ≡ true → (b : Bool) → is_at (message_cmp new) key.0 ≡ b → b ≡ false
      go None is some b at = absurd (false≢true some)
      go (Some mark) is some false at = refl
      go (Some mark) is some true at =
          let valid = and_parts (is_message tables key.0) (is_user tables key.1) (sound.reactions_are_valid key mark is) in
          absurd (false≢true (not_there (ap (is_message tables) (at_same message_order new key.0 at) ∙ valid.0)))

  rises : (row : Message) (receivers : List UserId) → TablesSorted (record tables {
    messages = insert_entry message_cmp tables.messages new row;
    receipts = given new row.sender row.sender tables.receipts receivers;
  })
  rises row receivers = record {
    users = rise.users;
    streams = rise.streams;
    subscriptions = rise.subscriptions;
    messages = rise-insert_entry message_order.total new row tables.messages rise.messages;
    receipts = rise-fold message_user_order (λ rows user. insert_entry message_user_cmp rows (new, user) (new_receipt row.sender user))
        (λ rows user. rise-insert_entry message_user_order.total (new, user) (new_receipt row.sender user) rows) receivers tables.receipts rise.receipts;
    reactions = rise.reactions;
  }

  -- a receiver gets a receipt
  gets : (row : Message) (receivers : List UserId) (user : UserId) → is_among user receivers ≡ true
      → row_at message_user_cmp (given new row.sender row.sender tables.receipts receivers) (new, user) ≡ Some (new_receipt row.sender user)
  gets row receivers user among =
      given_here new row.sender user receivers tables.receipts
      ∙ ap (λ b. cond b (Some (new_receipt row.sender user)) (row_at message_user_cmp tables.receipts (new, user))) among

  module _ (actor : UserId) (moment : ℕ) (content : List ℕ) (active : is_active_user tables actor ≡ true) where
    -- who is active is there
    is_there : is_user tables actor ≡ true
    is_there = go (user_at tables actor) active
      where
        go : (o : Option User) → option_map_or (λ (row : User). row.is_active) o false ≡ true → is_some o ≡ true
        go None is = is
        go (Some row) is = refl

    -- the actor sees the stream that is meant
    named_is_seen : (name : List ℕ) (stream : StreamId) (rows : List (StreamId × Stream))
        → first_of (keys_of (filter (λ row. bytes_eq row.1.name name && sees_stream tables actor row.0) rows)) ≡ Some stream → sees_stream tables actor stream ≡ true
    named_is_seen name stream [] is = cc
    named_is_seen name stream (row ∷ rows) is = go (bytes_eq row.1.name name && sees_stream tables actor row.0) refl is (named_is_seen name stream rows)
      where
        go : (b : Bool) → (bytes_eq row.1.name name && sees_stream tables actor row.0) ≡ b
            → first_of (keys_of (cond b (row ∷ filter (λ row. bytes_eq row.1.name name && sees_stream tables actor row.0) rows) (filter (λ row. bytes_eq row.1.name name && sees_stream tables actor row.0) rows))) ≡ Some stream
            → (first_of (keys_of (filter (λ row. bytes_eq row.1.name name && sees_stream tables actor row.0) rows)) ≡ Some stream → sees_stream tables actor stream ≡ true)
            → sees_stream tables actor stream ≡ true
        go true test is further = ap (sees_stream tables actor) (sym (same_Some row.0 stream is)) ∙ (and_parts (bytes_eq row.1.name name) (sees_stream tables actor row.0) test).1
        go false test is further = further is

    pub meant_is_seen : (to : StreamRef) (stream : StreamId) → stream_meant tables actor to ≡ Some stream → sees_stream tables actor stream ≡ true
    meant_is_seen (ref.Id id) stream is = go (sees_stream tables actor id) refl is
      where
        go : (b : Bool) → sees_stream tables actor id ≡ b → only_if b (Some id) ≡ Some stream → sees_stream tables actor stream ≡ true
        go true sees is = ap (sees_stream tables actor) (sym (same_Some id stream is)) ∙ sees
        go false sees is = cc
    meant_is_seen (ref.Name name) stream is = named_is_seen name stream tables.streams is

    module _ (stream : StreamId) (sees : sees_stream tables actor stream ≡ true) where
      abbrev receives : UserId × User → Bool
      receives row = (row.1.is_active && is_subscribed tables row.0 stream) || row.0.0 == actor.0

      receives_cell : (user : UserId) → is_among user (stream_receivers tables actor stream) ≡ is_some (option_and_then (λ v. only_if (receives (user, v)) (Some v)) (user_at tables user))
      receives_cell user =
          among_heard user (stream_receivers tables actor stream)
          ∙ has_keys user (filter receives tables.users)
          ∙ ap is_some (row_at-filter user_order receives tables.users user rise.users)

      -- a stream that someone sees is seen by each subscriber
      subscriber_sees : (a b : Option Role) (o : Option Stream) (has : Bool) → sees_by a o has ≡ true → is_some b ≡ true → sees_by b o true ≡ true
      subscriber_sees None b o has is there = absurd (false≢true is)
      subscriber_sees (Some role) b None has is there = absurd (false≢true is)
      subscriber_sees (Some role) None (Some row) has is there = absurd (false≢true there)
      subscriber_sees (Some role) (Some other) (Some row) has is there =
          and_from (not row.archived) true (and_parts (not row.archived) (has || (is_public row.privacy && not (is_guest role))) is).0 refl

      receiver_sees : (user : UserId) → is_among user (stream_receivers tables actor stream) ≡ true → sees_stream tables user stream ≡ true
      receiver_sees user among = go (user_at tables user) refl (sym (receives_cell user) ∙ among)
        where
          own : (is_actor : Bool) → (user.0 == actor.0) ≡ is_actor → is_actor ≡ true → sees_stream tables user stream ≡ true
          own is_actor is so =
              let same : user ≡ actor = ap (λ n. record { 0 = n }) (eqb-true user.0 actor.0 (is ∙ so)) in
              ap (λ u. sees_stream tables u stream) same ∙ sees

          there : (row : User) → user_at tables user ≡ Some row → (subscribed : Bool) → is_subscribed tables user stream ≡ subscribed → (active : Bool) (is_actor : Bool) → (user.0 == actor.0) ≡ is_actor
              → is_some (only_if ((active && subscribed) || is_actor) (Some row)) ≡ true → sees_stream tables user stream ≡ true
          there row at true subscribes active is_actor is passes =
              ap (sees_by (role_of tables user) (stream_at tables stream)) subscribes
              ∙ subscriber_sees (role_of tables actor) (role_of tables user) (stream_at tables stream) (is_subscribed tables actor stream) sees (ap (λ (o : Option User). is_some (option_map (λ row. row.role) o)) at)
          there row at false subscribes true true is passes = own true is refl
          there row at false subscribes false true is passes = own true is refl
          there row at false subscribes true false is passes = absurd (false≢true passes)
          there row at false subscribes false false is passes = absurd (false≢true passes)

          go : (o : Option User) → user_at tables user ≡ o → is_some (option_and_then (λ v. only_if (receives (user, v)) (Some v)) o) ≡ true → sees_stream tables user stream ≡ true
          go None at passes = absurd (false≢true passes)
          go (Some row) at passes = there row at (is_subscribed tables user stream) refl row.is_active (user.0 == actor.0) refl passes

      actor_receives : is_among actor (stream_receivers tables actor stream) ≡ true
      actor_receives = receives_cell actor ∙ go (user_at tables actor) is_there
        where
          either : (b : Bool) → (b || true) ≡ true
          either true = refl
          either false = refl

          go : (o : Option User) → is_some o ≡ true → is_some (option_and_then (λ v. only_if (receives (actor, v)) (Some v)) o) ≡ true
          go None there = there
          go (Some row) there =
              ap (λ b. is_some (only_if ((row.is_active && is_subscribed tables actor stream) || b) (Some row))) (same_number actor.0)
              ∙ ap (λ b. is_some (only_if b (Some row))) (either (row.is_active && is_subscribed tables actor stream))

      pub sent_to_stream : (topic : List ℕ) → IsSent tables rise new (sent_row actor moment (place.Stream stream topic) content) (stream_receivers tables actor stream)
      sent_to_stream topic =
          let row = sent_row actor moment (place.Stream stream topic) content in
          let receivers = stream_receivers tables actor stream in
          record {
            rises = rises row receivers;
            no_row = no_row;
            no_receipt = no_receipt;
            no_reaction = no_reaction;
            has_sender = actor_receives;
            seen = λ user among. (λ i. receiver_sees user among i && (not (has_protected_history tables user stream) || is_some (gets row receivers user among i)))
                ∙ go (not (has_protected_history tables user stream));
          }
        where
          go : (b : Bool) → (b || true) ≡ true
          go true = refl
          go false = refl

    module _ (users : List UserId) where
      abbrev recipients : List UserId
      recipients = direct_receivers actor users

      abbrev row : Message
      row = sent_row actor moment (place.Direct recipients) content

      -- those who have a receipt are there
      pub sent_direct : IsSound (record tables {
        messages = insert_entry message_cmp tables.messages new row;
        receipts = given new actor actor tables.receipts recipients;
      }) (sent + 1) → IsSent tables rise new row recipients
      sent_direct sound_after = record {
        rises = rises row recipients;
        no_row = no_row;
        no_receipt = no_receipt;
        no_reaction = no_reaction;
        has_sender = list_any-distinct user_order (same_user actor) (actor ∷ users) ∙ ap (λ b. b || is_among actor users) (same_number actor.0);
        seen = λ user among.
            let valid = sound_after.receipts_are_valid (new, user) (new_receipt actor user) (gets row recipients user among) in
            and_from (is_user tables user) (same_user user actor || is_among user recipients)
            (and_parts (is_some (row_at message_cmp (insert_entry message_cmp tables.messages new row) new)) (is_user tables user) valid).1
            (ap (λ b. same_user user actor || b) among ∙ either (same_user user actor));
      }
        where
          either : (b : Bool) → (b || true) ≡ true
          either true = refl
          either false = refl
