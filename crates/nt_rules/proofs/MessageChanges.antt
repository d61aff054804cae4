-- The changes of messages, where those that stay are as they were.
use Rattle.std.proofs.Common.{◌≡◌, true, [], ◌++◌, map, flat_map, ap, sym, refl, ◌∙◌, append-nil}
use Rattle.ev_rows.specs.Rows.{SortedByKey, gained, kept, keys_of, lost, one_of, row_at}
use Rattle.ev_rows.proofs.ChangeLemmas.{gained_same}
use Rattle.ev_base.specs.Orders.{message_cmp, message_order, reaction_cmp, reaction_order}
use Rattle.ev_base.specs.declared.ids.MessageId.{MessageId}
use Rattle.ev_types.specs.declared.rows.ShownMessage.{ShownMessage}
use Rattle.ev_types.specs.declared.event.Event.TheVariants.{MessageGone}
use Rattle.ev_types.specs.Changes.{arrivals, edits, flag_events, full_message, is_kept, message_events, move_events, reaction_events}
use Rattle.ev_types.specs.Sections.{ReactionKey, Sections}
use Rattle.nt_rules.specs.Laws.{come_and_go}
use Rattle.nt_rules.proofs.Alike.{AlikeWhereKept, kept_twins, none_gained, staying}
use Rattle.nt_rules.proofs.FieldsStay.{no_edits, no_flags, no_moves}
use Rattle.nt_rules.proofs.WrittenOver.{with_new, written, written_gains, written_keeps, written_loses}

-- messages come and go, and those that stay keep their reactions
pub record MessagesStay (before after : Sections) : Type 0 where
  pub rises : SortedByKey message_cmp after.messages
  pub old_reactions : SortedByKey reaction_cmp before.reactions
  pub new_reactions : SortedByKey reaction_cmp after.reactions
  pub alike : AlikeWhereKept message_cmp before.messages after.messages
  pub reactions : (key : ReactionKey) → is_kept before after key.0 ≡ true → row_at reaction_cmp before.reactions key ≡ row_at reaction_cmp after.reactions key

-- no reaction to a message in both views comes or goes where these stay
pub no_reactions : (before after : Sections) → SortedByKey reaction_cmp before.reactions → SortedByKey reaction_cmp after.reactions
    → ((key : ReactionKey) → is_kept before after key.0 ≡ true → row_at reaction_cmp before.reactions key ≡ row_at reaction_cmp after.reactions key)
    → reaction_events before after ≡ []
no_reactions before after old_rise new_rise same =
    rw (
      none_gained reaction_order (λ key. is_kept before after key.0) before.reactions after.reactions new_rise same,
      none_gained reaction_order (λ key. is_kept before after key.0) after.reactions before.reactions old_rise (λ key is. sym (same key is)),
    ) refl

pub messages_stay : (before after : Sections) → MessagesStay before after → message_events before after ≡ come_and_go before after
messages_stay before after stay =
    let first = arrivals (map (full_message after.reactions) (gained message_cmp before.messages after.messages)) in
    let last = one_of MessageGone (keys_of (lost message_cmp before.messages after.messages)) in
    let same : MessageId × ShownMessage → ShownMessage = λ row. row.1 in
    rw (kept_twins message_order before.messages after.messages stay.rises stay.alike)
    (rw (
      no_moves same (λ row. refl) (staying message_order before.messages after.messages),
      no_edits same (λ row. refl) (staying message_order before.messages after.messages),
      no_flags same (λ row. refl) (staying message_order before.messages after.messages),
      no_reactions before after stay.old_reactions stay.new_reactions stay.reactions,
    )
    (simp append-nil))

module _ (before after : Sections) where
  -- reactions that stay are told of by nothing
  pub reactions_stay : SortedByKey reaction_cmp before.reactions → after.reactions ≡ before.reactions → reaction_events before after ≡ []
  reactions_stay rise same =
      let gains = ap (gained reaction_cmp before.reactions) same ∙ gained_same reaction_order before.reactions rise in
      let loses = ap (λ rows. gained reaction_cmp rows before.reactions) same ∙ gained_same reaction_order before.reactions rise in
      rw (gains, loses) refl

  -- the changes where every message stays, and what is shown of each may be another
  pub messages_written : (new : MessageId × ShownMessage → ShownMessage) → SortedByKey message_cmp before.messages → after.messages ≡ written new before.messages
      → message_events before after
      ≡ move_events (with_new new before.messages) ++ flat_map edits (with_new new before.messages) ++ flag_events (with_new new before.messages) ++ reaction_events before after
  messages_written new rise are =
      let gains = ap (gained message_cmp before.messages) are ∙ written_gains message_order new before.messages rise in
      let loses = ap (λ rows. gained message_cmp rows before.messages) are ∙ written_loses message_order new before.messages rise in
      let keeps = ap (kept message_cmp before.messages) are ∙ written_keeps message_order new before.messages rise in
      rw (gains, loses, keeps)
      (append-nil (move_events (with_new new before.messages) ++ flat_map edits (with_new new before.messages) ++ flag_events (with_new new before.messages) ++ reaction_events before after))
