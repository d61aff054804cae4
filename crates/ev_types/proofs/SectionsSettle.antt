-- Events applied again change nothing.
use Rattle.std.proofs.Common.{◌≡◌, List, ◌++◌, flat_map, ap, ◌∙◌}
use Rattle.std.proofs.lemmas.Grind.{flat_map-append}
use Rattle.std.proofs.lemmas.List.Sums.{fold-append}
use Rattle.ev_base.specs.Orders.{user_order, stream_order, message_order, stream_user_order, reaction_order}
use Rattle.ev_rows.specs.KeyOrder.{KeyOrder}
use Rattle.ev_rows.specs.Rows.{SortedByKey}
use Rattle.ev_types.specs.declared.event.Event.{Event}
use Rattle.ev_types.specs.Sections.{Sections, SectionsSorted}
use Rattle.ev_types.specs.Settling.{Settles}
use Rattle.ev_types.specs.Writes.{Write, Rules, after_write, after_writes}
use Rattle.ev_types.specs.EventWrites.{realm_after, user_rules, user_writes, stream_rules, stream_writes, subscription_rules, subscription_writes, subscriber_rules, subscriber_writes, message_rules, message_writes, reaction_rules, reaction_writes, starred_rules, starred_writes, unread_rules, unread_writes}
use Rattle.ev_types.specs.Applying.{rows_applied, applied}
use Rattle.ev_types.proofs.SettleLemmas.{fold-again}
use Rattle.ev_types.proofs.WriteLemmas.{rise-after_writes, after_writes-again}
use Rattle.ev_types.proofs.FieldsSettle.{realm_settles, users_settle, streams_settle, subscriptions_settle, messages_settle, unread_settle, no_fields_settle}

-- the rows of a section go on rising
pub rise-rows_applied : {K V F P : Type 0} (rules : Rules K V F P) (writes : Event → List (Write K V F P)) → KeyOrder rules.cmp
    → (events : List Event) (rows : List (K × V)) → SortedByKey rules.cmp rows → SortedByKey rules.cmp (rows_applied rules writes events rows)
rise-rows_applied rules writes order events rows rise = rise-after_writes rules order rows (flat_map writes events) rise

pub rise-applied : (events : List Event) (view : Sections) → SectionsSorted view → SectionsSorted (applied events view)
rise-applied events view rise = record {
  realm_users = rise-rows_applied user_rules user_writes user_order events view.realm_users rise.realm_users;
  streams = rise-rows_applied stream_rules stream_writes stream_order events view.streams rise.streams;
  subscriptions = rise-rows_applied subscription_rules subscription_writes stream_order events view.subscriptions rise.subscriptions;
  subscribers = rise-rows_applied subscriber_rules subscriber_writes stream_user_order events view.subscribers rise.subscribers;
  messages = rise-rows_applied message_rules message_writes message_order events view.messages rise.messages;
  reactions = rise-rows_applied reaction_rules reaction_writes reaction_order events view.reactions rise.reactions;
  starred_messages = rise-rows_applied starred_rules starred_writes message_order events view.starred_messages rise.starred_messages;
  unread_messages = rise-rows_applied unread_rules unread_writes message_order events view.unread_messages rise.unread_messages;
}

-- and events applied to them again change nothing
pub rows_applied-again : {K V F P : Type 0} (rules : Rules K V F P) (writes : Event → List (Write K V F P)) → KeyOrder rules.cmp → Settles (λ row field. rules.set field row)
    → (events : List Event) (rows : List (K × V)) → SortedByKey rules.cmp rows
    → rows_applied rules writes events (rows_applied rules writes events rows) ≡ rows_applied rules writes events rows
rows_applied-again rules writes order fields events rows rise = after_writes-again rules fields order rows (flat_map writes events) rise

pub applied-again : (events : List Event) (view : Sections) → SectionsSorted view → applied events (applied events view) ≡ applied events view
applied-again events view rise = λ i. record {
  realm = fold-again realm_after realm_settles view.realm events i;
  realm_users = rows_applied-again user_rules user_writes user_order users_settle events view.realm_users rise.realm_users i;
  streams = rows_applied-again stream_rules stream_writes stream_order streams_settle events view.streams rise.streams i;
  subscriptions = rows_applied-again subscription_rules subscription_writes stream_order subscriptions_settle events view.subscriptions rise.subscriptions i;
  subscribers = rows_applied-again subscriber_rules subscriber_writes stream_user_order no_fields_settle events view.subscribers rise.subscribers i;
  messages = rows_applied-again message_rules message_writes message_order messages_settle events view.messages rise.messages i;
  reactions = rows_applied-again reaction_rules reaction_writes reaction_order no_fields_settle events view.reactions rise.reactions i;
  starred_messages = rows_applied-again starred_rules starred_writes message_order no_fields_settle events view.starred_messages rise.starred_messages i;
  unread_messages = rows_applied-again unread_rules unread_writes message_order unread_settle events view.unread_messages rise.unread_messages i;
}

-- events are applied in order
module _ {K V F P : Type 0} (rules : Rules K V F P) (writes : Event → List (Write K V F P)) where
  pub rows_applied-append : (before after : List Event) (rows : List (K × V))
      → rows_applied rules writes (before ++ after) rows ≡ rows_applied rules writes after (rows_applied rules writes before rows)
  rows_applied-append before after rows =
      ap (after_writes rules rows) (flat_map-append writes before after) ∙ fold-append (after_write rules) rows (flat_map writes before) (flat_map writes after)

pub applied-append : (before after : List Event) (view : Sections) → applied (before ++ after) view ≡ applied after (applied before view)
applied-append before after view = λ i. record {
  realm = fold-append realm_after view.realm before after i;
  realm_users = rows_applied-append user_rules user_writes before after view.realm_users i;
  streams = rows_applied-append stream_rules stream_writes before after view.streams i;
  subscriptions = rows_applied-append subscription_rules subscription_writes before after view.subscriptions i;
  subscribers = rows_applied-append subscriber_rules subscriber_writes before after view.subscribers i;
  messages = rows_applied-append message_rules message_writes before after view.messages i;
  reactions = rows_applied-append reaction_rules reaction_writes before after view.reactions i;
  starred_messages = rows_applied-append starred_rules starred_writes before after view.starred_messages i;
  unread_messages = rows_applied-append unread_rules unread_writes before after view.unread_messages i;
}

-- and so for all sections at once
pub applied-overlap : (before after : List Event) (view : Sections) → SectionsSorted view → applied (before ++ after) (applied before view) ≡ applied after (applied before view)
applied-overlap before after view rise = applied-append before after (applied before view) ∙ ap (applied after) (applied-again before view rise)
