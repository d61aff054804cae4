-- The room that a state has for events, from the room that its sections have for their writes.
use Rattle.std.proofs.Common.{◌≡◌, ◌∙◌, ℕ, List, Option, None, Some, option_map, arith, sym, Result, Ok, Err, OnOk, flat_map, ap, subst}
use Rattle.ev_rows.specs.Rows.{Table}
use Rattle.ev_types.specs.declared.event.Event.{Event}
use Rattle.ev_types.specs.declared.state.State.{State}
use Rattle.ev_types.specs.Sections.{rows_in, sections_of}
use Rattle.ev_types.specs.Writes.{Write, Rules, after_writes}
use Rattle.ev_types.specs.Applying.{applied_where_present, realm_applied, rows_applied}
use Rattle.ev_types.specs.EventWrites.{user_rules, user_writes, stream_rules, stream_writes, subscription_rules, subscription_writes, subscriber_rules, subscriber_writes, message_rules, message_writes, reaction_rules, reaction_writes, starred_rules, starred_writes, unread_rules, unread_writes}
use Rattle.ev_apply.specs.declared.sorted_writes.SortedWrites.{SortedWrites}
use Rattle.ev_apply.specs.Kinds.{in_order}
use Rattle.ev_apply.specs.Lasts.{CanApply, DoesWrites}
use Rattle.ev_apply.specs.Room.{HasRoom, put_count}

-- a fact of an answer, from another
pub on_ok : {T E : Type 0} {P Q : Type 0} (answer : Result T E) → (P → Q) → OnOk answer P → OnOk answer Q
on_ok (Ok value) f holds = f holds
on_ok (Err error) f holds = holds

module _ {K V F P : Type 0} (rules : Rules K V F P) (made : Event → List (Write K V F P)) where
  -- the room for writes that are those of the events
  pub room_of : (sorted : SortedWrites K V F P) (inside events : List Event) (section : Option (Table K V)) → DoesWrites rules sorted (flat_map made inside) → inside ≡ events
      → HasRoom sorted.puts section → HasRoom (put_count (flat_map made events)) section
  room_of sorted inside events section does seen room =
      subst (λ (puts : ℕ). HasRoom puts section) (does.puts ∙ ap (λ l. put_count (flat_map made l)) seen) room

  -- the writes by key can be done where there is room for all writes
  pub can_apply : (sorted : SortedWrites K V F P) (inside events : List Event) (section : Option (Table K V)) → DoesWrites rules sorted (flat_map made inside) → inside ≡ events
      → HasRoom (put_count (flat_map made events)) section → CanApply rules.cmp sorted section
  can_apply sorted inside events section does seen room = record {
    order = does.order;
    rise = does.rise;
    room = fewer section (subst (λ (puts : ℕ). HasRoom puts section) (sym (ap (λ l. put_count (flat_map made l)) seen)) room);
  }
    where
      fewer : (s : Option (Table K V)) → HasRoom (put_count (flat_map made inside)) s → HasRoom (put_count (in_order {P = P} sorted.lasting.writes.items)) s
      fewer None room = room
      fewer (Some table) room = omega (arith, room, does.lasts.room)

  -- a section after writes that are those of the events
  pub part_applied : (old new : Option (Table K V)) (sorted : SortedWrites K V F P) (inside events : List Event)
      → DoesWrites rules sorted (flat_map made inside) → inside ≡ events
      → ((all : List (Write K V F P)) → DoesWrites rules sorted all → rows_in new ≡ option_map (λ rows. after_writes rules rows all) (rows_in old))
      → rows_in new ≡ option_map (rows_applied rules made events) (rows_in old)
  part_applied old new sorted inside events does seen done =
      done (flat_map made inside) does ∙ ap (λ l. option_map (λ rows. after_writes rules rows (flat_map made l)) (rows_in old)) seen

-- all sections, from each of them
module _ (events : List Event) (old new : State) (realm : new.realm ≡ option_map (realm_applied events) old.realm)
    (realm_users : rows_in new.realm_users ≡ option_map (rows_applied user_rules user_writes events) (rows_in old.realm_users))
    (streams : rows_in new.streams ≡ option_map (rows_applied stream_rules stream_writes events) (rows_in old.streams))
    (subscriptions : rows_in new.subscriptions ≡ option_map (rows_applied subscription_rules subscription_writes events) (rows_in old.subscriptions))
    (subscribers : rows_in new.subscribers ≡ option_map (rows_applied subscriber_rules subscriber_writes events) (rows_in old.subscribers))
    (messages : rows_in new.messages ≡ option_map (rows_applied message_rules message_writes events) (rows_in old.messages))
    (reactions : rows_in new.reactions ≡ option_map (rows_applied reaction_rules reaction_writes events) (rows_in old.reactions))
    (starred_messages : rows_in new.starred_messages ≡ option_map (rows_applied starred_rules starred_writes events) (rows_in old.starred_messages))
    (unread_messages : rows_in new.unread_messages ≡ option_map (rows_applied unread_rules unread_writes events) (rows_in old.unread_messages)) where
  pub all_applied : sections_of new ≡ applied_where_present events (sections_of old)
  all_applied = λ i. record { realm = realm i; realm_users = realm_users i; streams = streams i; subscriptions = subscriptions i; subscribers = subscribers i; messages = messages i; reactions = reactions i; starred_messages = starred_messages i; unread_messages = unread_messages i }
