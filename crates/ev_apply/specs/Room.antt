-- The room that a state needs for events to be applied to it.
use Rattle.std.specs.Prelude.{ℕ, ◌≤◌, Bool, true, false, List, length, filter, flat_map, Option, MatchOption, ⊤}
use Rattle.ev_rows.specs.Rows.{Table}
use Rattle.ev_types.specs.declared.event.Event.{Event}
use Rattle.ev_types.specs.declared.state.State.{State}
use Rattle.ev_types.specs.Writes.{Write, put, patch, drop_row, drop_under}
use Rattle.ev_types.specs.EventWrites.{user_writes, stream_writes, subscription_writes, subscriber_writes, message_writes, reaction_writes, starred_writes, unread_writes}

-- whether a write puts a row
abbrev pub is_put : {K V F P : Type 0} → Write K V F P → Bool
is_put (put key value) = true
is_put (patch key field) = false
is_put (drop_row key) = false
is_put (drop_under prefix) = false

-- how many rows these writes put
abbrev pub put_count : {K V F P : Type 0} → List (Write K V F P) → ℕ
put_count writes = length (filter is_put writes)

-- a section has room for this many more rows, if it is present
abbrev pub HasRoom : {K V : Type 0} → ℕ → Option (Table K V) → Type 0
HasRoom puts section = MatchOption section ⊤ (λ table. puts ≤ table.spare)

-- every section that is present has room for the rows that these events put
pub record HasRoomFor (events : List Event) (state : State) : Type 0 where
  pub realm_users : HasRoom (put_count (flat_map user_writes events)) state.realm_users
  pub streams : HasRoom (put_count (flat_map stream_writes events)) state.streams
  pub subscriptions : HasRoom (put_count (flat_map subscription_writes events)) state.subscriptions
  pub subscribers : HasRoom (put_count (flat_map subscriber_writes events)) state.subscribers
  pub messages : HasRoom (put_count (flat_map message_writes events)) state.messages
  pub reactions : HasRoom (put_count (flat_map reaction_writes events)) state.reactions
  pub starred_messages : HasRoom (put_count (flat_map starred_writes events)) state.starred_messages
  pub unread_messages : HasRoom (put_count (flat_map unread_writes events)) state.unread_messages
