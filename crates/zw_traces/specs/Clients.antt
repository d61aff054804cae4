-- A client that registers, and then applies items that it was answered, each once, in order of id. Answers may be lost.
use Rattle.std.specs.Prelude.{ℕ, Bool, ◌&&◌, nat_le, Option, None, List, [], ◌∷◌, option_map, filter, map, fold, max, nat_lt, if◌then◌else◌}
use Rattle.ev_base.specs.declared.ids.QueueId.{QueueId}
use Rattle.ev_types.specs.declared.event.Item.{Item}
use Rattle.ev_types.specs.declared.event.Event.{Event}
use Rattle.ev_types.specs.declared.section.Section.{Section}
use Rattle.ev_types.specs.declared.state.Rows.{Rows}
use Rattle.ev_types.specs.Sections.{sections_of}
use Rattle.ev_types.specs.OneSection.{rows_of, rows_after}
use Rattle.zw_traces.specs.declared.shard.ShardInput.{ShardInput}
use Rattle.zw_traces.specs.declared.shard.ShardInput.TheVariants.{Finish, Poll}
use Rattle.zw_traces.specs.declared.shard.ShardReply.{ShardReply}
use Rattle.zw_traces.specs.declared.shard.ShardReply.TheVariants.{Finished, Answer}
use Rattle.zw_traces.specs.Account.{same_queue, count_of}
use Rattle.zw_traces.specs.declared.shard.ShardStep.{ShardStep}

-- one section that a client has, and the greatest id that it applied
pub record Client : Type 0 where
  pub rows : Rows
  pub count : ℕ

-- the items above an id
abbrev pub items_above : ℕ → List Item → List Item
items_above count list = filter (λ item. nat_lt count (count_of item.id)) list

abbrev pub item_events : List Item → List Event
item_events list = map (λ (item : Item). item.event) list

-- the items that it hasn't yet are applied
abbrev pub take_in : List Item → Client → Client
take_in list client = record {
  rows = rows_after (item_events (items_above client.count list)) client.rows;
  count = fold (λ greatest (item : Item). max greatest (count_of item.id)) client.count list;
}

-- an answer is taken where it arrives, and where it was asked for with an id that the client has
abbrev pub may_take : Bool → ℕ → List Item → Client → Client
may_take arrives after list client = if arrives && nat_le after client.count then take_in list client else client

abbrev pub steps_of : List (Bool × ShardStep) → List ShardStep
steps_of [] = []
steps_of (step ∷ before) = step.1 ∷ steps_of before

module _ (queue : QueueId) (which : Section) where
  abbrev pub client_after : Bool → ShardInput → ShardReply → Option Client → Option Client
  client_after arrives (Finish other parts) (Finished state last reached) before =
      if same_queue queue other then option_map (λ rows. record { rows = rows; count = count_of last }) (rows_of which (sections_of state)) else before
  client_after arrives (Poll user other after moment beat) (Answer list reached) before =
      if same_queue queue other then option_map (may_take arrives (count_of after) list) before else before
  client_after arrives input reply before = before

  -- of each step it is said whether its answer arrives
  abbrev pub client : List (Bool × ShardStep) → Option Client
  client [] = None
  client (step ∷ before) = client_after step.0 step.1.input step.1.reply (client before)
