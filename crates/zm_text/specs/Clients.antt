-- What the lines of a script tell the client of a queue, and what it has of one section then.
use Rattle.std.specs.Prelude.{ℕ, Bool, true, false, ◌&&◌, nat_le, Option, None, Some, option_map, List, [], ◌∷◌, ◌++◌, length, if◌then◌else◌}
use Rattle.std.specs.List.{list_any}
use Rattle.std.specs.Option.{option_map_or}
use Rattle.ev_base.specs.declared.ids.QueueId.{QueueId}
use Rattle.ev_types.specs.declared.event.Item.{Item}
use Rattle.ev_types.specs.declared.kind.Types.{Types}
use Rattle.ev_types.specs.declared.section.Section.{Section}
use Rattle.ev_types.specs.Feeders.{covers}
use Rattle.ev_types.specs.OneSection.{rows_of, same_section}
use Rattle.ev_types.specs.Sections.{sections_of}
use Rattle.zw_traces.specs.Account.{same_queue, count_of}
use Rattle.zw_traces.specs.Clients.{Client, may_take}
use Rattle.zs_script.specs.declared.step.Step.{Step}
use Rattle.zs_script.specs.declared.step.Step.TheVariants.{OpenQueue, Register, Poll}
use Rattle.zm_text.specs.declared.outcome.Outcome.{Outcome}
use Rattle.zm_text.specs.declared.outcome.Outcome.TheVariants.{Opened, Finished, Answered, Empty}
use Rattle.zm_text.specs.Playing.{Turn}

-- the types and the sections for which a queue was opened
pub record Registration : Type 0 where
  pub types : Types
  pub asked : List Section

-- as the line tells that opened it
abbrev pub registration_after : QueueId → Step → Outcome → Option Registration → Option Registration
registration_after queue (OpenQueue user types asked) (Opened other at) before =
    if same_queue queue other then Some (record { types = types; asked = asked }) else before
registration_after queue (Register user types asked) (Finished reached other last state) before =
    if same_queue queue other then Some (record { types = types; asked = asked }) else before
registration_after queue step outcome before = before

abbrev pub registration_of : QueueId → List Turn → Option Registration
registration_of queue [] = None
registration_of queue (turn ∷ before) = registration_after queue turn.step turn.outcome (registration_of queue before)

-- whether a section was asked for
abbrev pub is_among : List Section → Section → Bool
is_among asked which = list_any (same_section which) asked

-- whether the queue tells of all that changes in a section that was asked for
abbrev pub is_told : Section → Registration → Bool
is_told which registration = is_among registration.asked which && covers registration.types which

abbrev pub is_followed : QueueId → Section → List Turn → Bool
is_followed queue which turns = option_map_or (is_told which) (registration_of queue turns) false

-- the commit that a line reached for a queue: that of its register reply, which a line that registers or finishes prints, or of an
-- answer, which may be empty
abbrev pub reached_by : QueueId → Step → Outcome → Option ℕ
reached_by queue step (Finished reached other last state) = if same_queue queue other then Some reached else None
reached_by queue (Poll user other after beat) (Answered reached answered items) = if same_queue queue answered then Some reached else None
reached_by queue (Poll user other after beat) (Empty reached) = if same_queue queue other then Some reached else None
reached_by queue step outcome = None

-- the items that a line tells of a queue
abbrev pub items_by : QueueId → Step → Outcome → List Item
items_by queue (Poll user other after beat) (Answered reached answered items) = if same_queue queue answered then items else []
items_by queue step outcome = []

-- those of all lines, the latest answer's first
abbrev pub items_told : QueueId → List Turn → List Item
items_told queue [] = []
items_told queue (turn ∷ before) = items_by queue turn.step turn.outcome ++ items_told queue before

-- a client begins with the register reply of its queue, and then takes or loses each answer: it takes none that was asked for
-- with an id that it hasn't reached
module _ (queue : QueueId) (which : Section) where
  abbrev pub client_after : Bool → Step → Outcome → Option Client → Option Client
  client_after arrives step (Finished reached other last state) before =
      if same_queue queue other then option_map (λ rows. record { rows = rows; count = count_of last }) (rows_of which (sections_of state)) else before
  client_after arrives (Poll user other after beat) (Answered reached answered items) before =
      if same_queue queue answered then option_map (may_take arrives (count_of after) items) before else before
  client_after arrives step outcome before = before

  -- of each turn, by the number of turns before it, it is said whether what it tells arrives
  abbrev pub client_of : (ℕ → Bool) → List Turn → Option Client
  client_of arrives [] = None
  client_of arrives (turn ∷ before) = client_after (arrives (length before)) turn.step turn.outcome (client_of arrives before)

-- whether a client takes what a line tells it: it arrives, and was asked for with an id that the client has
abbrev pub is_taken : Bool → Step → Option Client → Bool
is_taken arrives (Poll user queue after beat) before = arrives && option_map_or (λ (client : Client). nat_le (count_of after) client.count) before false
is_taken arrives step before = true
