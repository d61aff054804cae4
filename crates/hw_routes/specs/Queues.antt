-- What requests ask of queues.
use Rattle.std.specs.Prelude.{ℕ, List, false, unwrap_or, Option, Some, None, Result, Ok}
use Rattle.ev_base.specs.QueueIds.{queue_of_text}
use Rattle.ev_types.specs.declared.kind.Types.{Types}
use Rattle.ev_types.specs.declared.kind.Types.TheVariants as types
use Rattle.ev_types.specs.declared.section.Section.{Section}
use Rattle.hw_routes.specs.Alternatives.{◌>>=◌}
use Rattle.hw_routes.specs.declared.actions.QueueAction.{QueueAction}
use Rattle.hw_routes.specs.declared.actions.QueueAction.TheVariants as action
use Rattle.hw_routes.specs.declared.call.Call.{Call}
use Rattle.hw_routes.specs.declared.call.Call.TheVariants.{Register, Events, DeleteQueue}
use Rattle.hw_values.specs.Forms.{Pairs, needed, optional}
use Rattle.hw_values.specs.Json.{names_of}
use Rattle.hw_values.specs.Named.{kinds_named}
use Rattle.hw_values.specs.Numbers.{last_event_id_of}
use Rattle.hw_values.specs.Words.{empty_of, false_of, truth_of}
use Rattle.hw_values.specs.declared.fault.ValueFault.{ValueFault}
use Rattle.hw_values.specs.declared.json.NameList.{NameList}
use Rattle.hw_values.specs.declared.json.NameList.TheVariants.{Null, Names}
use Rattle.hw_values.specs.declared.param.Param.{Param}
use Rattle.hw_values.specs.declared.param.Param.TheVariants as param
use Rattle.zs_words.specs.Lists.{sections_by}
use Rattle.zs_words.specs.Names.{all_sections}

-- the names of a list that is given; null counts as none
abbrev pub listed : Option NameList → Option (List (List ℕ))
listed None = None
listed (Some Null) = None
listed (Some (Names names)) = Some names

abbrev pub names : Param → Pairs → Result (Option (List (List ℕ))) ValueFault
names param pairs = optional names_of param pairs >>= λ given. Ok (listed given)

-- the types of events that are sent
abbrev pub types_of : Option (List (List ℕ)) → Types
types_of None = types.All
types_of (Some names) = types.Only (kinds_named names)

-- the sections that are fetched: those of the types where no others are asked for
abbrev pub asked_of : Option (List (List ℕ)) → Option (List (List ℕ)) → List Section
asked_of types (Some names) = sections_by names
asked_of (Some names) None = sections_by names
asked_of None None = all_sections

abbrev pub registration : Option (List (List ℕ)) → Option (List (List ℕ)) → Result Call ValueFault
registration types fetched = Ok (Register (types_of types) (asked_of types fetched))

unfoldable pub register : Pairs → Result Call ValueFault
register pairs = do
  types ← names param.EventTypes pairs
  fetched ← names param.FetchEventTypes pairs
  _ ← optional false_of param.ApplyMarkdown pairs
  _ ← optional false_of param.AllPublicStreams pairs
  _ ← optional empty_of param.Narrow pairs
  registration types fetched

unfoldable pub poll : Pairs → Result Call ValueFault
poll pairs = do
  text ← needed Some param.QueueId pairs
  after ← needed last_event_id_of param.LastEventId pairs
  dont_block ← optional truth_of param.DontBlock pairs
  Ok (Events text (queue_of_text text) after.0 (unwrap_or dont_block false))

unfoldable pub delete_queue : Pairs → Result Call ValueFault
delete_queue pairs = do
  text ← needed Some param.QueueId pairs
  Ok (DeleteQueue text (queue_of_text text))

-- the call of an action on a queue
abbrev pub queue_call : QueueAction → Pairs → Result Call ValueFault
queue_call action.Register pairs = register pairs
queue_call action.Poll pairs = poll pairs
queue_call action.Delete pairs = delete_queue pairs
