-- The bodies that texts are.
use Rattle.std.specs.Prelude.{ℕ, ℤ, Bool, true, false, if◌then◌else◌, List, [], Option, Some, None, Result, Ok, Err, codes, bytes_eq}
use Rattle.std.specs.Str.{is_utf8}
use Rattle.serde_json.specs.Data.{Data, null, boolean, number, string, array, object}
use Rattle.serde_json.specs.Find.{as_str}
use Rattle.serde_json.specs.Read.{read}
use Rattle.ev_base.specs.declared.ids.QueueId.{QueueId}
use Rattle.ev_types.specs.declared.event.Item.{Item}
use Rattle.ev_types.specs.Sections.{SomeSections, sections_of}
use Rattle.ev_json.specs.declared.fields.FieldFault.{FieldFault}
use Rattle.ev_json.specs.Fields.{field}
use Rattle.ev_read.specs.Events.{wire_item}
use Rattle.ev_read.specs.Lists.{rows_onto}
use Rattle.ev_read.specs.declared.item.WireItem.{WireItem}
use Rattle.ev_bodies.specs.declared.reading.EventsBody.{EventsBody}
use Rattle.ev_bodies.specs.declared.reading.EventsBody.TheVariants.{Items, QueueGone}
use Rattle.ev_bodies.specs.declared.reading.RegisterBody.{RegisterBody}
use Rattle.ev_bodies.specs.Keys.{Unlike, no_entry, no_json, ◌>>=◌, events_keys, register_keys}
use Rattle.ev_bodies.specs.Sections.{sections_in}

-- a register body, without the room that its lists have
pub record Register : Type 0 where
  pub queue : QueueId
  pub last_event_id : ℤ
  pub sections : SomeSections

abbrev pub register_seen : RegisterBody → Register
register_seen body = record { queue = body.queue; last_event_id = body.last_event_id; sections = sections_of body.state }

-- what the body of an answer to a poll tells
pub data Events : Type 0 where
  items : List WireItem → Events
  queue_gone : Events

abbrev pub events_seen : EventsBody → Events
events_seen (Items list) = items list.items
events_seen QueueGone = queue_gone

abbrev pub if_object : Data → Result Data Unlike
if_object null = Err no_json
if_object (boolean b) = Err no_json
if_object (number n) = Err no_json
if_object (string s) = Err no_json
if_object (array ds) = Err no_json
if_object (object ms) = Ok (object ms)

abbrev pub or_no_json : Option Data → Result Data Unlike
or_no_json None = Err no_json
or_no_json (Some d) = if_object d

-- the object that a text is: it is UTF-8, and JSON
unfoldable pub object_in : List ℕ → Result Data Unlike
object_in text = if is_utf8 text then or_no_json (read text) else Err no_json

-- its members come first, and then the rows of its sections
unfoldable pub register_of : Data → Result Register Unlike
register_of d = do
  head ← register_keys d
  sections ← sections_in d
  Ok (record { queue = head.queue; last_event_id = head.last_event_id; sections = sections })

-- the register body that a text is, or the first reason why it is none
unfoldable pub register_in : List ℕ → Result Register Unlike
register_in text = object_in text >>= register_of

abbrev pub or_entry : {A : Type 0} → Result A ℕ → Result A Unlike
or_entry (Ok a) = Ok a
or_entry (Err index) = Err (no_entry index)

-- an event with its id, as it is read
abbrev pub as_read : Item → WireItem
as_read item = record { id = item.id; event = Some item.event }

-- the events of a list, with any ids
abbrev pub items_of : List Data → Result (List WireItem) Unlike
items_of ds = or_entry (rows_onto wire_item (λ _ _. true) [] ds)

abbrev pub is_gone : Result (List ℕ) FieldFault → Bool
is_gone (Ok code) = bytes_eq code (codes "BAD_EVENT_QUEUE_ID")
is_gone (Err fault) = false

-- the body is the error that says that the queue isn't there
abbrev pub says_gone : Data → Bool
says_gone d = is_gone (field as_str (codes "code") d)

abbrev pub items_in : Data → Result Events Unlike
items_in d = do
  list ← events_keys d
  found ← items_of list
  Ok (items found)

unfoldable pub events_of : Data → Result Events Unlike
events_of d = if says_gone d then Ok queue_gone else items_in d

-- what the body of an answer to a poll tells, or the first reason why it is none
unfoldable pub events_in : List ℕ → Result Events Unlike
events_in text = object_in text >>= events_of
