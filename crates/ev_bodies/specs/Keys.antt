-- The members that bodies have, in the order in which they are written.
use Rattle.std.specs.Prelude.{◌≡◌, ℕ, Bool, true, false, List, Option, Some, None, Result, Ok, Err, codes, is_some}
use Rattle.serde_json.specs.Data.{Data}
use Rattle.serde_json.specs.Find.{as_str}
use Rattle.uuid.specs.Text.{parsed}
use Rattle.ev_base.specs.QueueIds.{queue_of_text}
use Rattle.ev_base.specs.declared.ids.QueueId.{QueueId}
use Rattle.ev_types.specs.declared.section.Section.{Section}
use Rattle.ev_json.specs.declared.fields.FieldFault.{FieldFault}
use Rattle.ev_json.specs.declared.fields.FieldFault.TheVariants.{Absent, WrongKind}
use Rattle.ev_json.specs.Fields.{array_of, field, i64_of, object_of, u64_of}
use Rattle.ev_bodies.specs.declared.fault.BodyFault.{BodyFault}
use Rattle.ev_bodies.specs.declared.fault.BodyFault.TheVariants as fault
use Rattle.ev_bodies.specs.declared.keys.Head.{Head}

-- why a text is no body
pub data Unlike : Type 0 where
  no_json : Unlike
  no_key : List ℕ → Unlike
  no_row : Section → ℕ → Unlike
  no_entry : ℕ → Unlike

infixl 10 ◌>>=◌
abbrev pub ◌>>=◌ : {A B : Type 0} → Result A Unlike → (A → Result B Unlike) → Result B Unlike
(Ok x) >>= f = f x
(Err e) >>= f = Err e

-- a fault that was answered is why reading gives nothing, unless memory ran out
abbrev pub Fails : {Y : Type 0} → BodyFault → Result Y Unlike → Type 0
Fails fault.NoMemory read = Unit {0}
Fails fault.Json read = read ≡ Err no_json
Fails (fault.Key key) read = read ≡ Err (no_key key.0.now)
Fails (fault.Row section index) read = read ≡ Err (no_row section index)
Fails (fault.Entry index) read = read ≡ Err (no_entry index)

-- what a call returned, as it is seen, is what reading gives, unless memory ran out
abbrev pub Gives : {X Y : Type 0} → (X → Y) → Result X BodyFault → Result Y Unlike → Type 0
Gives seen (Ok x) read = read ≡ Ok (seen x)
Gives seen (Err e) read = Fails e read

abbrev pub or_key : {A : Type 0} → List ℕ → Result A FieldFault → Result A Unlike
or_key name (Ok a) = Ok a
or_key name (Err e) = Err (no_key name)

-- the member of a kind
abbrev pub key : {A : Type 0} → (Data → Option A) → List ℕ → Data → Result A Unlike
key kind name d = or_key name (field kind name d)

abbrev pub or_wrong : {A : Type 0} → List ℕ → Result A FieldFault → Result (Option A) Unlike
or_wrong name (Ok a) = Ok (Some a)
or_wrong name (Err Absent) = Ok None
or_wrong name (Err WrongKind) = Err (no_key name)

-- the member of a kind, where it is there
abbrev pub list_if_there : List ℕ → Data → Result (Option (List Data)) Unlike
list_if_there name d = or_wrong name (field array_of name d)

abbrev pub object_if_there : List ℕ → Data → Result (Option Data) Unlike
object_if_there name d = or_wrong name (field object_of name d)

abbrev pub queue_if : Bool → List ℕ → Result QueueId Unlike
queue_if true text = Ok (queue_of_text text)
queue_if false text = Err (no_key (codes "queue_id"))

-- the queue, in any form of a UUID
unfoldable pub queue_in : Data → Result QueueId Unlike
queue_in d = key as_str (codes "queue_id") d >>= λ text. queue_if (is_some (parsed text)) text

-- the members of a register body: those up to the queue, those up to the result, and the others
unfoldable pub head_in : Data → Result Head Unlike
head_in d = do
  last_event_id ← key i64_of (codes "last_event_id") d
  _ ← list_if_there (codes "messages") d
  _ ← key as_str (codes "msg") d
  queue ← queue_in d
  Ok (record { queue = queue; last_event_id = last_event_id })

unfoldable pub has_middle : Data → Result (Unit {0}) Unlike
has_middle d = do
  _ ← list_if_there (codes "reactions") d
  _ ← object_if_there (codes "realm") d
  _ ← list_if_there (codes "realm_users") d
  _ ← key as_str (codes "result") d
  Ok tt

unfoldable pub has_tail : Data → Result (Unit {0}) Unlike
has_tail d = do
  _ ← list_if_there (codes "starred_messages") d
  _ ← list_if_there (codes "streams") d
  _ ← list_if_there (codes "subscribers") d
  _ ← list_if_there (codes "subscriptions") d
  _ ← list_if_there (codes "unread_msgs") d
  _ ← key u64_of (codes "zulip_feature_level") d
  Ok tt

unfoldable pub register_keys : Data → Result Head Unlike
register_keys d = do
  head ← head_in d
  _ ← has_middle d
  _ ← has_tail d
  Ok head

-- the list of an events body, beside its other members
unfoldable pub events_keys : Data → Result (List Data) Unlike
events_keys d = do
  events ← key array_of (codes "events") d
  _ ← key as_str (codes "msg") d
  _ ← queue_in d
  _ ← key as_str (codes "result") d
  Ok events
