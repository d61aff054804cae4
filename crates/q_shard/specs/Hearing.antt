-- What users hear of the parts of notices, part by part.
use Rattle.std.specs.Prelude.{◌≡◌, ℕ, Bool, true, List, [], ◌∷◌, ◌++◌, Option, Some, if◌then◌else◌, nat_eq, flat_map}
use Rattle.std.specs.Option.{option_eq, option_map_or}
use Rattle.std.specs.List.{filter_map, list_any}
use Rattle.ev_rows.specs.Rows.{only_if}
use Rattle.std.specs.Map.{lookup}
use Rattle.ev_base.specs.declared.ids.UserId.{UserId}
use Rattle.ev_base.specs.declared.ids.QueueId.{QueueId}
use Rattle.ev_types.specs.declared.event.Event.{Event}
use Rattle.ev_types.specs.declared.notice.Audience.{Audience}
use Rattle.ev_types.specs.declared.notice.Notice.{Notice}
use Rattle.ev_types.specs.declared.notice.Part.{Part}
use Rattle.ev_types.specs.Audiences.{events_for, has_user}
use Rattle.zw_traces.specs.Account.{same_user}

-- the user's events in these parts
abbrev pub heard_events : UserId → List Part → List Event
heard_events user parts = filter_map (λ part. only_if (has_user user part.audience) (Some part.event)) parts

-- what a user heard: the events, and the place of the part that was heard last
pub record HeardParts : Type 0 where
  pub events : List Event
  pub last : Option ℕ

-- after the event of the part at this place, which is heard once
abbrev pub with_part : ℕ → Event → HeardParts → HeardParts
with_part place event heard =
    if option_eq nat_eq heard.last (Some place) then heard else record { events = heard.events ++ event ∷ []; last = Some place }

-- the same, where the audience has the user
abbrev pub with_part_for : UserId → Audience → ℕ → Event → HeardParts → HeardParts
with_part_for user audience place event heard = if has_user user audience then with_part place event heard else heard

-- the events that a user heard, by what each of some users heard
abbrev pub events_heard : List (UserId × HeardParts) → UserId → List Event
events_heard told user = option_map_or (λ heard. heard.events) (lookup (same_user user) told) []

-- one of the queues is the user's
abbrev pub has_queue : List QueueId → UserId → Bool
has_queue queues user = list_any (λ queue. same_user queue.user user) queues

-- each user who has one of these queues heard what the notices tell him
abbrev pub HeardAll : List QueueId → List Notice → List (UserId × HeardParts) → Type 0
HeardAll queues notices told = (user : UserId) → has_queue queues user ≡ true → events_heard told user ≡ flat_map (events_for user) notices
