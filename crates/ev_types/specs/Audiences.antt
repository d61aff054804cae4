-- Who hears which events of a notice.
use Rattle.std.specs.Prelude.{Bool, true, ◌==◌, Some, List}
use Rattle.std.specs.List.{list_any, filter_map}
use Rattle.ev_rows.specs.Rows.{only_if}
use Rattle.ev_base.specs.declared.ids.UserId.{UserId}
use Rattle.ev_types.specs.declared.event.Event.{Event}
use Rattle.ev_types.specs.declared.notice.Audience.{Audience}
use Rattle.ev_types.specs.declared.notice.Audience.TheVariants.{Everyone, Only}
use Rattle.ev_types.specs.declared.notice.Notice.{Notice}

-- the user hears an event with this audience
abbrev pub has_user : UserId → Audience → Bool
has_user user Everyone = true
has_user user (Only users) = list_any (λ other. other.0 == user.0) users

-- the events of the parts whose audience has the user, in their order
abbrev pub events_for : UserId → Notice → List Event
events_for user notice = filter_map (λ part. only_if (has_user user part.audience) (Some part.event)) notice.parts
