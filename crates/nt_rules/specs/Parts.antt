-- Parts of a notice, and who sees a stream.
use Rattle.std.specs.Prelude.{Bool, ◌&&◌, if◌then◌else◌, List, [], map, Some, ⊤}
use Rattle.std.specs.BTreeMap.{is_at}
use Rattle.std.specs.List.{filter_map}
use Rattle.ev_base.specs.Orders.{message_cmp, user_cmp}
use Rattle.ev_base.specs.declared.ids.UserId.{UserId}
use Rattle.ev_base.specs.declared.ids.StreamId.{StreamId}
use Rattle.ev_base.specs.declared.ids.MessageId.{MessageId}
use Rattle.ev_rows.specs.Rows.{gained, only_if, sift}
use Rattle.ev_types.specs.Audiences.{has_user}
use Rattle.ev_types.specs.declared.event.Event.{Event}
use Rattle.ev_types.specs.declared.notice.Audience.{Audience}
use Rattle.ev_types.specs.declared.notice.Part.{Part}
use Rattle.zr_types.specs.Tables.{Tables}
use Rattle.zr_types.specs.Visibility.{sees_message, sees_stream}

-- a part for each event, all with one audience
abbrev pub to : Audience → List Event → List Part
to audience events = map (λ event. record { audience = audience; event = event }) events

-- the events of these parts that a user hears
abbrev pub heard_of : UserId → List Part → List Event
heard_of user parts = filter_map (λ part. only_if (has_user user part.audience) (Some part.event)) parts

-- the users who see a stream
abbrev pub viewers : Tables → StreamId → List (UserId × ⊤)
viewers tables stream = sift (λ row. only_if (sees_stream tables row.0 stream) (Some (tt {0}))) tables.users

-- the users who see a message and have a receipt for it
abbrev pub readers : Tables → MessageId → List (UserId × ⊤)
readers tables message =
    filter_map (λ row. only_if (is_at (message_cmp message) row.0.0 && sees_message tables row.0.1 message) (Some (row.0.1, tt {0}))) tables.receipts

-- the users who are gained, where the stream is seen afterwards. Before, they count where it was seen then
abbrev pub gained_peers : Bool → Bool → List (UserId × ⊤) → List (UserId × ⊤) → List (UserId × ⊤)
gained_peers saw sees before after = if sees then gained user_cmp (if saw then before else []) after else []

-- the users who are lost, in the same way
abbrev pub lost_peers : Bool → Bool → List (UserId × ⊤) → List (UserId × ⊤) → List (UserId × ⊤)
lost_peers saw sees before after = if sees then gained user_cmp after (if saw then before else []) else []
