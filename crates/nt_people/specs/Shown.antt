-- What one row of a table gives to the sight that a role opens.
use Rattle.std.specs.Prelude.{Option, Some, option_map}
use Rattle.ev_base.specs.declared.ids.UserId.{UserId}
use Rattle.ev_base.specs.declared.ids.StreamId.{StreamId}
use Rattle.ev_base.specs.declared.ids.MessageId.{MessageId}
use Rattle.ev_base.specs.declared.kinds.Role.{Role}
use Rattle.ev_rows.specs.Rows.{only_if}
use Rattle.ev_types.specs.declared.rows.ShownMessage.{ShownMessage}
use Rattle.ev_types.specs.declared.rows.ShownStream.{ShownStream}
use Rattle.nt_people.specs.PeopleParts.{opens, opens_place}
use Rattle.zr_types.specs.declared.posts.Message.{Message}
use Rattle.zr_types.specs.declared.streams.Stream.{Stream}
use Rattle.zr_types.specs.Tables.{Tables, receipt_of}
use Rattle.zw_views.specs.Views.{shown_message, shown_stream}

module _ (tables : Tables) where
  abbrev pub opened_in : UserId → Option Role → Option Role → StreamId × Stream → Option ShownStream
  opened_in user old new row = only_if (opens tables user old new row.0) (Some (shown_stream row.1))

  abbrev pub arrived_in : UserId → Option Role → Option Role → MessageId × Message → Option ShownMessage
  arrived_in user old new row =
      only_if (opens_place tables user old new row.1.place) (option_map (shown_message row.1) (receipt_of tables user row.0))
