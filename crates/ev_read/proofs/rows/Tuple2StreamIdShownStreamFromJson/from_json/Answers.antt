use Rattle.std.proofs.Common.{refl}
use Rattle.ev_read.specs.Rows.{stream_row}
use Rattle.ev_read.proofs.rows.Tuple2StreamIdShownStreamFromJson.from_json.Goals as goal

pub returns : goal.returns
unfolding stream_row
returns c =
    rw (c.in_ok-description.ensures, c.in_ok-history_public_to_subscribers.ensures, c.in_ok-invite_only.ensures, c.in_ok-name.ensures, c.in_ok-stream.ensures) refl
