use Rattle.zw_laws.proofs.Replaying.{overlapping_view}
use Rattle.zw_laws.proofs.laws.overlapping_events_replay.Goals as goal

pub returns : goal.returns
returns c = overlapping_view
