use Rattle.zw_traces.specs.ShardTrace.{given_rows, pushed_events}
use Rattle.zw_traces.proofs.RealmTraces.{announced_within}
use Rattle.zw_laws.proofs.Announced.{position_announced}
use Rattle.zw_laws.proofs.laws.positions_are_announced.Goals as goal

pub returns : goal.returns
returns c = λ realm trace legal_realm legal fed. (position_announced realm pushed_events given_rows trace legal fed, announced_within realm legal_realm)
