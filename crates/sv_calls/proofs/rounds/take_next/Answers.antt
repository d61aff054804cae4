use Rattle.sv_calls.proofs.Notices.{takes_next}
use Rattle.sv_calls.proofs.rounds.take_next.Goals as goal

pub returns : goal.returns
returns g c = takes_next _ _ _ c.args.first c.ask_realm.result c.ask_realm-2.result c.notices_in.result c.ask_realm.ensures c.ask_realm-2.ensures c.notices_in.ensures
