use Rattle.sv_polls.proofs.Asking.{catches_up_from, ready_to_catch_up}
use Rattle.sv_polls.proofs.events.catch_up_to.Goals as goal

pub catch_up-requires : goal.catch_up-requires
catch_up-requires g c = record { ready = ready_to_catch_up _ _ c.args.shard c.in_ok-have.have c.requires.ready c.in_ok-have.ensures }

pub returns : goal.returns
returns g c = catches_up_from _ _ _ c.args.shard c.args.commits c.in_ok-have.have c.catch_up.result c.in_ok-have.ensures c.catch_up.ensures
