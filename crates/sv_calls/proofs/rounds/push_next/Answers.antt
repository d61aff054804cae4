use Rattle.sv_calls.proofs.Notices.{push_ready, pushes_next}
use Rattle.sv_calls.proofs.rounds.push_next.Goals as goal

pub push_taken-requires : goal.push_taken-requires
push_taken-requires g c =
    record { ready = push_ready _ _ c.args.shard c.args.first c.in_ok-notices.notices c.requires.ready c.in_ok-notices.ensures }

pub returns : goal.returns
returns g c =
    pushes_next _ _ _ c.args.shard c.args.first c.in_ok-notices.notices c.push_taken.result c.in_ok-notices.ensures c.push_taken.ensures
