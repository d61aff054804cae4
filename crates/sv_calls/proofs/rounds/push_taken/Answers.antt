use Rattle.sv_calls.proofs.Notices.{are_numbered, pushes_taken}
use Rattle.zw_backend.specs.Seen.{steps_of}
use Rattle.sv_calls.proofs.rounds.push_taken.Goals as goal

pub ask_shard-requires-clause-proper : goal.ask_shard-requires-clause-proper
ask_shard-requires-clause-proper g c = are_numbered (steps_of c.requires.ready.0.realm) c.args.first c.args.notices c.requires.ready.2.1

pub returns : goal.returns
returns g c = pushes_taken _ _ c.args.shard c.args.first c.args.notices c.ask_shard.result c.position_in.result c.ask_shard.ensures c.position_in.ensures
