use Rattle.zw_backend.proofs.OwnSteps.{index_within, shard_stepped}
use Rattle.zw_backend.proofs.alone.AloneBackend.ask_shard.Goals as goal

pub ask_shard-requires-clause-index : goal.ask_shard-requires-clause-index
ask_shard-requires-clause-index g c = index_within c.args.pass.now c.args.shard c.args.input c.requires.may

pub returns : goal.returns
returns g c = shard_stepped c.args.pass.now c.ask_shard.new.self c.args.shard c.args.input c.ask_shard.result c.ask_shard.ensures.reply c.ask_shard.ensures.represents
