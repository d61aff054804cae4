use Rattle.std.proofs.Common.{◌∷◌, sym, subst}
use Rattle.zw_traces.specs.ShardTrace.{ShardAccount}
use Rattle.zw_traces.specs.KeptAccount.{Represents}
use Rattle.zw_traces.proofs.KeptSteps.{represents_step}
use Rattle.q_shard.specs.HeldQueues.{seen}
use Rattle.q_shard.proofs.shard_core.ShardCore.step.Goals as goal

pub returns-clause-reply : goal.returns-clause-reply
returns-clause-reply c = λ trace represents.
    let before : Represents (seen c.self.inside.shard) trace = rw c.self.view_is represents in
    (represents_step (seen c.self.inside.shard) trace c.args.input c.answer.result before c.answer.ensures.reply).legal.0

pub returns-clause-represents : goal.returns-clause-represents
returns-clause-represents c = λ trace represents.
    let before : Represents (seen c.self.inside.shard) trace = rw c.self.view_is represents in
    subst (λ (value : ShardAccount). Represents value (record { input = c.args.input; reply = c.answer.result } ∷ trace)) (sym c.answer.ensures.shard)
    (represents_step (seen c.self.inside.shard) trace c.args.input c.answer.result before c.answer.ensures.reply)

pub invariant_of-self : goal.invariant_of-self
invariant_of-self c = (
  _,
  subst (λ (value : ShardAccount). Represents value (record { input = c.args.input; reply = c.answer.result } ∷ c.self.invariant.0)) (sym c.answer.ensures.shard)
      (represents_step (seen c.self.inside.shard) c.self.invariant.0 c.args.input c.answer.result c.self.invariant.1 c.answer.ensures.reply),
)
