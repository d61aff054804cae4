use Rattle.std.proofs.Common.{ℕ, Option, Some, ap, ◌∙◌}
use Rattle.std.specs.Option.{unwrap_or}
use Rattle.std.specs.Map.{lookup}
use Rattle.zw_traces.specs.Account.{same_user}
use Rattle.q_shard.proofs.EntryLemmas.{opens_set}
use Rattle.indexmap.specs.IndexMap.{Updates}
use Rattle.q_shard.proofs.shard.set_opens.Goals as goal

pub returns : goal.returns
returns c = λ other.
    let updates : Updates same_user c.args.opens.now c.insert.new.self c.args.user (Some c.args.count) = rw c.unwrap.ensures at c.insert.ensures.updates in
    ap (λ (o : Option ℕ). unwrap_or o 0) (updates.0 other) ∙ opens_set c.args.user other c.args.count (lookup (same_user other) c.args.opens.now.entries)
