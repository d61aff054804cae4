use Rattle.std.proofs.Common.{nat_le, rules}
use Rattle.std.proofs.lemmas.Fn.{always_returns_same}
use Rattle.ev_groups.specs.Items.{Numbered}
use Rattle.q_queue.proofs.ItemLemmas.{partitioned_ids, parted}
use Rattle.q_queue.proofs.items.count_up_to.Goals as goal

-- the place parts the items at the id
pub returns-clause-first : goal.returns-clause-first
returns-clause-first c =
    let point = c.partition_point.ensures.partitioned (λ (item : Numbered). nat_le item.0 c.args.id) (always_returns_same _ _ _ (λ a r f' called. search rules)) (partitioned_ids c.args.id c.args.items.now c.requires) in
    (parted c.args.id c.args.items.now c.partition_point.result c.partition_point.ensures.bound point).0

pub returns-clause-others : goal.returns-clause-others
returns-clause-others c =
    let point = c.partition_point.ensures.partitioned (λ (item : Numbered). nat_le item.0 c.args.id) (always_returns_same _ _ _ (λ a r f' called. search rules)) (partitioned_ids c.args.id c.args.items.now c.requires) in
    (parted c.args.id c.args.items.now c.partition_point.result c.partition_point.ensures.bound point).1
