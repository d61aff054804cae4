-- What a shard keeps of its queues: those that are opening or live, without their pruned items.
use Rattle.std.specs.Prelude.{◌≡◌, ℕ, ◌+◌, List, if◌then◌else◌}
use Rattle.ev_base.specs.declared.ids.UserId.{UserId}
use Rattle.zw_traces.specs.declared.shard.ShardInput.{ShardInput}
use Rattle.zw_traces.specs.declared.shard.ShardInput.TheVariants.{Start}
use Rattle.zw_traces.specs.declared.shard.ShardReply.{ShardReply}
use Rattle.zw_traces.specs.declared.shard.ShardReply.TheVariants.{Opened}
use Rattle.zw_traces.specs.Account.{Account, Feeding, account_after, unopened_account, above, is_held, same_user}
use Rattle.zw_traces.specs.ShardTrace.{ShardAccount, IsLegalShard, position_after, opened_after, held_among, shard_account, pushed_events}
use Rattle.zw_traces.specs.declared.shard.ShardStep.{ShardStep}

abbrev pub without_pruned : Account → Account
without_pruned a = record a { cut_off = above a.pruned a.cut_off }

abbrev pub kept_account : Account → Account
kept_account a = if is_held a then without_pruned a else unopened_account

abbrev pub kept_shard : ShardAccount → ShardAccount
kept_shard s = record { position = s.position; opens = s.opens; queues = s.queues; account = λ queue. kept_account (s.account queue) }

abbrev pub opens_after : ShardInput → ShardReply → (UserId → ℕ) → UserId → ℕ
opens_after (Start user salt moment types asked) (Opened queue at) before other = if same_user other queue.user then before other + 1 else before other
opens_after input reply before other = before other

-- one step of all queues
abbrev pub shard_after : Feeding → ShardInput → ShardReply → ShardAccount → ShardAccount
shard_after feeding input reply s = record {
  position = position_after input reply s.position;
  opens = opens_after input reply s.opens;
  queues = held_among (λ queue. account_after feeding queue s.position input reply (s.account queue)) (opened_after input reply s.queues);
  account = λ queue. account_after feeding queue s.position input reply (s.account queue);
}

-- a shard's value is what is kept of a trace that is legal by its own steps
pub record Represents (value : ShardAccount) (trace : List ShardStep) : Type 0 where
  pub keeps : value ≡ kept_shard (shard_account pushed_events trace)
  pub legal : IsLegalShard trace
