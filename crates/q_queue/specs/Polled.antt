-- What a poll makes of the account that is kept of a queue.
use Rattle.std.specs.Prelude.{ℕ, ◌+◌, ℤ, Bool, [], ◌∷◌, max}
use Rattle.ev_types.specs.declared.event.Event.TheVariants.{Heartbeat}
use Rattle.zw_traces.specs.declared.shard.ShardReply.{ShardReply}
use Rattle.zw_traces.specs.declared.shard.ShardReply.TheVariants.{Answer, Empty}
use Rattle.zw_traces.specs.Account.{Account, after_answer, after_empty, count_of, greatest_id, items_of}
use Rattle.ev_groups.specs.Items.{Numbered}
use Rattle.zw_traces.specs.KeptAccount.{without_pruned}

-- by the reply, where count ids are acknowledged; a reply that refuses changes nothing
abbrev pub answered : ℕ → ℕ → Bool → ShardReply → Account → Account
answered count moment beat (Answer list reached) a = without_pruned (after_answer count beat moment a)
answered count moment beat (Empty reached) a = without_pruned (after_empty count moment a)
answered count moment beat reply a = a

abbrev pub polled : ℤ → ℕ → Bool → ShardReply → Account → Account
polled after moment beat reply a = answered (count_of after) moment beat reply a

-- a heartbeat after this number of ids
abbrev pub heartbeat : ℕ → Numbered
heartbeat next = (next + 1, Heartbeat)

-- a heartbeat is given, and all items before it are pruned
abbrev pub after_heartbeat : ℕ → Account → Account
after_heartbeat moment a = record a {
  next = a.next + 1;
  cut_off = heartbeat a.next ∷ [];
  open_items = [];
  given = a.next + 1;
  pruned = greatest_id a.pruned (items_of a);
  last = max a.last moment;
}
