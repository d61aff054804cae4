-- Opening and deleting queues.
use Rattle.std.specs.Prelude.{◌≡◌, ℕ, Result, Ok, Err}
use Rattle.ev_base.specs.declared.ids.UserId.{UserId}
use Rattle.ev_base.specs.declared.ids.QueueId.{QueueId}
use Rattle.zw_traces.specs.declared.shard.ShardInput.TheVariants.{Delete, Start}
use Rattle.zw_traces.specs.declared.shard.ShardReply.{ShardReply}
use Rattle.zw_traces.specs.declared.shard.ShardReply.TheVariants as reply
use Rattle.zw_backend.specs.Seen.{Seen}
use Rattle.sv_calls.specs.Flows.{AsksShard}
use Rattle.sv_registers.specs.declared.opening.Opened.{Opened}
use Rattle.sv_registers.specs.declared.opening.Registration.{Registration}
use Rattle.sv_registers.specs.declared.registration.Registered.{Registered}
use Rattle.sv_registers.specs.declared.registration.Registered.TheVariants as registered

-- what a reply to an opening tells; any other reply stands for out of memory
abbrev pub Tells : ShardReply → Result Opened Registered → Type 0
Tells told (Ok opened) = told ≡ reply.Opened opened.queue opened.position
Tells told (Err registered.OpensSpent) = told ≡ reply.OpensSpent
Tells told (Err registered.TooManyQueues) = told ≡ reply.TooManyQueues
Tells told (Err registered.NoMemory) = Unit {0}
Tells told (Err other) = ⊥

-- the shard is asked for a queue, and this is what its reply tells
abbrev pub Opens : ℕ → Registration → Result Opened Registered → Seen → Seen → Type 0
Opens shard asking result before after =
    (told : ShardReply) × Tells told result
    × AsksShard shard (Start asking.user asking.salt asking.moment asking.types asking.asked) told before after

-- the user's queue is deleted, if it is still there
abbrev pub Deletes : ℕ → UserId → QueueId → Seen → Seen → Type 0
Deletes shard user queue before after = (told : ShardReply) × AsksShard shard (Delete user queue) told before after
