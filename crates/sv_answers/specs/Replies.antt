-- The answers that replies make.
use Rattle.std.specs.Prelude.{◌≡◌, ℕ, ◌⊎◌, List, [], Option, Some, Result, Ok}
use Rattle.ev_rows.specs.declared.memory.NoMemory.{NoMemory}
use Rattle.ev_base.specs.QueueIds.{queue_text}
use Rattle.ev_base.specs.declared.ids.QueueId.{QueueId}
use Rattle.zw_traces.specs.declared.realm.RealmReply.{RealmReply}
use Rattle.zw_traces.specs.declared.realm.RealmReply.TheVariants as realm
use Rattle.zw_traces.specs.declared.shard.ShardReply.{ShardReply}
use Rattle.zw_traces.specs.declared.shard.ShardReply.TheVariants as shard
use Rattle.hw_replies.specs.declared.answer.Answer.{Answer}
use Rattle.hw_replies.specs.declared.answer.Answer.TheVariants as answer
use Rattle.hw_replies.specs.declared.problem.Problem.TheVariants as problem
use Rattle.sv_registers.specs.declared.registration.Registered.{Registered}
use Rattle.sv_registers.specs.declared.registration.Registered.TheVariants as registered
use Rattle.sv_answers.specs.declared.commands.Made.{Made}
use Rattle.sv_answers.specs.declared.commands.Made.TheVariants as made

-- of a poll of the queue that a text names; a reply that never comes stands for out of memory, here and below
abbrev pub answer_of_poll : List ℕ → QueueId → Result ShardReply NoMemory → Answer
answer_of_poll text queue (Ok (shard.Answer items reached)) = answer.Events queue items
answer_of_poll text queue (Ok (shard.Empty reached)) = answer.Events queue []
answer_of_poll text queue (Ok shard.BadQueue) = answer.Refused (problem.BadQueue text)
answer_of_poll text queue (Ok (shard.Pruned newest)) = answer.Refused (problem.Pruned newest)
answer_of_poll text queue (Ok (shard.NotSent greatest)) = answer.Refused (problem.NotSent greatest)
answer_of_poll text queue other = answer.Refused problem.NoMemory

-- of a deletion of the queue that a text names
abbrev pub answer_of_delete : List ℕ → ShardReply → Answer
answer_of_delete text shard.Deleted = answer.Done
answer_of_delete text shard.BadQueue = answer.Refused (problem.BadQueue text)
answer_of_delete text other = answer.Refused problem.NoMemory

-- of an accepted command, by what it made
abbrev pub committed_as : Made → Option ℕ → List ℕ → Answer
committed_as made.Message (Some message) changed = answer.MessageSent message
committed_as made.User (Some user) changed = answer.UserAdded user
committed_as made.Stream (Some stream) changed = answer.StreamCreated stream
committed_as made.Flags id changed = answer.FlagsChanged changed
committed_as other id changed = answer.Done

-- of a command
abbrev pub answer_of_commit : Made → RealmReply → Answer
answer_of_commit made (realm.Committed committed) = committed_as made committed.id committed.changed
answer_of_commit made (realm.Refused why) = answer.Refused (problem.Refused why)
answer_of_commit made other = answer.Refused problem.NoMemory

-- of a registration
abbrev pub IsRegistered : Registered → Answer → Type 0
IsRegistered (registered.Finished queue last state) told = told ≡ answer.Registered queue last state
IsRegistered (registered.BadQueue queue) told =
    (told ≡ answer.Refused (problem.BadQueue (queue_text queue))) ⊎ (told ≡ answer.Refused problem.NoMemory)
IsRegistered registered.FetchRefused told = told ≡ answer.Refused problem.NotLoggedIn
IsRegistered registered.TooManyQueues told = told ≡ answer.Refused problem.TooManyQueues
IsRegistered registered.OpensSpent told = told ≡ answer.Refused problem.OpensSpent
IsRegistered registered.NoMemory told = told ≡ answer.Refused problem.NoMemory
