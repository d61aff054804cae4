-- What calls do, and what they are answered.
use Rattle.std.specs.Prelude.{◌≡◌, ℕ, Bool, List, Option, Result, if◌then◌else◌}
use Rattle.ev_rows.specs.declared.memory.NoMemory.{NoMemory}
use Rattle.ev_base.specs.declared.ids.UserId.{UserId}
use Rattle.ev_base.specs.declared.ids.QueueId.{QueueId}
use Rattle.ev_time.specs.Coming.{Tells}
use Rattle.zr_types.specs.declared.command.Command.{Command}
use Rattle.zw_traces.specs.declared.realm.RealmInput.TheVariants as realm
use Rattle.zw_traces.specs.declared.realm.RealmReply.{RealmReply}
use Rattle.zw_traces.specs.declared.shard.ShardInput.TheVariants as shard
use Rattle.zw_traces.specs.declared.shard.ShardReply.{ShardReply}
use Rattle.zw_backend.specs.Seen.{Seen}
use Rattle.hw_replies.specs.declared.answer.Answer.{Answer}
use Rattle.hw_routes.specs.declared.call.Call.{Call}
use Rattle.hw_routes.specs.declared.call.Call.TheVariants.{Register, Events, DeleteQueue, Commit}
use Rattle.sv_calls.specs.Flows.{AsksRealm, AsksShard, IsServing}
use Rattle.sv_polls.specs.Polls.{PollsEvents}
use Rattle.sv_polls.specs.declared.poll.Poll.{Poll}
use Rattle.sv_registers.specs.Registrations.{Registers}
use Rattle.sv_registers.specs.declared.opening.Registration.{Registration}
use Rattle.sv_registers.specs.declared.registration.Registered.{Registered}
use Rattle.sv_answers.specs.Commands.{for_user, made_by}
use Rattle.sv_answers.specs.Replies.{IsRegistered, answer_of_commit, answer_of_delete, answer_of_poll}

-- a registration, and what it is answered
abbrev pub RegistersFor : Registration → ℕ → Answer → Seen → Seen → Type 0
RegistersFor asking commits answer before after =
    (result : Registered) × Registers asking commits result before after × IsRegistered result answer

-- a poll of the queue that a text names
abbrev pub PollsFor : List ℕ → Poll → ℕ → Option (List ℕ) → Option (List ℕ) → Answer → Seen → Seen → Type 0
PollsFor text poll commits clock clock' answer before after =
    (told : Result ShardReply NoMemory) × PollsEvents poll commits clock clock' told before after × (answer ≡ answer_of_poll text poll.queue told)

-- one deletion of the queue that a text names, at the shard that serves the user
abbrev pub Deletes : UserId → List ℕ → QueueId → Answer → Seen → Seen → Type 0
Deletes user text queue answer before after =
    (at : ℕ) × (told : ShardReply) × IsServing user at before × AsksShard at (shard.Delete user queue) told before after × (answer ≡ answer_of_delete text told)

-- one command
abbrev pub Commits : UserId → ℕ → Command → Answer → Seen → Seen → Type 0
Commits actor moment command answer before after =
    (told : RealmReply) × AsksRealm (realm.Commit actor moment command) told before after × (answer ≡ answer_of_commit (made_by command) told)

-- the command of a call, whose own user is the one that it was made for
abbrev pub actual : Command → Bool → UserId → Command
actual command own_user user = if own_user then for_user command user else command

-- a call of a user who has seen so many commits, at a moment, and its answer; a registration takes one word of entropy, and only
-- a poll that waits reads the clock
abbrev pub AnswersCall : UserId → ℕ → Call → ℕ → Option (List ℕ) → Option (List ℕ) → Option (List ℕ) → Option (List ℕ) → Answer → Seen → Seen → Type 0
AnswersCall user commits (Register types asked) moment clock clock' entropy entropy' answer before after =
    (clock' ≡ clock) × (salt : ℕ) × Tells salt entropy entropy'
    × RegistersFor (record { user = user; types = types; asked = asked; moment = moment; salt = salt }) commits answer before after
AnswersCall user commits (Events text queue from dont_block) moment clock clock' entropy entropy' answer before after =
    (entropy' ≡ entropy)
    × PollsFor text (record { user = user; queue = queue; after = from; dont_block = dont_block; moment = moment }) commits clock clock' answer before after
AnswersCall user commits (DeleteQueue text queue) moment clock clock' entropy entropy' answer before after =
    (clock' ≡ clock) × (entropy' ≡ entropy) × Deletes user text queue answer before after
AnswersCall user commits (Commit command own_user) moment clock clock' entropy entropy' answer before after =
    (clock' ≡ clock) × (entropy' ≡ entropy) × Commits user moment (actual command own_user user) answer before after
