-- Flows whose replies make answers.
use Rattle.std.proofs.Common.{◌≡◌, ℕ, ℤ, ◌%◌, Bool, List, Option, Result, refl, sym, subst, arith}
use Rattle.std.proofs.lemmas.List.{length-map}
use Rattle.ev_rows.specs.declared.memory.NoMemory.{NoMemory}
use Rattle.ev_base.specs.declared.ids.UserId.{UserId}
use Rattle.ev_base.specs.declared.ids.QueueId.{QueueId}
use Rattle.zr_types.specs.declared.command.Command.{Command}
use Rattle.zw_traces.specs.declared.realm.RealmInput.TheVariants as realm
use Rattle.zw_traces.specs.declared.realm.RealmReply.{RealmReply}
use Rattle.zw_traces.specs.declared.shard.ShardInput.TheVariants as shard
use Rattle.zw_traces.specs.declared.shard.ShardReply.{ShardReply}
use Rattle.zw_backend.specs.Seen.{MayCall, Seen, history_of, of_realm, of_shard, steps_of}
use Rattle.zw_backend.specs.Backends.{After, Sights}
use Rattle.hw_replies.specs.declared.answer.Answer.{Answer}
use Rattle.sv_calls.specs.Flows.{Any, Goes, IsServing}
use Rattle.sv_polls.specs.Polls.{PollsEvents}
use Rattle.sv_polls.specs.declared.poll.Poll.{Poll}
use Rattle.sv_registers.specs.Registrations.{Registers}
use Rattle.sv_registers.specs.declared.opening.Registration.{Registration}
use Rattle.sv_registers.specs.declared.registration.Registered.{Registered}
use Rattle.hw_routes.specs.declared.call.Call.{Call}
use Rattle.hw_routes.specs.declared.call.Call.TheVariants.{Events, Commit}
use Rattle.sv_answers.specs.Calls.{AnswersCall, Commits, Deletes, PollsFor, RegistersFor, actual}
use Rattle.sv_answers.specs.Commands.{made_by}
use Rattle.sv_answers.specs.Replies.{IsRegistered, answer_of_commit, answer_of_delete, answer_of_poll}

pub registers_for : (a b : Sights) (asking : Registration) (commits : ℕ) (result : Registered) (answer : Answer) → Goes a Any (Registers asking commits result) b
    → IsRegistered result answer → Goes a Any (RegistersFor asking commits answer) b
registers_for a b asking commits result answer goes is before holds any =
    let one = goes before holds tt in
    record { seen = one.seen; holds = one.holds; done = (result, one.done, is) }

pub polls_for : (a b : Sights) (text : List ℕ) (poll : Poll) (commits : ℕ) (clock clock' : Option (List ℕ)) (told : Result ShardReply NoMemory) (answer : Answer)
    → Goes a Any (PollsEvents poll commits clock clock' told) b → answer ≡ answer_of_poll text poll.queue told
    → Goes a Any (PollsFor text poll commits clock clock' answer) b
polls_for a b text poll commits clock clock' told answer goes is before holds any =
    let one = goes before holds tt in
    record { seen = one.seen; holds = one.holds; done = (told, one.done, is) }

may_delete : (user : UserId) (queue : QueueId) (at : ℕ) (told : ShardReply) (seen : Seen) → IsServing user at seen
    → MayCall (history_of seen) (of_shard at (record { input = shard.Delete user queue; reply = told }))
may_delete user queue at told seen serves =
    let many = length-map seen.shards steps_of in
    let there = serves.0 in
    (omega (arith, many, there), record { fed = tt; parted = tt; served = subst (λ n. user.0 % n ≡ at) (sym many) serves.1 })

pub deletes_for : (a b : Sights) (user : UserId) (text : List ℕ) (queue : QueueId) (at : ℕ) (told : ShardReply) (answer : Answer)
    → ((seen : Seen) → a seen → IsServing user at seen) → After a (of_shard at (record { input = shard.Delete user queue; reply = told })) b
    → answer ≡ answer_of_delete text told → Goes a Any (Deletes user text queue answer) b
deletes_for a b user text queue at told answer serves after is before holds any =
    let served = serves before holds in
    let went = after before holds (may_delete user queue at told before served) in
    record { seen = went.seen; holds = went.holds; done = (at, told, served, went.extends, is) }

pub commits_for : (a b : Sights) (actor : UserId) (moment : ℕ) (command : Command) (told : RealmReply) (answer : Answer)
    → After a (of_realm (record { input = realm.Commit actor moment command; reply = told })) b
    → answer ≡ answer_of_commit (made_by command) told → Goes a Any (Commits actor moment command answer) b
commits_for a b actor moment command told answer after is before holds any =
    let went = after before holds tt in
    record { seen = went.seen; holds = went.holds; done = (told, went.extends, is) }

-- the calls
pub answers_events : (a b : Sights) (user : UserId) (commits moment : ℕ) (call : Call) (clock clock' entropy : Option (List ℕ)) (answer : Answer)
    (text : List ℕ) (queue : QueueId) (from given : ℤ) (dont_block : Bool) → call ≡ Events text queue from dont_block → given ≡ from
    → Goes a Any (PollsFor text (record { user = user; queue = queue; after = given; dont_block = dont_block; moment = moment }) commits clock clock' answer) b
    → Goes a Any (AnswersCall user commits call moment clock clock' entropy entropy answer) b
answers_events a b user commits moment call clock clock' entropy answer text queue from given dont_block is same goes =
    subst (λ (made : Call). Goes a Any (AnswersCall user commits made moment clock clock' entropy entropy answer) b) (sym is)
    (λ before holds any. let one = goes before holds tt in
    record {
      seen = one.seen;
      holds = one.holds;
      done = (refl, subst (λ z. PollsFor text (record { user = user; queue = queue; after = z; dont_block = dont_block; moment = moment }) commits clock clock' answer before one.seen) same one.done);
    })

pub answers_commit : (a b : Sights) (user : UserId) (commits moment : ℕ) (call : Call) (clock entropy : Option (List ℕ)) (answer : Answer)
    (given command : Command) (own_user : Bool) → call ≡ Commit given own_user → command ≡ actual given own_user user
    → Goes a Any (Commits user moment command answer) b
    → Goes a Any (AnswersCall user commits call moment clock clock entropy entropy answer) b
answers_commit a b user commits moment call clock entropy answer given command own_user is made goes =
    subst (λ (asked : Call). Goes a Any (AnswersCall user commits asked moment clock clock entropy entropy answer) b) (sym is)
    (λ before holds any. let one = goes before holds tt in
    record { seen = one.seen; holds = one.holds; done = (refl, refl, subst (λ c. Commits user moment c answer before one.seen) made one.done) })
