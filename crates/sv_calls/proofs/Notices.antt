-- Notices that were taken may be pushed.
use Rattle.std.proofs.Common.{◌≡◌, ℕ, ◌+◌, ◌<◌, ◌≤◌, List, [], ◌∷◌, refl, ap, sym, subst, Result, Ok, Err, IfOk, inl, inr, arith}
use Rattle.std.specs.Prelude.{⊤}
use Rattle.std.proofs.lemmas.List.{length-map}
use Rattle.ev_types.specs.declared.notice.Notice.{Notice}
use Rattle.zw_traces.specs.declared.realm.RealmInput.TheVariants.{NoticeAll, Take}
use Rattle.zw_traces.specs.declared.realm.RealmInput.{RealmInput}
use Rattle.zw_traces.specs.declared.realm.RealmReply.{RealmReply}
use Rattle.zw_traces.specs.declared.realm.RealmReply.TheVariants.{Notices}
use Rattle.ev_rows.specs.declared.memory.NoMemory.{NoMemory}
use Rattle.zw_traces.specs.declared.shard.ShardReply.TheVariants.{Pushed}
use Rattle.zw_traces.specs.declared.realm.RealmStep.{RealmStep}
use Rattle.zw_traces.specs.declared.shard.ShardInput.TheVariants.{Push}
use Rattle.zw_traces.specs.declared.shard.ShardReply.{ShardReply}
use Rattle.zw_traces.specs.RealmTrace.{IsLegalRealm, RealmAnswers}
use Rattle.zw_traces.specs.RealmFeeds.{AreAnnounced}
use Rattle.zw_laws.proofs.FedSteps.{taken_notices_are_announced}
use Rattle.q_shard.specs.ShardInputs.{AreNumbered}
use Rattle.zw_backend.specs.Seen.{MayCall, Seen, history_of, of_realm, of_shard, steps_of}
use Rattle.zw_backend.specs.Backends.{After, Sights}
use Rattle.sv_calls.specs.Flows.{AsksRealm, AsksShard, Goes, HasShard, IsReady}
use Rattle.sv_calls.specs.Pushing.{CatchesUp, GoesRound, MayPush, PushesNext, PushesTaken, TakesFrom, TakesNext}
use Rattle.sv_calls.proofs.Going.{still_there}

pub are_numbered : (realm : List RealmStep) (first : ℕ) (list : List Notice) → AreAnnounced realm first list → AreNumbered first list
are_numbered realm first [] announced = tt
are_numbered realm first (notice ∷ list) announced = (announced.0.numbered, are_numbered realm (first + 1) list announced.2)

-- the latest step of the realm, after a call of it
latest : (input : _) (reply : RealmReply) (before after : Seen) → AsksRealm input reply before after
    → (earlier : List RealmStep) × (steps_of after.realm ≡ record { input = input; reply = reply } ∷ earlier)
latest input reply before after asks = (steps_of asks.realm.before, ap steps_of asks.realm.ends)

-- the answer to a call of the realm is right after the steps before
pub answered : (input : _) (reply : RealmReply) (before after : Seen) → (asks : AsksRealm input reply before after)
    → RealmAnswers (steps_of asks.realm.before) input reply
answered input reply before after asks =
    (subst IsLegalRealm (ap steps_of asks.realm.ends) asks.fed.realm).0

-- the notices are announced ones
pub taken_are_announced : (first : ℕ) (notices : List Notice) (before after : Seen) → AsksRealm (Take first) (Notices first notices) before after
    → AreAnnounced (steps_of after.realm) first notices
taken_are_announced first notices before after takes =
    subst (λ steps. AreAnnounced steps first notices) (sym (ap steps_of takes.realm.ends))
    (taken_notices_are_announced (steps_of takes.realm.before) first notices (answered (Take first) (Notices first notices) before after takes))

-- the reply names the first of its notices
pub taken_from : (first from : ℕ) (notices : List Notice) (before after : Seen) → AsksRealm (Take first) (Notices from notices) before after → from ≡ first
taken_from first from notices before after takes = (answered (Take first) (Notices from notices) before after takes).0

-- notices that were announced may be pushed
pub push_allowed : (shard first : ℕ) (notices : List Notice) (reply : ShardReply) (seen : Seen) → MayPush shard first notices seen
    → MayCall (history_of seen) (of_shard shard (record { input = Push first notices; reply = reply }))
push_allowed shard first notices reply seen may = (
  (let many = length-map seen.shards steps_of in let there = may.0 in omega (arith, many, there)),
  record { fed = may.1; parted = tt; served = tt },
)

-- the flows of a round
pub takes_next : (a b c : Sights) (first : ℕ) (told reply : RealmReply) (result : Result (List Notice) NoMemory)
    → After a (of_realm (record { input = NoticeAll; reply = told })) b → After b (of_realm (record { input = Take first; reply = reply })) c
    → IfOk result (λ list. (from : ℕ) × (reply ≡ Notices from list))
    → Goes a (λ seen. ⊤) (TakesNext first result) c
takes_next a b c first told reply (Ok list) one two is before holds ready =
    let went = one before holds tt in
    let on = two went.seen went.holds tt in
    let asks : AsksRealm (Take first) (Notices is.0 list) went.seen on.seen = subst (λ r. AsksRealm (Take first) r went.seen on.seen) is.1 on.extends in
    let from = taken_from first is.0 list went.seen on.seen asks in
    record {
      seen = on.seen;
      holds = on.holds;
      done = record {
        told = told;
        announced = went.seen;
        announces = went.extends;
        takes = subst (λ n. AsksRealm (Take first) (Notices n list) went.seen on.seen) from asks;
      };
    }
takes_next a b c first told reply (Err none) one two is before holds ready =
    let went = one before holds tt in
    let on = two went.seen went.holds tt in
    record { seen = on.seen; holds = on.holds; done = (reply, record { told = told; announced = went.seen; announces = went.extends; takes = on.extends }) }

pub pushes_taken : (a b : Sights) (shard first : ℕ) (notices : List Notice) (reply : ShardReply) (result : Result ℕ NoMemory)
    → After a (of_shard shard (record { input = Push first notices; reply = reply })) b
    → IfOk result (λ position. reply ≡ Pushed position)
    → Goes a (MayPush shard first notices) (PushesTaken shard first notices result) b
pushes_taken a b shard first notices reply (Ok position) asked is before holds ready =
    let went = asked before holds (push_allowed shard first notices reply before ready) in
    record { seen = went.seen; holds = went.holds; done = subst (λ r. AsksShard shard (Push first notices) r before went.seen) is went.extends }
pushes_taken a b shard first notices reply (Err none) asked is before holds ready =
    let went = asked before holds (push_allowed shard first notices reply before ready) in
    record { seen = went.seen; holds = went.holds; done = (reply, went.extends) }

there_after_realm : (shard : ℕ) (input : RealmInput) (reply : RealmReply) (before after : Seen) → AsksRealm input reply before after → HasShard shard before → HasShard shard after
there_after_realm shard input reply before after asks there = still_there shard before (of_realm (record { input = input; reply = reply })) after asks there

-- what a round may push
pub taken_leads : (shard first : ℕ) (notices : List Notice) (before after : Seen) → HasShard shard before → TakesFrom first (Notices first notices) before after
    → MayPush shard first notices after
taken_leads shard first notices before after there takes = (
  there_after_realm shard (Take first) (Notices first notices) takes.announced after takes.takes
      (there_after_realm shard NoticeAll takes.told before takes.announced takes.announces there),
  taken_are_announced first notices takes.announced after takes.takes,
)

pub push_ready : (a b : Sights) (shard first : ℕ) (notices : List Notice) → IsReady a (HasShard shard)
    → Goes a (λ seen. ⊤) (TakesNext first (Ok notices)) b → IsReady b (MayPush shard first notices)
push_ready a b shard first notices ready goes =
    let one = goes ready.0 ready.1 tt in
    (one.seen, one.holds, taken_leads shard first notices ready.0 one.seen ready.2 one.done)

pub pushes_next : (a b c : Sights) (shard first : ℕ) (notices : List Notice) (result : Result ℕ NoMemory)
    → Goes a (λ seen. ⊤) (TakesNext first (Ok notices)) b
    → Goes b (MayPush shard first notices) (PushesTaken shard first notices result) c
    → Goes a (HasShard shard) (PushesNext shard first result) c
pushes_next a b c shard first notices (Ok position) takes pushes before holds there =
    let one = takes before holds tt in
    let two = pushes one.seen one.holds (taken_leads shard first notices before one.seen there one.done) in
    record { seen = two.seen; holds = two.holds; done = record { notices = notices; taken = one.seen; takes = one.done; pushes = two.done } }
pushes_next a b c shard first notices (Err none) takes pushes before holds there =
    let one = takes before holds tt in
    let two = pushes one.seen one.holds (taken_leads shard first notices before one.seen there one.done) in
    record { seen = two.seen; holds = two.holds; done = inr (two.done.0, record { notices = notices; taken = one.seen; takes = one.done; pushes = two.done.1 }) }

pub takes_nothing : (a b : Sights) (shard first : ℕ) (none : NoMemory) → Goes a (λ seen. ⊤) (TakesNext first (Err none)) b
    → Goes a (HasShard shard) (PushesNext shard first (Err none)) b
takes_nothing a b shard first none takes before holds there =
    let one = takes before holds tt in
    record { seen = one.seen; holds = one.holds; done = inl one.done }

-- a round leaves the shard there
pub round_leads : (shard first position : ℕ) (before after : Seen) → HasShard shard before → PushesNext shard first (Ok position) before after → HasShard shard after
round_leads shard first position before after there pushes =
    still_there shard pushes.taken (of_shard shard (record { input = Push first pushes.notices; reply = Pushed position })) after pushes.pushes (taken_leads shard first pushes.notices before pushes.taken there pushes.takes).0

-- rounds, one after another
pub rounds_begin : (a : Sights) (shard have need : ℕ) → Goes a (HasShard shard) (GoesRound shard have need have) a
rounds_begin a shard have need before holds there = record { seen = before; holds = holds; done = (there, ([], (refl, refl))) }

pub rounds_go_on : (a b c : Sights) (shard have need reached next : ℕ) → Goes a (HasShard shard) (GoesRound shard have need reached) b → reached < need
    → Goes b (HasShard shard) (PushesNext shard (reached + 1) (Ok next)) c → Goes a (HasShard shard) (GoesRound shard have need next) c
rounds_go_on a b c shard have need reached next so_far less round before holds there =
    let one = so_far before holds there in
    let two = round one.seen one.holds one.done.0 in
    record {
      seen = two.seen;
      holds = two.holds;
      done = (round_leads shard (reached + 1) next one.seen two.seen one.done.0 two.done, (reached ∷ one.done.1.0, (one.seen, one.done.1.1, less, two.done)));
    }

pub rounds_end : (a b : Sights) (shard have need reached : ℕ) → Goes a (HasShard shard) (GoesRound shard have need reached) b → need ≤ reached
    → Goes a (HasShard shard) (CatchesUp shard have need (Ok reached)) b
rounds_end a b shard have need reached so_far enough before holds there =
    let one = so_far before holds there in
    record { seen = one.seen; holds = one.holds; done = (enough, one.done.1.0, one.done.1.1) }

pub rounds_stop : (a b c : Sights) (shard have need reached : ℕ) (none : NoMemory) → Goes a (HasShard shard) (GoesRound shard have need reached) b → reached < need
    → Goes b (HasShard shard) (PushesNext shard (reached + 1) (Err none)) c → Goes a (HasShard shard) (CatchesUp shard have need (Err none)) c
rounds_stop a b c shard have need reached none so_far less round before holds there =
    let one = so_far before holds there in
    let two = round one.seen one.holds one.done.0 in
    record { seen = two.seen; holds = two.holds; done = (one.done.1.0, reached, one.seen, one.done.1.1, less, two.done) }

pub round_ready : (a b : Sights) (shard first next : ℕ) → IsReady a (HasShard shard) → Goes a (HasShard shard) (PushesNext shard first (Ok next)) b → IsReady b (HasShard shard)
round_ready a b shard first next ready round =
    let one = round ready.0 ready.1 ready.2 in
    (one.seen, one.holds, round_leads shard first next ready.0 one.seen ready.2 one.done)
