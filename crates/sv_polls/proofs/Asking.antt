-- Polls, one after another.
use Rattle.std.proofs.Common.{◌≡◌, ℕ, ◌+◌, ◌%◌, Bool, true, false, List, [], ◌∷◌, Option, None, Some, Result, Ok, Err, IfOk, refl, sym, subst, inl, inr, true≢false, arith}
use Rattle.std.specs.Prelude.{MatchBool, IsErr}
use Rattle.std.proofs.lemmas.List.{length-map}
use Rattle.ev_rows.specs.declared.memory.NoMemory.{NoMemory}
use Rattle.ev_base.specs.declared.ids.UserId.{UserId}
use Rattle.ev_time.specs.Coming as of_clock
use Rattle.zw_traces.specs.declared.shard.ShardInput.TheVariants.{Locate, Poll as AsPoll}
use Rattle.zw_traces.specs.declared.shard.ShardReply.{ShardReply}
use Rattle.zw_traces.specs.declared.shard.ShardReply.TheVariants.{At}
use Rattle.zw_backend.specs.Seen.{MayCall, Seen, history_of, of_realm, of_shard, steps_of}
use Rattle.zw_backend.specs.Backends.{After, IsKnown, Sights, StaysSeen}
use Rattle.sv_calls.specs.Flows.{Any, AsksShard, Goes, HasShard, IsReady, IsServing}
use Rattle.sv_calls.specs.Pushing.{CatchesUp, PushesFrom, Rounds}
use Rattle.zw_traces.specs.declared.realm.RealmInput.TheVariants.{NoticeAll, Take}
use Rattle.zw_traces.specs.declared.realm.RealmReply.TheVariants.{Notices}
use Rattle.zw_traces.specs.declared.shard.ShardInput.TheVariants.{Push}
use Rattle.zw_traces.specs.declared.shard.ShardReply.TheVariants.{Pushed}
use Rattle.sv_calls.proofs.Going.{still_serving, still_there}
use Rattle.sv_polls.specs.declared.poll.Poll.{Poll}
use Rattle.sv_polls.specs.Polls.{AsksOnce, CatchesUpFrom, CatchesUpTo, Locates, PollsEvents, PollsOn, Tells, TellsSome, Waits, WaitsStill, is_due}

where_false : (test : Bool) (then other : Type 0) → test ≡ false → other → MatchBool test then other
where_false false then other is holds = holds
where_false true then other is holds = absurd (true≢false is)

where_true : (test : Bool) (then other : Type 0) → test ≡ true → then → MatchBool test then other
where_true true then other is holds = holds
where_true false then other is holds = absurd (true≢false (sym is))

-- the user may ask the shard that serves it
pub may_poll : (shard : ℕ) (poll : Poll) (moment : ℕ) (beat : Bool) (reply : ShardReply) (seen : Seen) → IsServing poll.user shard seen
    → MayCall (history_of seen) (of_shard shard (record { input = AsPoll poll.user poll.queue poll.after moment beat; reply = reply }))
may_poll shard poll moment beat reply seen serves =
    let many = length-map seen.shards steps_of in (
      (let there = serves.0 in omega (arith, many, there)),
      record { fed = tt; parted = tt; served = subst (λ n. poll.user.0 % n ≡ shard) (sym many) serves.1 },
    )

pub asks_once : (a b : Sights) (shard : ℕ) (poll : Poll) (moment : ℕ) (beat : Bool) (reply : ShardReply)
    → After a (of_shard shard (record { input = AsPoll poll.user poll.queue poll.after moment beat; reply = reply })) b
    → Goes a (IsServing poll.user shard) (AsksOnce shard poll moment beat reply) b
asks_once a b shard poll moment beat reply after before holds serves =
    let went = after before holds (may_poll shard poll moment beat reply before serves) in
    record { seen = went.seen; holds = went.holds; done = went.extends }

serves_after : (shard : ℕ) (poll : Poll) (moment : ℕ) (beat : Bool) (reply : ShardReply) (before after : Seen) → AsksOnce shard poll moment beat reply before after
    → IsServing poll.user shard before → IsServing poll.user shard after
serves_after shard poll moment beat reply before after asks serves =
    still_serving poll.user shard before (of_shard shard (record { input = AsPoll poll.user poll.queue poll.after moment beat; reply = reply })) after asks serves

-- after a poll, and after a pause, the shard still serves the user
pub ready_again : (a b : Sights) (shard : ℕ) (poll : Poll) (moment : ℕ) (beat : Bool) (reply : ShardReply)
    → IsReady a (IsServing poll.user shard) → Goes a (IsServing poll.user shard) (AsksOnce shard poll moment beat reply) b → IsReady b (IsServing poll.user shard)
ready_again a b shard poll moment beat reply ready goes =
    let one = goes ready.0 ready.1 ready.2 in
    (one.seen, one.holds, serves_after shard poll moment beat reply ready.0 one.seen one.done ready.2)

pub ready_still : (a b : Sights) (when : Seen → Type 0) → IsReady a when → StaysSeen a b → IsReady b when
ready_still a b when ready stays = (ready.0, stays ready.0 ready.1, ready.2)

-- the first poll
pub waits_at_first : (a b : Sights) (shard : ℕ) (poll : Poll) (clock : Option (List ℕ)) (reply : ShardReply)
    → Goes a (IsServing poll.user shard) (AsksOnce shard poll poll.moment false reply) b → Tells reply None
    → Goes a (IsServing poll.user shard) (WaitsStill shard poll clock clock) b
waits_at_first a b shard poll clock reply goes empty before holds serves =
    let one = goes before holds serves in
    record {
      seen = one.seen;
      holds = one.holds;
      done = record {
        serves = serves_after shard poll poll.moment false reply before one.seen one.done serves;
        moments = [];
        told = refl;
        reached = empty.0;
        polls = subst (λ r. AsksOnce shard poll poll.moment false r before one.seen) empty.1 one.done;
      };
    }

-- one poll more
pub waits_on : (a b c d : Sights) (shard : ℕ) (poll : Poll) (old mid new : Option (List ℕ)) (moment : ℕ) (beat : Bool) (reply : ShardReply)
    → Goes a (IsServing poll.user shard) (WaitsStill shard poll old mid) b → StaysSeen b c → of_clock.Tells moment mid new → beat ≡ is_due poll.moment moment
    → Goes c (IsServing poll.user shard) (AsksOnce shard poll moment beat reply) d → Tells reply None
    → Goes a (IsServing poll.user shard) (WaitsStill shard poll old new) d
waits_on a b c d shard poll old mid new moment beat reply still stays tells due goes empty before holds serves =
    let one = still before holds serves in
    let two = goes one.seen (stays one.seen one.holds) one.done.serves in
    let asks : AsksOnce shard poll moment (is_due poll.moment moment) reply one.seen two.seen = subst (λ b. AsksOnce shard poll moment b reply one.seen two.seen) due two.done in
    record {
      seen = two.seen;
      holds = two.holds;
      done = record {
        serves = serves_after shard poll moment beat reply one.seen two.seen two.done one.done.serves;
        moments = moment ∷ one.done.moments;
        told = (mid, one.done.told, tells);
        reached = empty.0;
        polls = (one.done.reached, one.seen, one.done.polls, subst (λ r. AsksOnce shard poll moment (is_due poll.moment moment) r one.seen two.seen) empty.1 asks);
      };
    }

-- there was something to tell at once
pub tells_at_once : (a b : Sights) (shard : ℕ) (poll : Poll) (clock : Option (List ℕ)) (first reply : ShardReply) → poll.dont_block ≡ false
    → Goes a (IsServing poll.user shard) (AsksOnce shard poll poll.moment false first) b → Tells first (Some reply)
    → Goes a (IsServing poll.user shard) (PollsOn shard poll clock clock reply) b
tells_at_once a b shard poll clock first reply waits goes told before holds serves =
    let one = goes before holds serves in
    let waited : Waits shard poll clock clock reply before one.seen = record {
      tells = subst TellsSome (sym told.0) told.1;
      moments = [];
      told = refl;
      polls = subst (λ r. AsksOnce shard poll poll.moment false r before one.seen) (sym told.0) one.done;
    } in
    record {
      seen = one.seen;
      holds = one.holds;
      done = where_false poll.dont_block _ _ waits waited;
    }

-- there was something to tell in the end
pub tells_at_last : (a b c d : Sights) (shard : ℕ) (poll : Poll) (old mid new : Option (List ℕ)) (moment : ℕ) (beat : Bool) (last reply : ShardReply) → poll.dont_block ≡ false
    → Goes a (IsServing poll.user shard) (WaitsStill shard poll old mid) b → StaysSeen b c → of_clock.Tells moment mid new → beat ≡ is_due poll.moment moment
    → Goes c (IsServing poll.user shard) (AsksOnce shard poll moment beat last) d → Tells last (Some reply)
    → Goes a (IsServing poll.user shard) (PollsOn shard poll old new reply) d
tells_at_last a b c d shard poll old mid new moment beat last reply waits still stays tells due goes told before holds serves =
    let one = still before holds serves in
    let two = goes one.seen (stays one.seen one.holds) one.done.serves in
    let asks : AsksOnce shard poll moment (is_due poll.moment moment) last one.seen two.seen = subst (λ b. AsksOnce shard poll moment b last one.seen two.seen) due two.done in
    let waited : Waits shard poll old new reply before two.seen = record {
      tells = subst TellsSome (sym told.0) told.1;
      moments = moment ∷ one.done.moments;
      told = (mid, one.done.told, tells);
      polls = (one.done.reached, one.seen, one.done.polls, subst (λ r. AsksOnce shard poll moment (is_due poll.moment moment) r one.seen two.seen) (sym told.0) asks);
    } in
    record {
      seen = two.seen;
      holds = two.holds;
      done = where_false poll.dont_block _ _ waits waited;
    }

pub asks_only_once : (a b : Sights) (shard : ℕ) (poll : Poll) (clock : Option (List ℕ)) (reply : ShardReply) → poll.dont_block ≡ true
    → Goes a (IsServing poll.user shard) (AsksOnce shard poll poll.moment false reply) b
    → Goes a (IsServing poll.user shard) (PollsOn shard poll clock clock reply) b
asks_only_once a b shard poll clock reply once goes before holds serves =
    let one = goes before holds serves in
    let done : (clock ≡ clock) × AsksOnce shard poll poll.moment false reply before one.seen = (refl, one.done) in
    record { seen = one.seen; holds = one.holds; done = where_true poll.dont_block _ _ once done }

-- a round leaves each user served by the same shard
serves_after_round : (user : UserId) (shard first position : ℕ) (before after : Seen) → PushesFrom shard first (Pushed position) before after
    → {at : ℕ} → IsServing user at before → IsServing user at after
serves_after_round user shard first position before after pushes {at} serves =
    still_serving user at pushes.taken (of_shard shard (record { input = Push first pushes.notices; reply = Pushed position })) after pushes.pushes
    (still_serving user at pushes.takes.announced (of_realm (record { input = Take first; reply = Notices first pushes.notices })) pushes.taken pushes.takes.takes
    (still_serving user at before (of_realm (record { input = NoticeAll; reply = pushes.takes.told })) pushes.takes.announced pushes.takes.announces serves))

serves_after_rounds : (user : UserId) (at shard have need : ℕ) (positions : List ℕ) (reached : ℕ) (before after : Seen)
    → Rounds shard have need positions reached before after → IsServing user at before → IsServing user at after
serves_after_rounds user at shard have need [] reached before after rounds serves = subst (IsServing user at) (sym rounds.1) serves
serves_after_rounds user at shard have need (position ∷ earlier) reached before after rounds serves =
    serves_after_round user shard (position + 1) reached rounds.0 after rounds.3
    (serves_after_rounds user at shard have need earlier position before rounds.0 rounds.1 serves)

-- so does bringing a shard up to date
pub serves_after_catching : (user : UserId) (at shard have need reached : ℕ) (before after : Seen)
    → CatchesUp shard have need (Ok reached) before after → IsServing user at before → IsServing user at after
serves_after_catching user at shard have need reached before after catches serves =
    serves_after_rounds user at shard have need catches.1 reached before after catches.2 serves

serves_after_all : (user : UserId) (shard commits reached : ℕ) (before after : Seen) → CatchesUpFrom shard commits (Ok reached) before after
    → IsServing user shard before → IsServing user shard after
serves_after_all user shard commits reached before after from serves =
    serves_after_catching user shard shard from.have commits reached from.located after from.catches_up
    (still_serving user shard before (of_shard shard (record { input = Locate; reply = At from.have })) from.located from.locates serves)

-- where a shard stands
pub locates : (a b : Sights) (shard : ℕ) (reply : ShardReply) (result : Result ℕ NoMemory)
    → After a (of_shard shard (record { input = Locate; reply = reply })) b → IfOk result (λ position. reply ≡ At position)
    → Goes a (HasShard shard) (Locates shard result) b
locates a b shard reply (Ok position) after is before holds there =
    let may : MayCall (history_of before) (of_shard shard (record { input = Locate; reply = reply })) =
    ((let many = length-map before.shards steps_of in omega (arith, many, there)), record { fed = tt; parted = tt; served = tt }) in
    let went = after before holds may in
    record { seen = went.seen; holds = went.holds; done = subst (λ r. AsksShard shard Locate r before went.seen) is went.extends }
locates a b shard reply (Err none) after is before holds there =
    let may : MayCall (history_of before) (of_shard shard (record { input = Locate; reply = reply })) =
    ((let many = length-map before.shards steps_of in omega (arith, many, there)), record { fed = tt; parted = tt; served = tt }) in
    let went = after before holds may in
    record { seen = went.seen; holds = went.holds; done = (reply, went.extends) }

there_after_locating : (shard have : ℕ) (before after : Seen) → AsksShard shard Locate (At have) before after → HasShard shard before → HasShard shard after
there_after_locating shard have before after asks there = still_there shard before (of_shard shard (record { input = Locate; reply = At have })) after asks there

pub ready_to_catch_up : (a b : Sights) (shard have : ℕ) → IsReady a (HasShard shard) → Goes a (HasShard shard) (Locates shard (Ok have)) b → IsReady b (HasShard shard)
ready_to_catch_up a b shard have ready goes =
    let one = goes ready.0 ready.1 ready.2 in
    (one.seen, one.holds, there_after_locating shard have ready.0 one.seen one.done ready.2)

pub catches_up_from : (a b c : Sights) (shard commits have : ℕ) (result : Result ℕ NoMemory) → Goes a (HasShard shard) (Locates shard (Ok have)) b
    → Goes b (HasShard shard) (CatchesUp shard have commits result) c → Goes a (HasShard shard) (CatchesUpTo shard commits result) c
catches_up_from a b c shard commits have (Ok reached) first second before holds there =
    let one = first before holds there in
    let two = second one.seen one.holds (there_after_locating shard have before one.seen one.done there) in
    record { seen = two.seen; holds = two.holds; done = record { have = have; located = one.seen; locates = one.done; catches_up = two.done } }
catches_up_from a b c shard commits have (Err none) first second before holds there =
    let one = first before holds there in
    let two = second one.seen one.holds (there_after_locating shard have before one.seen one.done there) in
    record { seen = two.seen; holds = two.holds; done = inr (record { have = have; located = one.seen; locates = one.done; catches_up = two.done }) }

pub locates_nothing : (a b : Sights) (shard commits : ℕ) (none : NoMemory) → Goes a (HasShard shard) (Locates shard (Err none)) b
    → Goes a (HasShard shard) (CatchesUpTo shard commits (Err none)) b
locates_nothing a b shard commits none goes before holds there =
    let one = goes before holds there in
    record { seen = one.seen; holds = one.holds; done = inl one.done }

-- a pass that has seen something has the shard that serves the user
pub serving_is_there : (a : Sights) (user : UserId) (shard : ℕ) → IsKnown a → ((seen : Seen) → a seen → IsServing user shard seen) → IsReady a (HasShard shard)
serving_is_there a user shard known serves = (known.0, known.1, (serves known.0 known.1).0)

pub ready_to_poll : (a b : Sights) (user : UserId) (shard commits reached : ℕ) → IsKnown a → ((seen : Seen) → a seen → IsServing user shard seen)
    → Goes a (HasShard shard) (CatchesUpTo shard commits (Ok reached)) b → IsReady b (IsServing user shard)
ready_to_poll a b user shard commits reached known serves goes =
    let served = serves known.0 known.1 in
    let one = goes known.0 known.1 served.0 in
    (one.seen, one.holds, serves_after_all user shard commits reached known.0 one.seen one.done served)

pub polls_events : (a b c : Sights) (shard commits reached : ℕ) (poll : Poll) (old new : Option (List ℕ)) (reply : ShardReply)
    → ((seen : Seen) → a seen → IsServing poll.user shard seen) → Goes a (HasShard shard) (CatchesUpTo shard commits (Ok reached)) b
    → Goes b (IsServing poll.user shard) (PollsOn shard poll old new reply) c → Goes a Any (PollsEvents poll commits old new (Ok reply)) c
polls_events a b c shard commits reached poll old new reply serves first second before holds any =
    let served = serves before holds in
    let one = first before holds served.0 in
    let two = second one.seen one.holds (serves_after_all poll.user shard commits reached before one.seen one.done served) in
    record {
      seen = two.seen;
      holds = two.holds;
      done = record { shard = shard; serves = served; does = record { reached = reached; caught = one.seen; catches_up = one.done; polls = two.done } };
    }

pub polls_nothing : (a b : Sights) (shard commits : ℕ) (poll : Poll) (clock : Option (List ℕ)) (none : NoMemory)
    → ((seen : Seen) → a seen → IsServing poll.user shard seen) → Goes a (HasShard shard) (CatchesUpTo shard commits (Err none)) b
    → Goes a Any (PollsEvents poll commits clock clock (Err none)) b
polls_nothing a b shard commits poll clock none serves first before holds any =
    let served = serves before holds in
    let one = first before holds served.0 in
    record { seen = one.seen; holds = one.holds; done = record { shard = shard; serves = served; does = (refl, one.done) } }

-- the shard serves the user still, where the poll is asked again
pub ready_on : (a b c d : Sights) (shard : ℕ) (poll : Poll) (moment : ℕ) (beat : Bool) (reply : ShardReply) → IsReady b (IsServing poll.user shard) → StaysSeen b c
    → Goes c (IsServing poll.user shard) (AsksOnce shard poll moment beat reply) d → IsReady d (IsServing poll.user shard)
ready_on a b c d shard poll moment beat reply ready stays goes = ready_again c d shard poll moment beat reply (ready_still b c (IsServing poll.user shard) ready stays) goes

pub polls_nothing_else : (a b : Sights) (shard commits : ℕ) (poll : Poll) (clock : Option (List ℕ)) (none : NoMemory) (result : Result ShardReply NoMemory) → IsErr result
    → ((seen : Seen) → a seen → IsServing poll.user shard seen) → Goes a (HasShard shard) (CatchesUpTo shard commits (Err none)) b
    → Goes a Any (PollsEvents poll commits clock clock result) b
polls_nothing_else a b shard commits poll clock none (Ok reply) failed serves first = absurd (true≢false (sym failed))
polls_nothing_else a b shard commits poll clock none (Err other) failed serves first = polls_nothing a b shard commits poll clock other serves first
