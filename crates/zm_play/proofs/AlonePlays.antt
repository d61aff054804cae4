-- Steps of one line, as they are played.
use Rattle.std.proofs.Common.{◌≡◌, ℕ, ◌+◌, true, List, [], ◌∷◌, refl, sym, subst}
use Rattle.std.proofs.lemmas.Bool.{false≢true}
use Rattle.ev_base.specs.declared.ids.UserId.{UserId}
use Rattle.ev_base.specs.declared.ids.QueueId.{QueueId}
use Rattle.ev_base.specs.declared.expired.Expired.{Expired}
use Rattle.ev_types.specs.declared.kind.Types.{Types}
use Rattle.ev_types.specs.declared.section.Section.{Section}
use Rattle.zw_traces.specs.declared.realm.RealmInput.{RealmInput}
use Rattle.zw_traces.specs.declared.realm.RealmReply.{RealmReply}
use Rattle.zw_traces.specs.declared.shard.ShardInput.{ShardInput}
use Rattle.zw_traces.specs.declared.shard.ShardReply.{ShardReply}
use Rattle.zw_traces.specs.Histories.{History, with_realm_step, with_shard_step}
use Rattle.zw_traces.specs.declared.shard.ShardInput.TheVariants as shard
use Rattle.zw_traces.specs.declared.shard.ShardReply.TheVariants as shard_reply
use Rattle.zs_script.specs.declared.step.Step.{Step}
use Rattle.zs_script.specs.declared.step.Step.TheVariants.{Command, Shards, NoticeAll, Push, PushFrom, OpenQueue, Fetch, Finish, Register, Poll, DeleteQueue, Tick, Locate, View}
use Rattle.zm_text.specs.declared.outcome.Outcome.{Outcome}
use Rattle.zm_text.specs.declared.outcome.Outcome.TheVariants.{Committed, Refused, Noticed, Pushed, Gap, Opened, Finished, OpensSpent, TooManyQueues, FetchRefused, Answered, Empty, BadQueue, NotSent, Pruned, Deleted, Ticked, At, Viewed}
use Rattle.zm_text.specs.Playing.{Fetching, Plays, PlaysRefusedFetch, PlaysRegister, PlaysRefusedRegister, fetched_after, with_opening, with_ticks}
use Rattle.zm_play.specs.Flows.{Extends, PlaysAlone, is_alone}
use Rattle.zm_play.specs.Flows.Extends.{rests, asks_realm, asks_shard}
use Rattle.zm_play.proofs.FetchFlow.{fetches_extend}
use Rattle.zm_play.proofs.PushRounds.{catches_go_on, goes_on_from, pushes_go_on}

-- such a step fetches no section for a queue
pub alone_fetches_none : (queue : QueueId) (step : Step) (outcome : Outcome)
    (before : List Fetching) → is_alone step ≡ true
    → fetched_after queue step outcome before ≡ before
alone_fetches_none queue (Shards count) outcome before alone = absurd (false≢true alone)
alone_fetches_none queue (Fetch other section) outcome before alone = absurd (false≢true alone)
alone_fetches_none queue step outcome before alone = refl

-- one more step
realm_extends : {before after : History} (input : RealmInput) (reply : RealmReply)
    → after ≡ with_realm_step input reply before → Extends before after
realm_extends {before} input reply is = subst (Extends before) (sym is)
    (asks_realm input reply rests)

shard_extends : {before after : History} (index : ℕ) (input : ShardInput) (reply : ShardReply)
    → after ≡ with_shard_step index input reply before → Extends before after
shard_extends {before} index input reply is = subst (Extends before) (sym is)
    (asks_shard index input reply rests)

ticks_extend : (moment index : ℕ) (lists : List (List Expired)) (before : History)
    → Extends before (with_ticks moment index lists before)
ticks_extend moment index [] before = rests
ticks_extend moment index (list ∷ lists) before =
    goes_on_from (asks_shard index (shard.Tick moment) (shard_reply.Ticked list) rests)
    (ticks_extend moment (index + 1) lists
    (with_shard_step index (shard.Tick moment) (shard_reply.Ticked list) before))

refused_extends : (user : UserId) (asked : List Section) (before after : History)
    → PlaysRefusedFetch user asked before after → Extends before after
refused_extends user asked before after plays =
    goes_on_from (fetches_extend user plays.parts before) (realm_extends _ _ plays.refused)

register_extends : (moment : ℕ) (user : UserId) (types : Types) (asked : List Section)
    (queue : QueueId) (reply : ShardReply) (before after : History)
    → PlaysRegister moment user types asked queue reply before after → Extends before after
register_extends moment user types asked queue reply before after plays =
    let opened : Extends before (with_opening moment user types asked queue plays.have
    before) = asks_shard _ _ _ rests in
    let fetched = goes_on_from opened
    (fetches_extend user plays.parts
    (with_opening moment user types asked queue plays.have before)) in
    let caught = goes_on_from fetched (catches_go_on _ _ _ _ _ _ plays.catches_up) in
    goes_on_from caught (shard_extends _ _ _ plays.finishes)

refused_register_extends : (moment : ℕ) (user : UserId) (types : Types) (asked : List Section)
    (before after : History)
    → PlaysRefusedRegister moment user types asked before after → Extends before after
refused_register_extends moment user types asked before after plays =
    let opened : Extends before (with_opening moment user types asked plays.queue plays.have
    before) = asks_shard _ _ _ rests in
    goes_on_from (goes_on_from opened (refused_extends user asked _ _ plays.fetches))
    (shard_extends _ _ _ plays.deletes)

module _ (moment : ℕ) (lines : QueueId → List Fetching) (before after : History) where
  -- it is played whatever lines fetched, and only adds steps
  pub alone_plays : (step : Step) (outcome : Outcome) → is_alone step ≡ true
      → PlaysAlone moment step outcome before after
      → Plays moment lines step outcome before after × Extends before after
  alone_plays (Shards count) outcome alone plays = absurd (false≢true alone)
  alone_plays (Fetch queue section) outcome alone plays = absurd (false≢true alone)
  alone_plays (Finish queue) outcome alone plays = absurd (false≢true alone)
  alone_plays (Command actor command)
      (Committed number id) alone plays = (plays, realm_extends _ _ plays.3)
  alone_plays (Command actor command) (Refused why) alone plays = (plays, realm_extends _ _ plays)
  alone_plays NoticeAll (Noticed count) alone plays = (plays, realm_extends _ _ plays)
  alone_plays (Push index) (Pushed reached) alone plays = (
    plays,
    goes_on_from (asks_shard index shard.Locate (shard_reply.At plays.have) rests)
        (pushes_go_on _ _ _ _ _ _ _ plays.pushed),
  )
  alone_plays (PushFrom index first)
      (Pushed reached) alone plays = (
        plays,
        goes_on_from (asks_realm _ _ rests)
            (shard_extends _ _ _ plays.pushed),
      )
  alone_plays (PushFrom index first)
      (Gap have from) alone plays = (
        plays,
        goes_on_from (asks_realm _ _ rests)
            (shard_extends _ _ _ plays.pushed),
      )
  alone_plays (OpenQueue user types asked)
      (Opened queue at) alone plays = (plays, shard_extends _ _ _ plays)
  alone_plays (OpenQueue user types asked) OpensSpent alone
      plays = (plays, shard_extends _ _ _ plays)
  alone_plays (OpenQueue user types asked) TooManyQueues alone
      plays = (plays, shard_extends _ _ _ plays)
  alone_plays (Register user types asked)
      (Finished reached queue last state) alone
      plays = (plays, register_extends moment user types asked queue _ before after plays)
  alone_plays (Register user types asked) BadQueue alone
      plays = (plays, register_extends moment user types asked plays.0 _ before after plays.1)
  alone_plays (Register user types asked) OpensSpent alone
      plays = (plays, shard_extends _ _ _ plays)
  alone_plays (Register user types asked) TooManyQueues alone
      plays = (plays, shard_extends _ _ _ plays)
  alone_plays (Register user types asked) FetchRefused alone
      plays = (plays, refused_register_extends moment user types asked before after plays)
  alone_plays (Poll user queue asked beat)
      (Answered reached other items) alone plays = (plays, shard_extends _ _ _ plays.1)
  alone_plays (Poll user queue asked beat)
      (Empty reached) alone plays = (plays, shard_extends _ _ _ plays)
  alone_plays (Poll user queue asked beat) BadQueue alone plays = (plays, shard_extends _ _ _ plays)
  alone_plays (Poll user queue asked beat)
      (NotSent greatest) alone plays = (plays, shard_extends _ _ _ plays)
  alone_plays (Poll user queue asked beat)
      (Pruned newest) alone plays = (plays, shard_extends _ _ _ plays)
  alone_plays (DeleteQueue user queue) Deleted alone plays = (plays, shard_extends _ _ _ plays)
  alone_plays (DeleteQueue user queue) BadQueue alone plays = (plays, shard_extends _ _ _ plays)
  alone_plays (Tick at) (Ticked queues) alone
      plays = (
        plays,
        subst (Extends before) (sym plays.ticked)
            (ticks_extend _ 0 plays.expired before),
      )
  alone_plays (Locate index) (At position) alone plays = (plays, shard_extends _ _ _ plays)
  alone_plays (View user) (Viewed at state) alone
      plays = (
        plays,
        subst (Extends before) (sym plays.fetches)
            (fetches_extend user plays.parts before),
      )
  alone_plays (View user) FetchRefused alone
      plays = (plays, refused_extends user _ before after plays)
  alone_plays step outcome alone plays = absurd plays
