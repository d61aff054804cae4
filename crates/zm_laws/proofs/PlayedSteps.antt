-- A step that is asked after a history has one outcome but for the room of its state, and leaves one standing.
use Rattle.std.proofs.Common.{◌≡◌, ◌≢◌, ℕ, ◌+◌, ◌-◌, ◌<◌, ◌≤◌, max, Bool, true, false, nat_lt, if◌then◌else◌, List, [], ◌∷◌, ◌++◌, length, map, ℤ, refl, ap, ap₂, sym, ◌∙◌, subst, arith}
use Rattle.std.proofs.lemmas.Bool.{le-ltb}
use Rattle.std.proofs.lemmas.List.{length-map}
use Rattle.ev_base.specs.declared.ids.UserId.{UserId}
use Rattle.ev_base.specs.declared.ids.QueueId.{QueueId}
use Rattle.ev_base.specs.declared.expired.Expired.{Expired}
use Rattle.ev_types.specs.declared.kind.Types.{Types}
use Rattle.ev_types.specs.declared.section.Section.{Section}
use Rattle.ev_types.specs.declared.state.State.{State}
use Rattle.ev_types.specs.Sections.{sections_of}
use Rattle.zr_types.specs.Visibility.{is_active_user}
use Rattle.zw_traces.specs.declared.realm.RealmReply.{RealmReply}
use Rattle.zw_traces.specs.declared.realm.RealmInput.TheVariants as realm
use Rattle.zw_traces.specs.declared.realm.RealmReply.TheVariants as realm_reply
use Rattle.zw_traces.specs.declared.realm.RealmStep.{RealmStep}
use Rattle.zw_traces.specs.declared.shard.FetchedSection.{FetchedSection}
use Rattle.zw_traces.specs.declared.shard.ShardInput.{ShardInput}
use Rattle.zw_traces.specs.declared.shard.ShardReply.{ShardReply}
use Rattle.zw_traces.specs.declared.shard.ShardInput.TheVariants as shard
use Rattle.zw_traces.specs.declared.shard.ShardReply.TheVariants as shard_reply
use Rattle.zw_traces.specs.declared.shard.ShardStep.{ShardStep}
use Rattle.zw_traces.specs.FetchedSections.{all_sections, needed}
use Rattle.zw_traces.specs.RealmTrace.{Accepted, IsLegalRealm, announced_count, commands, commits, state_of}
use Rattle.zw_traces.specs.RealmFeeds.{changed_events, viewed}
use Rattle.zw_traces.specs.ShardTrace.{expiries, position_of}
use Rattle.zw_traces.specs.Histories.{History, shard_of, trace_at, with_realm_step, with_shard_step}
use Rattle.zw_laws.proofs.FedSteps.{length-with_step_at}
use Rattle.zs_script.specs.declared.step.Step.{Step}
use Rattle.zs_script.specs.declared.step.Step.TheVariants.{Command, Shards, NoticeAll, Push, PushFrom, OpenQueue, Fetch, Finish, Register, Poll, DeleteQueue, Tick, Locate, View}
use Rattle.zs_script.specs.Scripts.{MayPlay}
use Rattle.zm_text.specs.declared.outcome.Outcome.{Outcome}
use Rattle.zm_text.specs.declared.outcome.Outcome.TheVariants.{Committed, Refused, Sharded, Noticed, Pushed, Gap, Opened, Fetched, Finished, MissingSection, NotPushed, OpensSpent, TooManyQueues, FetchRefused, Answered, Empty, BadQueue, NotSent, Pruned, Deleted, Ticked, At, Viewed}
use Rattle.zm_text.specs.Playing.{Fetching, PlaysFetch, PlaysFinish, PlaysPush, PlaysPushFrom, PlaysRefusedFetch, PlaysRefusedPart, PlaysRefusedRegister, PlaysRegister, PlaysTick, PlaysView, fetching_of, is_opening_in, salt, sections, serving, with_fetches, with_opening, with_step_for, with_ticks}
use Rattle.zm_text.proofs.Fetches.{AllParts, fetched_parts, fetches_shards, needed_within, parts_are}
use Rattle.zm_laws.specs.Laws.{full_outcome}
use Rattle.zm_laws.proofs.FullStates.{full_state_is, state_with}
use Rattle.zm_laws.proofs.TraceLists.{trace_at-same}
use Rattle.zm_laws.proofs.TraceStates.{TraceState, account_in, changed_at-none, changed_at-same, state_after}
use Rattle.zm_laws.proofs.OneReply.{committed_is, full_reply, lost_finish, opened_finish, refused_is}
use Rattle.zm_laws.proofs.Standings.{Standing, fetches_standing, position_is, replied, reply_of, shard_state, standing_after, standing_of, with_step}
use Rattle.zm_laws.proofs.FetchedParts.{fetched_with, no_parts, opening_is, part_with, parts_given}
use Rattle.zm_laws.proofs.Rounds.{caught, caught_up, pushed_up, rounds_push, takes}
use Rattle.zm_laws.proofs.Runs.{Ran, answered, by_start, collected, commanded, fetched, fetched_part, is_opening_at, may_fetch, opened, parts_for, pushed_from, pushed_to, run, served, shown_view, started, ticked, told, with_expired}
use Rattle.zm_laws.proofs.PlayedHistories.{WasThere, answered_at, quiet_catching_up, quiet_fetches, quiet_pushes, quiet_ticks, there_before_realm, there_before_shard}
use Rattle.zm_laws.proofs.Courses.{GoesOn}
use Rattle.zm_laws.proofs.PlayedTurns.{opening_tells, serving_inside, serving_is, shows_view}

-- fetches that were answered aren't refused
may_fetch_all : (user : UserId) (all : List Accepted) (parts : List FetchedSection) → AllParts user all parts → may_fetch all user (sections parts) ≡ true
may_fetch_all user all [] fetched = refl
may_fetch_all user all (part ∷ parts) fetched = fetched.0.active

may_not_fetch : (user : UserId) (all : List Accepted) (parts : List FetchedSection) (which : Section) (others : List Section)
    → is_active_user (state_of all).tables user ≡ false → may_fetch all user (sections parts ++ which ∷ others) ≡ false
may_not_fetch user all [] which others inactive = inactive
may_not_fetch user all (part ∷ parts) which others inactive = inactive

-- a reply that tells a gap was chosen so
gap_among : (early : Bool) (have from position first reached : ℕ)
    → shard_reply.Gap have from ≡ (if early then shard_reply.Gap position first else shard_reply.Pushed reached)
    → (early ≡ true) × (have ≡ position) × (from ≡ first)
gap_among true have from position first reached is = (refl, cc, cc)
gap_among false have from position first reached is = cc

module _ (final : List RealmStep) (count : ℕ) (legal_final : IsLegalRealm final) where
  abbrev stands : History → Standing
  stands history = standing_of (commands final) history

  -- as many states as shards
  state_count : (history : History) (user : UserId) → serving user history ≡ shard_of (length (stands history).states) user
  state_count history user = ap (λ (n : ℕ). shard_of n user) (sym (length-map history.shards _))

  -- whether a queue is opening is seen in what the history leaves
  opening_counted : (queue : QueueId) (history : History) → WasThere final count history → 1 ≤ count
      → is_opening_in queue history ≡ is_opening_at (commands final) queue (stands history) (shard_of (length (stands history).states) queue.user)
  opening_counted queue history there some =
      opening_is final count legal_final queue history there some
      ∙ ap (is_opening_at (commands final) queue (stands history)) (state_count history queue.user)

  -- a reply after which a shard stands as before leaves the same
  kept : (index : ℕ) (input : ShardInput) (reply : ShardReply) (before : History)
      → state_after (changed_events (commands final)) input reply (shard_state (commands final) index (stands before)) ≡ shard_state (commands final) index (stands before)
      → stands (with_shard_step index input reply before) ≡ stands before
  kept index input reply before same =
      let all = commands final in
      standing_after all index input reply before
      ∙ ap (λ (states : List TraceState). record (stands before) { states = states })
      (changed_at-same (changed_events all) index (state_after (changed_events all) input reply) (λ state. state) (stands before).states same
      ∙ changed_at-none index (stands before).states)

  module _ (moment : ℕ) (fetchings : QueueId → List Fetching) where
    -- a step's outcome and the standing after it are those
    abbrev pub HasRun : Step → Outcome → History → History → Type 0
    HasRun step outcome before after = record { outcome = full_outcome outcome; standing = stands after } ≡ run (commands final) moment fetchings step (stands before)

    -- a push
    pushed_runs : (index reached : ℕ) (before after : History) → PlaysPush index reached before after → WasThere final count after
        → index < length before.shards → HasRun (Push index) (Pushed reached) before after
    pushed_runs index reached before after plays there within =
        let all = commands final in
        let have = plays.have in
        let need = announced_count before.realm in
        let reply = shard_reply.At have in
        let step : ShardStep = record { input = shard.Locate; reply = reply } in
        let located = with_shard_step index shard.Locate reply before in
        let longer = length-with_step_at index step before.shards in
        let located_there = (quiet_pushes final count legal_final index need have plays.rounds located reached after plays.pushed there).there in
        let place = replied final count legal_final index shard.Locate reply before within located_there (λ is. cc) in
        let have_is : have ≡ (shard_state all index (stands before)).position = cc in
        let here = position_is all index before in
        let stands_there = ap position_of (trace_at-same index step before.shards within) ∙ sym here ∙ sym have_is in
        let pushes = rounds_push final count legal_final need index need have plays.rounds located reached after plays.pushed there (omega arith) (omega arith) stands_there (omega arith) in
        let same : stands located ≡ stands before = kept index shard.Locate reply before refl in
        let standing_is = pushes.standing ∙ ap (pushed_up all need index need) same in
        let reached_is = pushes.reached_is ∙ sym (position_is all index after) in
        let ran : record { outcome = Pushed reached; standing = stands after } ≡ pushed_to all index (stands after) =
        ap (λ (n : ℕ). record { outcome = Pushed n; standing = stands after }) reached_is in
        ran ∙ ap (pushed_to all index) standing_is

    -- the start of a queue, by what its reply gives
    start_runs : (user : UserId) (types : Types) (asked : List Section) (step : Step) (outcome : Outcome) (reply : ShardReply) (before : History)
        (reads : ℕ → ShardReply → Standing → Ran) → 1 ≤ count
        → reply ≢ shard_reply.NoMemory
        → ((index : ℕ) (standing : Standing) → record { outcome = full_outcome outcome; standing = with_step (commands final) index (shard.Start user salt moment types asked) reply standing } ≡ reads index (full_reply reply) standing)
        → ((standing : Standing) → by_start (commands final) moment reads user types asked standing (shard_of (length standing.states) user) ≡ run (commands final) moment fetchings step standing)
        → WasThere final count (with_step_for user (shard.Start user salt moment types asked) reply before)
        → HasRun step outcome before (with_step_for user (shard.Start user salt moment types asked) reply before)
    start_runs user types asked step outcome reply before reads some memory gives runs there =
        let all = commands final in
        let index = serving user before in
        let input = shard.Start user salt moment types asked in
        let earlier = there_before_shard final count legal_final index input reply before there in
        ap (λ (standing : Standing). record { outcome = full_outcome outcome; standing = standing }) (standing_after all index input reply before)
        ∙ gives index (stands before)
        ∙ ap (λ (r : ShardReply). reads index r (stands before))
        (replied final count legal_final index input reply before (serving_inside final count legal_final user before earlier some).0 there memory)
        ∙ ap (by_start all moment reads user types asked (stands before)) (state_count before user)
        ∙ runs (stands before)

    module _ (user : UserId) (types : Types) (asked : List Section) (queue : QueueId) (have : ℕ) (before : History) (some : 1 ≤ count)
        (there : WasThere final count (with_opening moment user types asked queue have before)) where
      -- what a registration gives once its queue is open
      opened_runs : (may : Bool) → may_fetch (commands before.realm) user asked ≡ may
          → fetched (commands final) user asked (serving user before) queue may (stands (with_opening moment user types asked queue have before))
          ≡ run (commands final) moment fetchings (Register user types asked) (stands before)
      opened_runs may may_is =
          let all = commands final in
          let index = serving user before in
          let input = shard.Start user salt moment types asked in
          let reply = shard_reply.Opened queue have in
          let earlier = there_before_shard final count legal_final index input reply before there in
          ap (λ (standing : Standing). fetched all user asked index queue may standing) (standing_after all index input reply before)
          ∙ ap (λ (m : Bool). fetched all user asked index queue m (with_step all index input reply (stands before))) (sym may_is)
          ∙ ap (λ (r : ShardReply). started all moment user types asked index r (stands before))
          (replied final count legal_final index input reply before (serving_inside final count legal_final user before earlier some).0 there (λ is. cc))
          ∙ ap (by_start all moment (started all moment user types asked) user types asked (stands before)) (state_count before user)

    -- a registration of which a fetch is refused
    fetch_refused_runs : (user : UserId) (types : Types) (asked : List Section) (before after : History) → PlaysRefusedRegister moment user types asked before after
        → WasThere final count after → 1 ≤ count → HasRun (Register user types asked) FetchRefused before after
    fetch_refused_runs user types asked before after plays there some =
        let all = commands final in
        let index = serving user before in
        let queue = plays.queue in
        let opened = with_opening moment user types asked queue plays.have before in
        let fetches = plays.fetches in
        let fetched_so = with_fetches user fetches.parts opened in
        let given_there = there_before_shard final count legal_final (serving user plays.given_up) (shard.Delete user queue) shard_reply.Deleted plays.given_up (subst (WasThere final count) plays.deletes there) in
        let refused_there = subst (WasThere final count) fetches.refused given_there in
        let fetched_there = there_before_realm final count legal_final (realm.Fetch user fetches.which) realm_reply.FetchRefused fetched_so refused_there in
        let quiet = quiet_fetches final count legal_final user fetches.parts opened fetched_there in
        let start_there = there_before_shard final count legal_final index (shard.Start user salt moment types asked) (shard_reply.Opened queue plays.have) before quiet.there in
        let inactive : is_active_user (state_of (commands before.realm)).tables user ≡ false =
        ap (λ (list : List Accepted). is_active_user (state_of list).tables user) (sym quiet.same) ∙ refused_there.legal.0 in
        let may_not = ap (may_fetch (commands before.realm) user) fetches.in_order ∙ may_not_fetch user (commands before.realm) fetches.parts fetches.which fetches.others inactive in
        let same_shard = serving_is final count legal_final user plays.given_up given_there ∙ sym (serving_is final count legal_final user before start_there) in
        let deletes = plays.deletes ∙ ap (λ (n : ℕ). with_shard_step n (shard.Delete user queue) shard_reply.Deleted plays.given_up) same_shard in
        let standing_is = ap stands deletes ∙ standing_after all index (shard.Delete user queue) shard_reply.Deleted plays.given_up
        ∙ ap (with_step all index (shard.Delete user queue) shard_reply.Deleted) (ap stands fetches.refused ∙ fetches_standing all user fetches.parts opened) in
        let ran : record { outcome = FetchRefused; standing = stands after } ≡ fetched all user asked index queue false (stands opened) =
        ap (λ (standing : Standing). record { outcome = FetchRefused; standing = standing }) standing_is in
        ran ∙ opened_runs user types asked queue plays.have before some quiet.there false may_not

    -- a registration that comes to its finish
    registered_runs : (user : UserId) (types : Types) (asked : List Section) (queue : QueueId) (outcome : Outcome) (reply : ShardReply) (before after : History)
        → reply ≢ shard_reply.NoMemory
        → ((index : ℕ) (parts : List FetchedSection) (standing : Standing) → record { outcome = full_outcome outcome; standing = with_step (commands final) index (shard.Finish queue parts) reply standing } ≡ answered (commands final) queue (shard.Finish queue parts) standing index (full_reply reply))
        → PlaysRegister moment user types asked queue reply before after → WasThere final count after → 1 ≤ count
        → HasRun (Register user types asked) outcome before after
    registered_runs user types asked queue outcome reply before after memory gives plays there some =
        let all = commands final in
        let index = serving user before in
        let parts = plays.parts in
        let made = commands before.realm in
        let need = max (needed asked parts) (commits before.realm) in
        let opened = with_opening moment user types asked queue plays.have before in
        let fetched_so = with_fetches user parts opened in
        let end_there = subst (WasThere final count) plays.finishes there in
        let caught_there = there_before_shard final count legal_final (serving user plays.caught) (shard.Finish queue parts) reply plays.caught end_there in
        let rest = quiet_catching_up final count legal_final index need plays.have fetched_so plays.position plays.caught plays.catches_up caught_there in
        let fetch = quiet_fetches final count legal_final user parts opened rest.there in
        let start_there = there_before_shard final count legal_final index (shard.Start user salt moment types asked) (shard_reply.Opened queue plays.have) before fetch.there in
        let are = fetched_parts user parts opened rest.there.legal in
        let inside = (serving_inside final count legal_final user before start_there some).0 in
        let step : ShardStep = record { input = shard.Start user salt moment types asked; reply = shard_reply.Opened queue plays.have } in
        let shards_are = fetches_shards user parts opened in
        let longer = length-with_step_at index step before.shards in
        let long = ap length shards_are in
        let place : position_of (trace_at index fetched_so.shards) ≡ plays.have =
        ap (λ (traces : List (List ShardStep)). position_of (trace_at index traces)) shards_are
        ∙ ap position_of (trace_at-same index step before.shards inside)
        ∙ sym (opening_tells final count legal_final moment user types asked queue plays.have before fetch.there some).1 in
        let commits_are = ap length fetch.same in
        let known_parts : parts ≡ parts_for made user asked = parts_are user made parts are ∙ ap (parts_for made user) plays.in_order in
        let may : may_fetch made user asked ≡ true = ap (may_fetch made user) (sym plays.in_order) ∙ may_fetch_all user made parts are in
        let catches = caught final count legal_final index need plays.have fetched_so plays.position plays.caught plays.catches_up caught_there (omega arith)
        (omega (arith, commits_are, needed_within user made asked parts are)) place
        ∙ ap (caught_up all index need) (fetches_standing all user parts opened) in
        let same_shard = serving_is final count legal_final user plays.caught caught_there ∙ sym (serving_is final count legal_final user before start_there) in
        let finishes = plays.finishes ∙ ap (λ (n : ℕ). with_shard_step n (shard.Finish queue parts) reply plays.caught) same_shard in
        let caught_inside = (serving_inside final count legal_final user plays.caught caught_there some).0 in
        let finish_there = subst (WasThere final count) finishes there in
        let answers = replied final count legal_final index (shard.Finish queue parts) reply plays.caught (omega arith) finish_there memory in
        let step_is : stands after ≡ with_step all index (shard.Finish queue parts) reply (stands plays.caught) =
        ap stands finishes ∙ standing_after all index (shard.Finish queue parts) reply plays.caught in
        let gives_it : record { outcome = full_outcome outcome; standing = stands after } ≡ answered all queue (shard.Finish queue parts) (stands plays.caught) index (full_reply reply) =
        ap (λ (standing : Standing). record { outcome = full_outcome outcome; standing = standing }) step_is ∙ gives index parts (stands plays.caught) in
        let ended : record { outcome = full_outcome outcome; standing = stands after } ≡ served all queue (shard.Finish queue parts) (stands plays.caught) index =
        gives_it
        ∙ ap (answered all queue (shard.Finish queue parts) (stands plays.caught) index) answers in
        let with_parts : List FetchedSection → Ran = λ ps. served all queue (shard.Finish queue ps) (caught_up all index (max (needed asked ps) (length made)) (stands opened)) index in
        let fetched_is : with_parts parts ≡ fetched all user asked index queue true (stands opened) = ap with_parts known_parts in
        ended ∙ ap (λ (standing : Standing). served all queue (shard.Finish queue parts) standing index) catches ∙ fetched_is ∙ opened_runs user types asked queue plays.have before some fetch.there true may

    -- what the shard that serves a user replies of a queue
    served_runs : (user : UserId) (queue : QueueId) (input : ShardInput) (step : Step) (outcome : Outcome) (reply : ShardReply) (before after : History) → 1 ≤ count
        → served (commands final) queue input (stands before) (shard_of (length (stands before).states) user) ≡ run (commands final) moment fetchings step (stands before)
        → reply ≢ shard_reply.NoMemory → full_outcome outcome ≡ told queue (full_reply reply)
        → ((index : ℕ) (standing : Standing) → with_step (commands final) index input reply standing ≡ with_step (commands final) index input (full_reply reply) standing)
        → after ≡ with_step_for user input reply before → WasThere final count after → HasRun step outcome before after
    served_runs user queue input step outcome reply before after some runs memory tells full is there =
        let all = commands final in
        let index = serving user before in
        let reply_there = subst (WasThere final count) is there in
        let earlier = there_before_shard final count legal_final index input reply before reply_there in
        ap₂ (λ (outcome : Outcome) (standing : Standing). record { outcome = outcome; standing = standing }) tells
        (ap stands is ∙ standing_after all index input reply before ∙ full index (stands before))
        ∙ ap (answered all queue input (stands before) index)
        (replied final count legal_final index input reply before (serving_inside final count legal_final user before earlier some).0 reply_there memory)
        ∙ ap (served all queue input (stands before)) (state_count before user)
        ∙ runs

    poll_runs : (user : UserId) (queue : QueueId) (asked : ℤ) (beat : Bool) (outcome : Outcome) (reply : ShardReply) (before after : History) → 1 ≤ count
        → reply ≢ shard_reply.NoMemory → full_outcome outcome ≡ told queue (full_reply reply)
        → ((index : ℕ) (standing : Standing) → with_step (commands final) index (shard.Poll user queue asked moment beat) reply standing ≡ with_step (commands final) index (shard.Poll user queue asked moment beat) (full_reply reply) standing)
        → after ≡ with_step_for user (shard.Poll user queue asked moment beat) reply before → WasThere final count after
        → HasRun (Poll user queue asked beat) outcome before after
    poll_runs user queue asked beat outcome reply before after some memory tells full is there =
        served_runs user queue (shard.Poll user queue asked moment beat) (Poll user queue asked beat) outcome reply before after some refl memory tells full is there

    -- a fetch for a queue, one that is refused, and one for a queue that isn't opening
    fetch_runs : (queue : QueueId) (which : Section) (at : ℕ) (before after : History) → PlaysFetch queue which at before after → WasThere final count after
        → 1 ≤ count → HasRun (Fetch queue which) (Fetched which at) before after
    fetch_runs queue which at before after plays there some =
        let fetched_there = subst (WasThere final count) plays.fetches there in
        let earlier = there_before_realm final count legal_final (realm.Fetch queue.user which) (realm_reply.Section plays.rows at) before fetched_there in
        let answers = fetched_there.legal.0 in
        let at_is = answers.2 in
        let standing_is = ap stands plays.fetches in
        (λ i. record { outcome = Fetched which (at_is i); standing = standing_is i })
        ∙ ap₂ (λ (opening active : Bool). fetched_part which opening active (stands before))
        (sym plays.opening ∙ opening_counted queue before earlier some) (sym answers.0)

    refused_part_runs : (queue : QueueId) (which : Section) (before after : History) → PlaysRefusedPart queue which before after → WasThere final count after
        → 1 ≤ count → HasRun (Fetch queue which) FetchRefused before after
    refused_part_runs queue which before after plays there some =
        let refused_there = subst (WasThere final count) plays.refused there in
        let earlier = there_before_realm final count legal_final (realm.Fetch queue.user which) realm_reply.FetchRefused before refused_there in
        ap (λ (h : History). record { outcome = FetchRefused; standing = stands h }) plays.refused
        ∙ ap₂ (λ (opening active : Bool). fetched_part which opening active (stands before))
        (sym plays.opening ∙ opening_counted queue before earlier some) (sym refused_there.legal.0)

    lost_part_runs : (queue : QueueId) (which : Section) (before after : History) → is_opening_in queue before ≡ false → after ≡ before
        → WasThere final count after → 1 ≤ count → HasRun (Fetch queue which) BadQueue before after
    lost_part_runs queue which before after lost is there some =
        ap (λ (h : History). record { outcome = BadQueue; standing = stands h }) is
        ∙ ap (λ (opening : Bool). fetched_part which opening (is_active_user (state_of (commands before.realm)).tables queue.user) (stands before))
        (sym lost ∙ opening_counted queue before (subst (WasThere final count) is there) some)

    -- a finish, with the parts that were fetched where its queue is opening
    module _ (queue : QueueId) (parts : List FetchedSection) (reply : ShardReply) (before after : History)
        (is : after ≡ with_step_for queue.user (shard.Finish queue parts) reply before) (there : WasThere final count after) (some : 1 ≤ count) where
      abbrev finish : ShardInput
      finish = shard.Finish queue parts

      finish_there : WasThere final count (with_step_for queue.user finish reply before)
      finish_there = subst (WasThere final count) is there

      finish_inside : serving queue.user before < length before.shards
      finish_inside =
          (serving_inside final count legal_final queue.user before
          (there_before_shard final count legal_final (serving queue.user before) finish reply before finish_there) some).0

      finish_replies : reply ≢ shard_reply.NoMemory
          → full_reply reply ≡ reply_of (commands final) (shard_of (length (stands before).states) queue.user) (stands before) finish
      finish_replies memory =
          replied final count legal_final (serving queue.user before) finish reply before finish_inside finish_there memory
          ∙ ap (λ (n : ℕ). reply_of (commands final) n (stands before) finish) (state_count before queue.user)

      parts_are_fetched : parts ≡ map (part_with (commands final) queue.user) (map fetching_of parts)
      parts_are_fetched =
          let step = answered_at final count legal_final (serving queue.user before) finish reply before finish_there finish_inside in
          fetched_with final legal_final queue.user _ parts step.belongs.parted.0

      -- what it gives, where these parts are the ones that it is given
      finish_runs : (outcome : Outcome) → reply ≢ shard_reply.NoMemory → full_outcome outcome ≡ told queue (full_reply reply)
          → ((index : ℕ) (standing : Standing) → with_step (commands final) index finish reply standing ≡ with_step (commands final) index finish (full_reply reply) standing)
          → parts ≡ parts_given (commands final) queue (fetchings queue) (is_opening_at (commands final) queue (stands before) (shard_of (length (stands before).states) queue.user))
          → HasRun (Finish queue) outcome before after
      finish_runs outcome memory tells full given =
          let index = shard_of (length (stands before).states) queue.user in
          served_runs queue.user queue finish (Finish queue) outcome reply before after some
          (ap (λ (ps : List FetchedSection). served (commands final) queue (shard.Finish queue ps) (stands before) index) given)
          memory tells full is there

    -- one that isn't refused
    opened_finish_runs : (queue : QueueId) (outcome : Outcome) (reply : List FetchedSection → ShardReply) (before after : History)
        (plays : PlaysFinish queue (fetchings queue) reply before after) → WasThere final count after → 1 ≤ count
        → reply plays.parts ≢ shard_reply.NoMemory → full_reply (reply plays.parts) ≢ shard_reply.BadQueue
        → full_outcome outcome ≡ told queue (full_reply (reply plays.parts))
        → ((index : ℕ) (standing : Standing) → with_step (commands final) index (shard.Finish queue plays.parts) (reply plays.parts) standing ≡ with_step (commands final) index (shard.Finish queue plays.parts) (full_reply (reply plays.parts)) standing)
        → HasRun (Finish queue) outcome before after
    opened_finish_runs queue outcome reply before after plays there some memory not tells full =
        let all = commands final in
        let parts = plays.parts in
        let index = shard_of (length (stands before).states) queue.user in
        let replies = finish_replies queue parts (reply parts) before after plays.finishes there some memory in
        let opening = opened_finish (viewed all) (account_in (shard_state all index (stands before))) queue parts (full_reply (reply parts)) not replies in
        finish_runs queue parts (reply parts) before after plays.finishes there some outcome memory tells full
        (parts_are_fetched queue parts (reply parts) before after plays.finishes there some
        ∙ ap (map (part_with all queue.user)) plays.were_fetched
        ∙ ap (parts_given all queue (fetchings queue)) (sym opening))

    -- and one that is
    lost_finish_runs : (queue : QueueId) (before after : History) → PlaysFinish queue [] (λ parts. shard_reply.BadQueue) before after
        → WasThere final count after → 1 ≤ count → HasRun (Finish queue) BadQueue before after
    lost_finish_runs queue before after plays there some =
        let all = commands final in
        let parts = plays.parts in
        let index = shard_of (length (stands before).states) queue.user in
        let replies = finish_replies queue parts shard_reply.BadQueue before after plays.finishes there some (λ same. cc) in
        let lost = lost_finish (viewed all) (account_in (shard_state all index (stands before))) queue parts replies in
        finish_runs queue parts shard_reply.BadQueue before after plays.finishes there some BadQueue (λ same. cc) refl (λ i standing. refl)
        (no_parts parts plays.were_fetched ∙ ap (parts_given all queue (fetchings queue)) (sym lost))

    -- a view, and one that is refused
    viewed_runs : (user : UserId) (at : ℕ) (state : State) (before after : History) → PlaysView user at (sections_of state) before after → WasThere final count after
        → HasRun (View user) (Viewed at state) before after
    viewed_runs user at state before after plays there =
        let made = commands before.realm in
        let fetched_there = subst (WasThere final count) plays.fetches there in
        let shows = shows_view user at (sections_of state) made plays.parts plays.in_order plays.shown (fetched_parts user plays.parts before fetched_there.legal) in
        let at_is = shows.counted in
        let state_is = full_state_is state ∙ ap state_with shows.seen in
        let standing_is = ap stands plays.fetches ∙ fetches_standing (commands final) user plays.parts before in
        (λ i. record { outcome = Viewed (at_is i) (state_is i); standing = standing_is i })
        ∙ ap (λ (active : Bool). shown_view user active (stands before)) (sym shows.active)

    refused_view_runs : (user : UserId) (before after : History) → PlaysRefusedFetch user all_sections before after → WasThere final count after
        → HasRun (View user) FetchRefused before after
    refused_view_runs user before after plays there =
        let fetched_so = with_fetches user plays.parts before in
        let refused_there = subst (WasThere final count) plays.refused there in
        let fetched_there = there_before_realm final count legal_final (realm.Fetch user plays.which) realm_reply.FetchRefused fetched_so refused_there in
        let quiet = quiet_fetches final count legal_final user plays.parts before fetched_there in
        let inactive : is_active_user (state_of (commands before.realm)).tables user ≡ false =
        ap (λ (list : List Accepted). is_active_user (state_of list).tables user) (sym quiet.same) ∙ refused_there.legal.0 in
        let standing_is = ap stands plays.refused ∙ fetches_standing (commands final) user plays.parts before in
        ap (λ (standing : Standing). record { outcome = FetchRefused; standing = standing }) standing_is
        ∙ ap (λ (active : Bool). shown_view user active (stands before)) (sym inactive)

    -- the run of a step that ends where another is known to
    runs_to : (step : Step) (outcome : Outcome) (before after target : History) → after ≡ target
        → (WasThere final count target → HasRun step outcome before target) → WasThere final count after → HasRun step outcome before after
    runs_to step outcome before after target is runs there =
        subst (HasRun step outcome before) (sym is) (runs (subst (WasThere final count) is there))

    -- notices from one on that are taken and pushed, or come too early
    pushed_from_runs : (index first reached : ℕ) (before after : History) → PlaysPushFrom index first (shard_reply.Pushed reached) before after
        → WasThere final count after → index < length before.shards → HasRun (PushFrom index first) (Pushed reached) before after
    pushed_from_runs index first reached before after plays there within =
        let all = commands final in
        let push = takes final count legal_final index first plays.notices reached before within (subst (WasThere final count) plays.pushed there) in
        let reached_is = push.reached_is in
        let standing_is = ap stands plays.pushed ∙ push.standing in
        (λ i. record { outcome = Pushed (reached_is i); standing = standing_is i })
        ∙ ap (pushed_from all index first (stands before)) (sym (le-ltb ((shard_state all index (stands before)).position + 1) first push.due))

    gap_runs : (index first have from : ℕ) (before after : History) → PlaysPushFrom index first (shard_reply.Gap have from) before after
        → WasThere final count after → index < length before.shards → HasRun (PushFrom index first) (Gap have from) before after
    gap_runs index first have from before after plays there within =
        let all = commands final in
        let asked = with_realm_step (realm.Take first) (realm_reply.Notices first plays.notices) before in
        let is_gap = gap_among (nat_lt ((shard_state all index (stands before)).position + 1) first) have from (shard_state all index (stands before)).position first
        (max (shard_state all index (stands before)).position (first + length plays.notices - 1))
        (replied final count legal_final index (shard.Push first plays.notices) (shard_reply.Gap have from) asked within (subst (WasThere final count) plays.pushed there) (λ is. cc)) in
        let have_is = is_gap.1 in
        let from_is = is_gap.2 in
        let standing_is : stands after ≡ stands before = ap stands plays.pushed ∙ kept index (shard.Push first plays.notices) (shard_reply.Gap have from) asked refl in
        (λ i. record { outcome = Gap (have_is i) (from_is i); standing = standing_is i })
        ∙ ap (pushed_from all index first (stands before)) (sym is_gap.0)

    -- each shard from an index on is ticked
    ticks_run : (at index : ℕ) (expired : List (List Expired)) (before : History) → WasThere final count (with_ticks at index expired before)
        → index + length expired ≤ length before.shards
        → record { expired = expired; standing = stands (with_ticks at index expired before) } ≡ ticked (commands final) at index (length expired) (stands before)
    ticks_run at index [] before there within = refl
    ticks_run at index (one ∷ others) before there within =
        let all = commands final in
        let step : ShardStep = record { input = shard.Tick at; reply = shard_reply.Ticked one } in
        let after = with_shard_step index (shard.Tick at) (shard_reply.Ticked one) before in
        let after_there = (quiet_ticks final count legal_final at (index + 1) others after there).there in
        let longer = length-with_step_at index step before.shards in
        let rest = ticks_run at (index + 1) others after there (omega arith) in
        let tells = replied final count legal_final index (shard.Tick at) (shard_reply.Ticked one) before (omega arith) after_there (λ is. cc) in
        let one_is : one ≡ expiries (account_in (shard_state all index (stands before))) at = cc in
        ap (with_expired one) rest
        ∙ ap (λ (standing : Standing). with_expired one (ticked all at (index + 1) (length others) standing)) (standing_after all index (shard.Tick at) (shard_reply.Ticked one) before)
        ∙ ap (λ (list : List Expired). with_expired list (ticked all at (index + 1) (length others) (with_step all index (shard.Tick at) (shard_reply.Ticked []) (stands before)))) one_is

    tick_runs : (at : ℕ) (queues : List QueueId) (before after : History) → PlaysTick (max moment at) queues before after → WasThere final count after
        → HasRun (Tick at) (Ticked queues) before after
    tick_runs at queues before after plays there =
        let all = commands final in
        let each = plays.each in
        let told_is = plays.told in
        let standing_is = ap stands plays.ticked in
        let states_are : length plays.expired ≡ length (stands before).states = each ∙ sym (length-map before.shards _) in
        (λ i. record { outcome = Ticked (told_is i); standing = standing_is i })
        ∙ ap collected (ticks_run (max moment at) 0 plays.expired before (subst (WasThere final count) plays.ticked there) (omega arith))
        ∙ ap (λ (n : ℕ). collected (ticked all (max moment at) 0 n (stands before))) states_are

    -- where a shard stands
    located_runs : (index position : ℕ) (before after : History) → after ≡ with_shard_step index shard.Locate (shard_reply.At position) before
        → WasThere final count after → index < length before.shards → HasRun (Locate index) (At position) before after
    located_runs index position before after is there within =
        let all = commands final in
        let place = replied final count legal_final index shard.Locate (shard_reply.At position) before within (subst (WasThere final count) is there) (λ is. cc) in
        let position_now : position ≡ (shard_state all index (stands before)).position = cc in
        let standing_is : stands after ≡ stands before = ap stands is ∙ kept index shard.Locate (shard_reply.At position) before refl in
        λ i. record { outcome = At (position_now i); standing = standing_is i }

    -- whatever is played is what the step gives
    pub plays_run : (step : Step) (outcome : Outcome) (before after : History) → GoesOn moment fetchings step outcome before after → WasThere final count after
        → 1 ≤ count → MayPlay (length before.shards) step → HasRun step outcome before after
    plays_run (Command actor command) (Committed number id) before after is there some may =
        let then_there = subst (WasThere final count) is.3 there in
        let number_is = sym is.1 in
        let id_is = sym is.2 in
        let standing_is = ap stands is.3 in
        (λ i. record { outcome = Committed (number_is i) (id_is i); standing = standing_is i })
        ∙ ap (λ (r : RealmReply). commanded moment actor command r (stands before)) (committed_is before.realm actor moment command is.0 then_there.legal.0)
    plays_run (Command actor command) (Refused why) before after is there some may =
        let then_there = subst (WasThere final count) is there in
        ap (λ (h : History). record { outcome = Refused why; standing = stands h }) is
        ∙ ap (λ (r : RealmReply). commanded moment actor command r (stands before)) (refused_is before.realm actor moment command why then_there.legal.0)
    plays_run (Shards many) (Sharded made) before after plays there some may =
        let made_is = plays.0 in
        let standing_is = ap stands plays.1 in
        λ i. record { outcome = Sharded (made_is i); standing = standing_is i }
    plays_run NoticeAll (Noticed noticed) before after is there some may =
        let then_there = subst (WasThere final count) is there in
        ap (λ (h : History). record { outcome = Noticed noticed; standing = stands h }) is
        ∙ ap (λ (n : ℕ). record { outcome = Noticed n; standing = record (stands before) { announced = n } }) then_there.legal.0
    plays_run (Push index) (Pushed reached) before after plays there some may = pushed_runs index reached before after plays there may
    plays_run (PushFrom index first) (Pushed reached) before after plays there some may = pushed_from_runs index first reached before after plays there may.0
    plays_run (PushFrom index first) (Gap have from) before after plays there some may = gap_runs index first have from before after plays there may.0
    plays_run (OpenQueue user types asked) (Opened queue at) before after is there some may =
        runs_to (OpenQueue user types asked) (Opened queue at) before after _ is
        (start_runs user types asked (OpenQueue user types asked) (Opened queue at) (shard_reply.Opened queue at) before
        (opened (commands final) moment user types asked) some (λ same. cc) (λ index standing. refl) (λ standing. refl)) there
    plays_run (OpenQueue user types asked) OpensSpent before after is there some may =
        runs_to (OpenQueue user types asked) OpensSpent before after _ is
        (start_runs user types asked (OpenQueue user types asked) OpensSpent shard_reply.OpensSpent before
        (opened (commands final) moment user types asked) some (λ same. cc) (λ index standing. refl) (λ standing. refl)) there
    plays_run (OpenQueue user types asked) TooManyQueues before after is there some may =
        runs_to (OpenQueue user types asked) TooManyQueues before after _ is
        (start_runs user types asked (OpenQueue user types asked) TooManyQueues shard_reply.TooManyQueues before
        (opened (commands final) moment user types asked) some (λ same. cc) (λ index standing. refl) (λ standing. refl)) there
    plays_run (Fetch queue which) (Fetched other at) before after plays there some may =
        subst (λ (w : Section). HasRun (Fetch queue which) (Fetched w at) before after) (sym plays.0) (fetch_runs queue which at before after plays.1 there some)
    plays_run (Fetch queue which) FetchRefused before after plays there some may = refused_part_runs queue which before after plays there some
    plays_run (Fetch queue which) BadQueue before after plays there some may = lost_part_runs queue which before after plays.0 plays.1 there some
    plays_run (Finish queue) (Finished reached other last state) before after plays there some may =
        subst (λ (q : QueueId). HasRun (Finish queue) (Finished reached q last state) before after) (sym plays.0)
        (opened_finish_runs queue (Finished reached queue last state) (λ parts. shard_reply.Finished state last reached) before after plays.1 there some
        (λ same. cc) (λ same. cc) refl (λ index standing. refl))
    plays_run (Finish queue) (MissingSection which) before after plays there some may =
        opened_finish_runs queue (MissingSection which) (shard_reply.MissingSection which) before after plays there some
        (λ same. cc) (λ same. cc) refl (λ index standing. refl)
    plays_run (Finish queue) (NotPushed have need) before after plays there some may =
        opened_finish_runs queue (NotPushed have need) (shard_reply.NotPushed have need) before after plays there some
        (λ same. cc) (λ same. cc) refl (λ index standing. refl)
    plays_run (Finish queue) BadQueue before after plays there some may = lost_finish_runs queue before after plays there some
    plays_run (Register user types asked) (Finished reached queue last state) before after plays there some may =
        registered_runs user types asked queue (Finished reached queue last state) (shard_reply.Finished state last reached) before after (λ is. cc) (λ index parts standing. refl) plays there some
    plays_run (Register user types asked) BadQueue before after plays there some may =
        registered_runs user types asked plays.0 BadQueue shard_reply.BadQueue before after (λ is. cc) (λ index parts standing. refl) plays.1 there some
    plays_run (Register user types asked) OpensSpent before after is there some may =
        runs_to (Register user types asked) OpensSpent before after _ is
        (start_runs user types asked (Register user types asked) OpensSpent shard_reply.OpensSpent before
        (started (commands final) moment user types asked) some (λ same. cc) (λ index standing. refl) (λ standing. refl)) there
    plays_run (Register user types asked) TooManyQueues before after is there some may =
        runs_to (Register user types asked) TooManyQueues before after _ is
        (start_runs user types asked (Register user types asked) TooManyQueues shard_reply.TooManyQueues before
        (started (commands final) moment user types asked) some (λ same. cc) (λ index standing. refl) (λ standing. refl)) there
    plays_run (Register user types asked) FetchRefused before after plays there some may = fetch_refused_runs user types asked before after plays there some
    plays_run (Poll user queue asked beat) (Answered reached other items) before after plays there some may =
        subst (λ (q : QueueId). HasRun (Poll user queue asked beat) (Answered reached q items) before after) (sym plays.0)
        (poll_runs user queue asked beat (Answered reached queue items) (shard_reply.Answer items reached) before after some (λ is. cc) refl (λ index standing. refl) plays.1 there)
    plays_run (Poll user queue asked beat) (Empty reached) before after is there some may =
        poll_runs user queue asked beat (Empty reached) (shard_reply.Empty reached) before after some (λ same. cc) refl (λ index standing. refl) is there
    plays_run (Poll user queue asked beat) BadQueue before after is there some may =
        poll_runs user queue asked beat BadQueue shard_reply.BadQueue before after some (λ same. cc) refl (λ index standing. refl) is there
    plays_run (Poll user queue asked beat) (NotSent greatest) before after is there some may =
        poll_runs user queue asked beat (NotSent greatest) (shard_reply.NotSent greatest) before after some (λ same. cc) refl (λ index standing. refl) is there
    plays_run (Poll user queue asked beat) (Pruned newest) before after is there some may =
        poll_runs user queue asked beat (Pruned newest) (shard_reply.Pruned newest) before after some (λ same. cc) refl (λ index standing. refl) is there
    plays_run (DeleteQueue user queue) Deleted before after is there some may =
        served_runs user queue (shard.Delete user queue) (DeleteQueue user queue) Deleted shard_reply.Deleted before after some refl (λ same. cc) refl (λ index standing. refl) is there
    plays_run (DeleteQueue user queue) BadQueue before after is there some may =
        served_runs user queue (shard.Delete user queue) (DeleteQueue user queue) BadQueue shard_reply.BadQueue before after some refl (λ same. cc) refl (λ index standing. refl) is there
    plays_run (Tick at) (Ticked queues) before after plays there some may = tick_runs at queues before after plays there
    plays_run (Locate index) (At position) before after is there some may = located_runs index position before after is there may
    plays_run (View user) (Viewed at state) before after plays there some may = viewed_runs user at state before after plays there
    plays_run (View user) FetchRefused before after plays there some may = refused_view_runs user before after plays there
    plays_run step outcome before after plays there some may = absurd plays
