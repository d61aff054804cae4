-- What holds of a history that more steps made longer, with what is known of its queues.
use Rattle.std.proofs.Common.{◌≡◌, ℕ, zero, suc, ◌+◌, ◌<◌, ◌≤◌, false, Option, None, List, [], ◌∷◌, ◌++◌, length, append_assoc, zero-add, refl, ap, sym, subst, ◌∙◌, ◌⊎◌, inl, inr, arith}
use Rattle.std.proofs.lemmas.List.{length-replicate}
use Rattle.ev_base.specs.declared.ids.UserId.{UserId}
use Rattle.ev_base.specs.declared.ids.QueueId.{QueueId}
use Rattle.ev_base.specs.declared.expired.Expired.{Expired}
use Rattle.ev_types.specs.declared.notice.Notice.{Notice}
use Rattle.ev_types.specs.declared.event.Item.{Item}
use Rattle.ev_types.specs.declared.section.Section.{Section}
use Rattle.zw_traces.specs.declared.realm.RealmInput.{RealmInput}
use Rattle.zw_traces.specs.declared.realm.RealmInput.TheVariants.{Commit, Fetch, NoticeAll, Take}
use Rattle.zw_traces.specs.declared.realm.RealmReply.{RealmReply}
use Rattle.zw_traces.specs.declared.realm.RealmReply.TheVariants.{Committed, Noticed, Notices}
use Rattle.zw_traces.specs.declared.realm.RealmReply.TheVariants as realm_reply
use Rattle.zw_traces.specs.declared.realm.RealmStep.{RealmStep}
use Rattle.zw_traces.specs.declared.shard.FetchedSection.{FetchedSection}
use Rattle.zw_traces.specs.declared.shard.ShardInput.{ShardInput}
use Rattle.zw_traces.specs.declared.shard.ShardInput.TheVariants.{Push, Tick}
use Rattle.zw_traces.specs.declared.shard.ShardReply.{ShardReply}
use Rattle.zw_traces.specs.declared.shard.ShardReply.TheVariants.{Gap, Pushed, Ticked}
use Rattle.zw_traces.specs.declared.shard.ShardStep.{ShardStep}
use Rattle.zw_traces.specs.RealmTrace.{Accepted, IsLegalRealm, announced_count, commands, commands_after}
use Rattle.zw_traces.specs.RealmFeeds.{changed_events, viewed}
use Rattle.zw_traces.specs.ShardTrace.{ShardAnswers, position_after, position_of, shard_account}
use Rattle.zw_traces.specs.Histories.{AllBelong, BelongsTo, History, IsServedStep, opening_history, shard_of, trace_at, with_realm_step, with_shard_step, with_step_at}
use Rattle.zw_traces.specs.Clients.{Client, client_after}
use Rattle.zw_traces.proofs.RealmTraces.{announced_grows}
use Rattle.zw_traces.proofs.Steps.{pushed_tells}
use Rattle.zw_laws.proofs.Belonging.{earlier_belongs}
use Rattle.zw_laws.proofs.FedSteps.{length-with_step_at}
use Rattle.zm_text.specs.Clients.{Registration}
use Rattle.zm_text.specs.Playing.{CatchesUp, Round, TakesAndPushes, with_fetch, with_fetches, with_ticks}
use Rattle.zm_laws.proofs.TraceLists.{IsAt, trace_at-same, trace_at-other, trace_at-replicate}
use Rattle.zm_laws.proofs.QueueTurns.{IsFollowed, followed_at_first, followed_step, items_after}

-- a step adds at most one command
commands_before : (input : RealmInput) (reply : RealmReply) (before later all : List Accepted) → all ≡ later ++ commands_after input reply before
    → (more : List Accepted) × (all ≡ more ++ before)
commands_before (Commit actor moment command) (Committed reply) before later all is =
    let made : Accepted = record { actor = actor; moment = moment; command = command } in
    (later ++ made ∷ [], is ∙ sym (append_assoc later (made ∷ []) before))
commands_before input reply before later all is = (later, is)

-- what is known of the queues: what their clients have of each section, the items that they were told, and for what they were
-- registered
pub record Known : Type 0 where
  pub clients : QueueId → Section → Option Client
  pub items : QueueId → List Item
  pub registrations : QueueId → Option Registration

abbrev pub nothing_known : Known
nothing_known = record { clients = λ queue which. None; items = λ queue. []; registrations = λ queue. None }

module _ (final : List RealmStep) (count : ℕ) where
  -- all traces, before one more step of one of them
  all_belong_before : (from i : ℕ) (step : ShardStep) (traces : List (List ShardStep)) → AllBelong final count from (with_step_at i step traces)
      → AllBelong final count from traces
  all_belong_before from i step [] belong = tt
  all_belong_before from zero step (trace ∷ traces) belong = (earlier_belongs final count from (step ∷ []) trace belong.0, belong.1)
  all_belong_before from (suc i) step (trace ∷ traces) belong = (belong.0, all_belong_before (from + 1) i step traces belong.1)

  -- and the trace of one shard
  pub belongs_at : (from i : ℕ) (traces : List (List ShardStep)) → i < length traces → AllBelong final count from traces
      → BelongsTo final count (from + i) (trace_at i traces)
  belongs_at from i [] inside belong = absurd (omega arith)
  belongs_at from zero (trace ∷ traces) inside belong =
      let same : from ≡ from + 0 = omega arith in
      subst (λ n. BelongsTo final count n trace) same belong.0
  belongs_at from (suc i) (trace ∷ traces) inside belong =
      let same : from + 1 + i ≡ from + suc i = omega arith in
      subst (λ n. BelongsTo final count n (trace_at i traces)) same (belongs_at (from + 1) i traces (omega arith) belong.1)

  -- a history that was there before the realm's trace and the shards' traces ended
  pub record WasThere (history : History) : Type 0 where
    pub sized : length history.shards ≡ count
    pub legal : IsLegalRealm history.realm
    pub later : List Accepted
    pub ends : commands final ≡ later ++ commands history.realm
    pub belong : AllBelong final count 0 history.shards

  -- a step of a shard that stands in its trace
  pub record Answered (i : ℕ) (input : ShardInput) (reply : ShardReply) (trace : List ShardStep) : Type 0 where
    pub belongs : BelongsTo final count (0 + i) (record { input = input; reply = reply } ∷ trace)
    pub answers : ShardAnswers (shard_account (changed_events (commands final)) trace) (viewed (commands final)) input reply
    pub served : IsServedStep count i input

  module _ (legal_final : IsLegalRealm final) where
    -- it was there before a step of the realm, or of a shard
    pub there_before_realm : (input : RealmInput) (reply : RealmReply) (history : History) → WasThere (with_realm_step input reply history) → WasThere history
    there_before_realm input reply history there =
        let known = commands_before input reply (commands history.realm) there.later (commands final) there.ends in
        record { sized = there.sized; legal = there.legal.1; later = known.0; ends = known.1; belong = there.belong }

    pub there_before_shard : (i : ℕ) (input : ShardInput) (reply : ShardReply) (history : History) → WasThere (with_shard_step i input reply history) → WasThere history
    there_before_shard i input reply history there = record {
      sized = sym (length-with_step_at i (record { input = input; reply = reply }) history.shards) ∙ there.sized;
      legal = there.legal;
      later = there.later;
      ends = there.ends;
      belong = all_belong_before 0 i (record { input = input; reply = reply }) history.shards there.belong;
    }

    -- what the step of a shard that is there tells
    pub answered_at : (i : ℕ) (input : ShardInput) (reply : ShardReply) (history : History) → WasThere (with_shard_step i input reply history)
        → i < length history.shards → Answered i input reply (trace_at i history.shards)
    answered_at i input reply history there inside =
        let step : ShardStep = record { input = input; reply = reply } in
        let sized = length-with_step_at i step history.shards in
        let at_index = belongs_at 0 i (with_step_at i step history.shards) (omega arith) there.belong in
        let belongs = subst (BelongsTo final count (0 + i)) (trace_at-same i step history.shards inside) at_index in
        record {
          belongs = belongs;
          answers = belongs.legal.0;
          served = subst (λ n. IsServedStep count n input) (zero-add i) belongs.served.0;
        }

    -- what holds of a queue, by what is known
    abbrev pub FollowedOn : Known → QueueId → List ShardStep → Type 0
    FollowedOn known queue trace = IsFollowed final queue (known.clients queue) (known.items queue) (known.registrations queue) trace

    -- what is known holds in a history whose shards have only announced notices
    pub record Following (known : Known) (history : History) : Type 0 where
      pub some : 1 ≤ count
      pub announced_only : (j : ℕ) → position_of (trace_at j history.shards) ≤ announced_count history.realm
      pub followed : (queue : QueueId) → FollowedOn known queue (trace_at (shard_of count queue.user) history.shards)

    -- before any step
    pub following_at_first : (shards : ℕ) → 1 ≤ shards → WasThere (opening_history shards) → Following nothing_known (opening_history shards)
    following_at_first shards some there =
        let sized = sym (length-replicate shards []) ∙ there.sized in
        record {
          some = omega arith;
          announced_only = λ j. let at_first = ap position_of (trace_at-replicate j shards) in omega arith;
          followed = λ queue. subst (FollowedOn nothing_known queue) (sym (trace_at-replicate (shard_of count queue.user) shards)) (followed_at_first final queue);
        }

    -- after a step of the realm
    pub following_realm : (input : RealmInput) (reply : RealmReply) (history : History) (known : Known)
        → WasThere (with_realm_step input reply history) → Following known history → Following known (with_realm_step input reply history)
    following_realm input reply history known there following =
        let grows = announced_grows (record { input = input; reply = reply }) history.realm there.legal in
        record {
          some = following.some;
          announced_only = λ j. let before = following.announced_only j in omega arith;
          followed = following.followed;
        }

    -- what is known after a step of a shard, of its queues and of the others
    pub record Tells (i : ℕ) (input : ShardInput) (reply : ShardReply) (known later : Known) : Type 0 where
      pub here : (queue : QueueId) (trace : List ShardStep) → BelongsTo final count (0 + i) (record { input = input; reply = reply } ∷ trace)
          → FollowedOn known queue trace → FollowedOn later queue (record { input = input; reply = reply } ∷ trace)
      pub elsewhere : (queue : QueueId) (trace : List ShardStep) → (IsAt count i (shard_of count queue.user) → ⊥)
          → FollowedOn known queue trace → FollowedOn later queue trace

    -- a step of a shard goes no further than what was announced
    abbrev pub IsBounded : ℕ → ShardInput → ShardReply → History → Type 0
    IsBounded i input reply history =
        ShardAnswers (shard_account (changed_events (commands final)) (trace_at i history.shards)) (viewed (commands final)) input reply
        → position_of (trace_at i history.shards) ≤ announced_count history.realm
        → position_after input reply (position_of (trace_at i history.shards)) ≤ announced_count history.realm

    -- after a step of a shard
    pub following_shard : (i : ℕ) (input : ShardInput) (reply : ShardReply) (history : History) (known later : Known)
        → Tells i input reply known later → IsBounded i input reply history
        → WasThere (with_shard_step i input reply history) → Following known history
        → Following later (with_shard_step i input reply history)
    following_shard i input reply history known later tells bounded there following = record {
      some = following.some;
      announced_only = λ j. no_further j (trace_at-other i j (record { input = input; reply = reply }) history.shards);
      followed = λ queue. followed_at queue (trace_at-other i (shard_of count queue.user) (record { input = input; reply = reply }) history.shards);
    }
      where
        sized : length history.shards ≡ count
        sized = sym (length-with_step_at i (record { input = input; reply = reply }) history.shards) ∙ there.sized

        -- no trace goes further than what was announced
        no_further : (j : ℕ) → IsAt (length history.shards) i j ⊎ ((IsAt (length history.shards) i j → ⊥) × (trace_at j (with_step_at i (record { input = input; reply = reply }) history.shards) ≡ trace_at j history.shards))
            → position_of (trace_at j (with_step_at i (record { input = input; reply = reply }) history.shards)) ≤ announced_count history.realm
        no_further j (inl (is, inside)) =
            let at_index = ap (λ n. position_of (trace_at n (with_step_at i (record { input = input; reply = reply }) history.shards))) is
            ∙ ap position_of (trace_at-same i (record { input = input; reply = reply }) history.shards inside) in
            let next = bounded (answered_at i input reply history there inside).answers (following.announced_only i) in
            omega arith
        no_further j (inr (not, same)) =
            let before = following.announced_only j in
            let as_before = ap position_of same in
            omega arith

        -- the queues of the trace that the step stands in, and those of the others
        followed_at : (queue : QueueId)
            → IsAt (length history.shards) i (shard_of count queue.user) ⊎ ((IsAt (length history.shards) i (shard_of count queue.user) → ⊥) × (trace_at (shard_of count queue.user) (with_step_at i (record { input = input; reply = reply }) history.shards) ≡ trace_at (shard_of count queue.user) history.shards))
            → FollowedOn later queue (trace_at (shard_of count queue.user) (with_step_at i (record { input = input; reply = reply }) history.shards))
        followed_at queue (inl (is, inside)) =
            let step : ShardStep = record { input = input; reply = reply } in
            let at_index = subst (λ n. FollowedOn known queue (trace_at n history.shards)) is (following.followed queue) in
            let after = tells.here queue (trace_at i history.shards) (answered_at i input reply history there inside).belongs at_index in
            let trace_is = ap (λ n. trace_at n (with_step_at i step history.shards)) is ∙ trace_at-same i step history.shards inside in
            subst (FollowedOn later queue) (sym trace_is) after
        followed_at queue (inr (not, same)) =
            let whole = sized in
            subst (FollowedOn later queue) (sym same)
            (tells.elsewhere queue (trace_at (shard_of count queue.user) history.shards) (λ at. let inside = at.1 in not (at.0, omega arith)) (following.followed queue))

    -- steps that commit nothing and answer no client
    pub record Quiet (before after : History) : Type 0 where
      pub there : WasThere before
      pub same : commands after.realm ≡ commands before.realm
      pub keeps : (known : Known) → Following known before → Following known after

    -- no step at all
    pub quiet_none : (history : History) → WasThere history → Quiet history history
    quiet_none history there = record { there = there; same = refl; keeps = λ known following. following }

    -- some steps and then others
    pub quiet_then : (before middle after : History) → Quiet before middle → Quiet middle after → Quiet before after
    quiet_then before middle after first second = record {
      there = first.there;
      same = second.same ∙ first.same;
      keeps = λ known following. second.keeps known (first.keeps known following);
    }

    -- a step of the realm, or of a shard
    pub quiet_realm : (input : RealmInput) (reply : RealmReply) (history : History)
        → commands_after input reply (commands history.realm) ≡ commands history.realm
        → WasThere (with_realm_step input reply history) → Quiet history (with_realm_step input reply history)
    quiet_realm input reply history same there = record {
      there = there_before_realm input reply history there;
      same = same;
      keeps = λ known following. following_realm input reply history known there following;
    }

    -- the step tells no client anything
    pub record IsQuiet (input : ShardInput) (reply : ShardReply) : Type 0 where
      pub no_client : (queue : QueueId) (which : Section) (given : Option Client) → client_after queue which false input reply given ≡ given
      pub no_items : (queue : QueueId) (items : List Item) → items_after queue input reply items ≡ items

    quiet_tells : (i : ℕ) (input : ShardInput) (reply : ShardReply) (known : Known) → IsQuiet input reply → Tells i input reply known known
    quiet_tells i input reply known quiet = record {
      here = λ queue trace belongs inner.
          let next = followed_step final queue false trace input reply (known.clients queue) (known.items queue) (known.registrations queue) belongs.legal inner in
          subst (λ items. IsFollowed final queue (known.clients queue) items (known.registrations queue) (record { input = input; reply = reply } ∷ trace)) (quiet.no_items queue (known.items queue))
          (subst (λ clients. IsFollowed final queue clients (items_after queue input reply (known.items queue)) (known.registrations queue) (record { input = input; reply = reply } ∷ trace))
          (λ k. λ which. quiet.no_client queue which (known.clients queue which) k) next);
      elsewhere = λ queue trace not inner. inner;
    }

    pub quiet_shard : (i : ℕ) (input : ShardInput) (reply : ShardReply) (history : History) → IsQuiet input reply → IsBounded i input reply history
        → WasThere (with_shard_step i input reply history) → Quiet history (with_shard_step i input reply history)
    quiet_shard i input reply history quiet bounded there = record {
      there = there_before_shard i input reply history there;
      same = refl;
      keeps = λ known following. following_shard i input reply history known known (quiet_tells i input reply known quiet) bounded there following;
    }

    -- where steps end where others are known to
    pub quiet_to : (before after target : History) → after ≡ target → (WasThere target → Quiet before target) → WasThere after → Quiet before after
    quiet_to before after target is quiet there = subst (Quiet before) (sym is) (quiet (subst WasThere is there))

    -- notices that are taken from one on and pushed, with this reply
    abbrev with_taken : ℕ → ℕ → List Notice → ShardReply → History → History
    with_taken index first notices reply before = with_shard_step index (Push first notices) reply (with_realm_step (Take first) (Notices first notices) before)

    quiet_taking : (index first : ℕ) (notices : List Notice) (reply : ShardReply) (before : History) → IsQuiet (Push first notices) reply
        → IsBounded index (Push first notices) reply (with_realm_step (Take first) (Notices first notices) before)
        → WasThere (with_taken index first notices reply before) → Quiet before (with_taken index first notices reply before)
    quiet_taking index first notices reply before quiet bounded there =
        let taken = with_realm_step (Take first) (Notices first notices) before in
        let push = quiet_shard index (Push first notices) reply taken quiet bounded there in
        quiet_then before taken (with_taken index first notices reply before) (quiet_realm (Take first) (Notices first notices) before refl push.there) push

    pub quiet_taken : (index first : ℕ) (notices : List Notice) (reached : ℕ) (before : History)
        → WasThere (with_taken index first notices (Pushed reached) before) → Quiet before (with_taken index first notices (Pushed reached) before)
    quiet_taken index first notices reached before there =
        let taken = with_realm_step (Take first) (Notices first notices) before in
        let counted = (there_before_shard index (Push first notices) (Pushed reached) taken there).legal.0.2 in
        let bounded : IsBounded index (Push first notices) (Pushed reached) taken =
        λ answers within.
        let tells = pushed_tells (shard_account (changed_events (commands final)) (trace_at index before.shards)) (viewed (commands final)) first notices reached answers in
        let due = tells.0 in
        let reached_is = tells.1 in
        omega arith in
        quiet_taking index first notices (Pushed reached) before (record { no_client = λ queue which given. refl; no_items = λ queue items. refl }) bounded there

    -- and such as are not due yet
    pub quiet_gap : (index first : ℕ) (notices : List Notice) (have from : ℕ) (before : History)
        → WasThere (with_taken index first notices (Gap have from) before) → Quiet before (with_taken index first notices (Gap have from) before)
    quiet_gap index first notices have from before there =
        quiet_taking index first notices (Gap have from) before (record { no_client = λ queue which given. refl; no_items = λ queue items. refl }) (λ answers within. within) there

    -- notices that are taken and pushed
    pub quiet_pushes : (index need have : ℕ) (rounds : List Round) (before : History) (reached : ℕ) (after : History)
        → TakesAndPushes index need have rounds before reached after → WasThere after → Quiet before after
    quiet_pushes index need have [] before reached after pushes there = quiet_to before after before pushes.2 (quiet_none before) there
    quiet_pushes index need have (round ∷ rounds) before reached after pushes there =
        let pushed = with_taken index (have + 1) round.notices (Pushed round.position) before in
        let rest = quiet_pushes index need round.position rounds pushed reached after pushes.1 there in
        quiet_then before pushed after (quiet_taken index (have + 1) round.notices round.position before rest.there) rest

    -- and where they are needed
    pub quiet_catching_up : (index need have : ℕ) (before : History) (reached : ℕ) (after : History)
        → CatchesUp index need have before reached after → WasThere after → Quiet before after
    quiet_catching_up index need have before reached after (inl none) there = quiet_to before after before none.2 (quiet_none before) there
    quiet_catching_up index need have before reached after (inr pushes) there =
        let noticed = with_realm_step NoticeAll (Noticed pushes.1) before in
        let rest = quiet_pushes index need have pushes.2 noticed reached after pushes.3 there in
        quiet_then before noticed after (quiet_realm NoticeAll (Noticed pushes.1) before refl rest.there) rest

    -- sections that are fetched
    pub quiet_fetches : (user : UserId) (parts : List FetchedSection) (before : History) → WasThere (with_fetches user parts before)
        → Quiet before (with_fetches user parts before)
    quiet_fetches user [] before there = quiet_none before there
    quiet_fetches user (part ∷ parts) before there =
        let rest = quiet_fetches user parts (with_fetch user before part) there in
        quiet_then before (with_fetch user before part) (with_fetches user (part ∷ parts) before)
        (quiet_realm (Fetch user part.section) (realm_reply.Section part.rows part.at) before refl rest.there) rest

    -- shards that are ticked
    pub quiet_ticks : (moment index : ℕ) (expired : List (List Expired)) (before : History) → WasThere (with_ticks moment index expired before)
        → Quiet before (with_ticks moment index expired before)
    quiet_ticks moment index [] before there = quiet_none before there
    quiet_ticks moment index (one ∷ others) before there =
        let ticked = with_shard_step index (Tick moment) (Ticked one) before in
        let rest = quiet_ticks moment (index + 1) others ticked there in
        let tick = quiet_shard index (Tick moment) (Ticked one) before
        (record { no_client = λ queue which given. refl; no_items = λ queue items. refl }) (λ answers within. within) rest.there in
        quiet_then before ticked (with_ticks moment index (one ∷ others) before) tick rest
