-- Traces that belong to the realm's, and what their steps tell.
use Rattle.std.proofs.Common.{◌≡◌, ℕ, zero, suc, ◌+◌, ◌<◌, Bool, true, false, cond, List, [], ◌∷◌, ◌++◌, length, Option, None, Some, refl, ap, sym, subst, ◌∙◌, zero-add, add-zero, arith}
use Rattle.ev_types.specs.declared.state.Rows.{Rows}
use Rattle.ev_types.specs.Feeders.{covers}
use Rattle.zw_views.specs.Views.{section_of}
use Rattle.zw_traces.specs.declared.realm.RealmStep.{RealmStep}
use Rattle.zw_traces.specs.declared.shard.ShardInput.TheVariants.{Poll}
use Rattle.zw_traces.specs.declared.shard.ShardReply.{ShardReply}
use Rattle.zw_traces.specs.declared.shard.ShardReply.TheVariants.{Answer, Empty}
use Rattle.zw_traces.specs.declared.shard.ShardStep.{ShardStep}
use Rattle.zw_traces.specs.RealmTrace.{IsLegalRealm, commands, is_active_after, view_after}
use Rattle.zw_traces.specs.ShardTrace.{ShardAnswers, is_asked, position_of, pushed_events, shard_account}
use Rattle.zw_traces.specs.RealmFeeds.{account_over, changed_events, viewed}
use Rattle.zw_traces.specs.Histories.{AllBelong, BelongsTo, trace_at}
use Rattle.zw_traces.proofs.Alike.{same_shard}
use Rattle.zw_traces.proofs.Steps.{answered_tells, empty_tells, finished_tells}
use Rattle.zw_laws.specs.FedHistories.{LegalHistoriesBelong}
use Rattle.zw_laws.specs.Laws.{AnsweredUsersAreActive, EmptyAnswersGiveTheView, FollowersLackItems, IsAnswer, PushedEventsAreTheChanges, RegisteredUsersAreActive, RegistersAreTheView, TakenAnswersGiveTheView, TracesStayLegal}
use Rattle.zw_laws.proofs.ActiveQueues.{finish_active, live_active}
use Rattle.zw_laws.proofs.Announced.{pushed_alike}
use Rattle.zw_laws.proofs.FedSteps.{Feeds-stays, IsParted-stays}
use Rattle.zw_laws.proofs.HistoryTraces.{legal_stays}
use Rattle.zw_laws.proofs.Promises.{empty_view, live_view, taken_view}

-- the steps before some later ones belong to the realm's
pub earlier_belongs : (realm : List RealmStep) (count shard : ℕ) (later trace : List ShardStep) → BelongsTo realm count shard (later ++ trace) → BelongsTo realm count shard trace
earlier_belongs realm count shard [] trace belongs = belongs
earlier_belongs realm count shard (step ∷ later) trace belongs =
    earlier_belongs realm count shard later trace (record { legal = belongs.legal.1; fed = belongs.fed.1; parted = belongs.parted.1; served = belongs.served.1 })

one_more_belongs : (more : RealmStep) (realm : List RealmStep) → IsLegalRealm (more ∷ realm) → (count shard : ℕ) (trace : List ShardStep)
    → BelongsTo realm count shard trace → BelongsTo (more ∷ realm) count shard trace
one_more_belongs more realm legal count shard trace belongs = record {
  legal = legal_stays realm more legal trace belongs.legal belongs.fed;
  fed = Feeds-stays more realm legal trace belongs.fed;
  parted = IsParted-stays more realm trace belongs.parted;
  served = belongs.served;
}

-- and so they do after more steps of the realm
pub traces_stay_legal : TracesStayLegal
traces_stay_legal [] realm count shard trace legal belongs = belongs
traces_stay_legal (more ∷ later) realm count shard trace legal belongs =
    one_more_belongs more (later ++ realm) legal count shard trace (traces_stay_legal later realm count shard trace legal.1 belongs)

all_belong_at : (realm : List RealmStep) (count first shard : ℕ) (traces : List (List ShardStep)) → shard < length traces
    → AllBelong realm count first traces → BelongsTo realm count (first + shard) (trace_at shard traces)
all_belong_at realm count first shard [] below all = absurd (omega (arith, below))
all_belong_at realm count first zero (trace ∷ traces) below all = subst (λ n. BelongsTo realm count n trace) (sym (add-zero first)) all.0
all_belong_at realm count first (suc shard) (trace ∷ traces) below all =
    let same : first + 1 + shard ≡ first + suc shard = omega arith in
    subst (λ n. BelongsTo realm count n (trace_at shard traces)) same (all_belong_at realm count (first + 1) shard traces (omega arith) all.1)

-- each shard's trace of a legal history
pub legal_histories_belong : LegalHistoriesBelong
legal_histories_belong history shard legal below =
    subst (λ n. BelongsTo history.realm (length history.shards) n (trace_at shard history.shards)) (zero-add shard)
    (all_belong_at history.realm (length history.shards) 0 shard history.shards below legal.shards)

pub pushed_events_are_the_changes : PushedEventsAreTheChanges
pushed_events_are_the_changes realm trace legal_realm legal fed =
    same_shard pushed_events (changed_events (commands realm)) trace
    (pushed_alike realm pushed_events Rattle.zw_traces.specs.ShardTrace.given_rows trace legal_realm legal fed)

pub registers_are_the_view : RegistersAreTheView
registers_are_the_view realm count shard later before queue parts state last reached which has covered =
    let belongs = earlier_belongs realm count shard later _ has.1 in
    let a = account_over realm queue before in
    let tells = finished_tells queue.user a (position_of before) (viewed (commands realm)) parts state last reached belongs.legal.0 in
    (tells.rows_are which ∙ go (covers a.types which) (is_asked a which) covered ∙ ap (λ n. shown (is_asked a which) n) (sym tells.reached_is), tells.reached_is)
  where
    shown : Bool → ℕ → Option Rows
    shown asked n = cond asked (Some (section_of which (view_after queue.user n (commands realm)))) None

    go : (covered asked : Bool) → covered ≡ true
        → cond covered (shown asked (position_of before)) (Rattle.zw_traces.specs.ShardTrace.given_rows queue.user (account_over realm queue before) (position_of before) parts which) ≡ shown asked (position_of before)
    go true asked is = refl
    go false asked is = cc

pub registered_users_are_active : RegisteredUsersAreActive
registered_users_are_active realm count shard later before queue parts state last reached which has asked =
    let belongs = earlier_belongs realm count shard later _ has.1 in
    let a = account_over realm queue before in
    let tells = finished_tells queue.user a (position_of before) (viewed (commands realm)) parts state last reached belongs.legal.0 in
    ap (λ n. is_active_after queue.user n (commands realm)) tells.reached_is
    ∙ finish_active realm has.0 queue which before parts belongs.legal.1 belongs.fed.1 belongs.parted.0 tells.was_opening tells.none_missing tells.parts_pushed asked

pub answered_users_are_active : AnsweredUsersAreActive
answered_users_are_active realm count shard later before user queue after moment beat reply reached which has is asked =
    go reply is (earlier_belongs realm count shard later _ has.1)
  where
    go : (reply : ShardReply) → IsAnswer reply reached → BelongsTo realm count shard (record { input = Poll user queue after moment beat; reply = reply } ∷ before)
        → is_active_after queue.user reached (commands realm) ≡ true
    go (Answer list at) is belongs =
        let tells = answered_tells queue.user (account_over realm queue before) (position_of before) user after beat list at belongs.legal.0 in
        ap (λ n. is_active_after queue.user n (commands realm)) (sym is ∙ tells.reached_is)
        ∙ live_active realm has.0 queue which before belongs.legal.1 belongs.fed.1 belongs.parted.1 tells.polling.was_live asked
    go (Empty at) is belongs =
        let tells = empty_tells queue.user (account_over realm queue before) (position_of before) user after beat at belongs.legal.0 in
        ap (λ n. is_active_after queue.user n (commands realm)) (sym is ∙ tells.reached_is)
        ∙ live_active realm has.0 queue which before belongs.legal.1 belongs.fed.1 belongs.parted.1 tells.polling.was_live asked
    go reply is belongs = absurd is

pub taken_answers_give_the_view : TakenAnswersGiveTheView
taken_answers_give_the_view realm count shard later before user queue after moment beat list reached which has step client known =
    let belongs = earlier_belongs realm count shard later _ step.1 in
    taken_view realm step.0 queue which before user after moment beat list reached has belongs.legal belongs.fed.1 client.1 client.2 client.0 known

pub empty_answers_give_the_view : EmptyAnswersGiveTheView
empty_answers_give_the_view realm count shard later before user queue after moment beat reached which has step client known =
    let belongs = earlier_belongs realm count shard later _ step.1 in
    empty_view realm step.0 queue which before user after moment beat reached has belongs.legal belongs.fed.1 client.1 client.2 client.0 known

pub followers_lack_items : FollowersLackItems
followers_lack_items realm count shard arrivals queue which legal_realm belongs lives covered asked =
    let follows = live_view realm legal_realm queue which arrivals belongs.legal belongs.fed covered asked lives in
    (follows.has, follows.given_is, follows.leads)
