use Rattle.std.proofs.Common.{◌-◌, ◌<◌, ◌≤◌, ◌^◌, Bool, List, drop, length, take, inl, inr, ap, sym, subst, ◌∙◌, arith, take-append-drop, refl}
use Rattle.zw_traces.specs.declared.shard.ShardReply.TheVariants.{Answer, NoMemory}
use Rattle.zw_traces.specs.Account.{after_answer, max_ids}
use Rattle.ev_groups.specs.Items.{AllIds, Numbered}
use Rattle.zw_traces.specs.KeptAccount.{without_pruned}
use Rattle.zw_traces.specs.ShardTrace.{AnswersItems}
use Rattle.q_queue.specs.QueueValue.{QueueValue}
use Rattle.q_queue.specs.Stored.{account_of}
use Rattle.ev_groups.proofs.Ids.{ids_weaker}
use Rattle.zw_traces.proofs.KeptQueues.{ids_within}
use Rattle.q_queue.proofs.ItemLemmas.{ids_in_slice}
use Rattle.q_queue.proofs.PollLemmas.{empty_is, gives_beat, heartbeat_is, kept_value, none_left}
use Rattle.q_queue.proofs.queue.Queue.answer.Goals as goal

pub shown_items-requires : goal.shown_items-requires
shown_items-requires c =
    let a = account_of c.self.inside in
    let xs = c.self.inside.items.items in
    let k = c.count_up_to-acknowledged.result in
    let most = c.self.invariant.kept.next_within in
    let all = subst (λ (list : List Numbered). AllIds (λ id. id ≤ a.next) list) (take-append-drop c.self.inside.cut xs) (ids_within a c.self.invariant.kept.ordered) in
    let small = ids_weaker (λ id. id ≤ a.next) (λ id. id < 2 ^ 63) (λ id is. omega (arith, most, is)) xs all in
    subst (λ (list : List Numbered). AllIds (λ id. id < 2 ^ 63) (take (length list - k) (drop k list))) (sym c.deref-then-acknowledged-len.ensures.value)
    (ids_in_slice (λ id. id < 2 ^ 63) xs (length xs - k) k small)

pub returns-then-not-beat-clause-account : goal.returns-then-not-beat-clause-account
returns-then-not-beat-clause-account c =
    let kept = kept_value c.self.inside _ c.self.view_is c.self.invariant in
    let none = none_left c.self.inside _ c.self.view_is c.args.count c.count_up_to-acknowledged.result c.len.result c.deref.result.now c.deref.ensures.value c.count_up_to-acknowledged.ensures.others c.len.ensures c.if-acknowledged-len.false in
    c.hand_out-then-not-beat.ensures ∙ empty_is c.args.self.now.account kept c.args.count c.requires.pruned c.requires.given none c.args.moment

pub returns-in-Ok-give_heartbeat-clause-reply : goal.returns-in-Ok-give_heartbeat-clause-reply
returns-in-Ok-give_heartbeat-clause-reply c = λ user.
    let kept = kept_value c.self.inside _ c.self.view_is c.self.invariant in
    let none = none_left c.self.inside _ c.self.view_is c.args.count c.count_up_to-acknowledged.result c.len.result c.deref.result.now c.deref.ensures.value c.count_up_to-acknowledged.ensures.others c.len.ensures c.if-acknowledged-len.false in
    let within = subst (λ (q : QueueValue). q.account.next < max_ids) c.self.view_is c.if-self-ge-MAX_IDS.false in
    let gives = gives_beat c.args.self.now.account kept c.args.count c.requires.pruned c.requires.given none within c.args.beat c.if-not-beat.false in
    subst (λ (list : List Numbered). AnswersItems user c.args.self.now.account c.args.reached list (Answer c.in-Ok-give_heartbeat.items c.args.reached)) (sym gives)
    (inl (ap (λ list. Answer list c.args.reached) c.in-Ok-give_heartbeat.ensures.list))

pub returns-in-Ok-give_heartbeat-clause-account : goal.returns-in-Ok-give_heartbeat-clause-account
returns-in-Ok-give_heartbeat-clause-account c =
    let kept = kept_value c.self.inside _ c.self.view_is c.self.invariant in
    let none = none_left c.self.inside _ c.self.view_is c.args.count c.count_up_to-acknowledged.result c.len.result c.deref.result.now c.deref.ensures.value c.count_up_to-acknowledged.ensures.others c.len.ensures c.if-acknowledged-len.false in
    let within = subst (λ (q : QueueValue). q.account.next < max_ids) c.self.view_is c.if-self-ge-MAX_IDS.false in
    c.in-Ok-give_heartbeat.ensures.account
    ∙ heartbeat_is c.args.self.now.account kept c.args.count c.requires.pruned c.requires.given none within c.args.moment
    ∙ ap (λ (beat : Bool). without_pruned (after_answer c.args.count beat c.args.moment c.args.self.now.account)) (sym c.if-not-beat.false)

pub returns-in-Err-clause-reply : goal.returns-in-Err-clause-reply
returns-in-Err-clause-reply c = λ user.
    let kept = kept_value c.self.inside _ c.self.view_is c.self.invariant in
    let none = none_left c.self.inside _ c.self.view_is c.args.count c.count_up_to-acknowledged.result c.len.result c.deref.result.now c.deref.ensures.value c.count_up_to-acknowledged.ensures.others c.len.ensures c.if-acknowledged-len.false in
    let within = subst (λ (q : QueueValue). q.account.next < max_ids) c.self.view_is c.if-self-ge-MAX_IDS.false in
    let gives = gives_beat c.args.self.now.account kept c.args.count c.requires.pruned c.requires.given none within c.args.beat c.if-not-beat.false in
    subst (λ (list : List Numbered). AnswersItems user c.args.self.now.account c.args.reached list NoMemory) (sym gives) (inr refl)
