use Rattle.std.proofs.Common.{◌≡◌, ℕ, ◌≤◌, Bool, true, false, ap, sym, subst, ◌∙◌, rules, w64}
use Rattle.std.proofs.lemmas.Int.{to_z-of_z}
use Rattle.std.proofs.lemmas.Bool.{le-ltb}
use Rattle.zw_traces.specs.Account.{count_of, is_below_all, is_live_phase, items_to_give, same_user}
use Rattle.zw_traces.specs.ShardTrace.{AnswersItems}
use Rattle.q_queue.specs.Stored.{held_phase}
use Rattle.q_queue.specs.QueueValue.{QueueValue}
use Rattle.q_queue.proofs.PollLemmas.{polls}
use Rattle.q_queue.proofs.queue.Queue.poll.Goals as goal

pub returns-clause-reply : goal.returns-clause-reply
returns-clause-reply c =
    let a = c.args.self.now.account in
    let signed = to_z-of_z w64 c.args.after c.ranges.after in
    let live : is_live_phase a.phase ≡ true =
    ap (λ (q : QueueValue). is_live_phase q.account.phase) (sym c.self.view_is) ∙ ap (λ (live : Bool). is_live_phase (held_phase live)) c.if-not-self.false in
    let same : same_user c.args.owner c.args.asker ≡ true = search rules in
    let count_is : c.count_of-count.result ≡ count_of c.args.after = c.count_of-count.ensures ∙ ap count_of signed in
    let sent = subst (λ (q : QueueValue). count_of c.args.after ≤ q.account.given) c.self.view_is (subst (λ (n : ℕ). n ≤ c.self.inside.given) count_is c.if-self-count.false) in
    let old = subst (λ (q : QueueValue). q.account.pruned ≤ count_of c.args.after) c.self.view_is (subst (λ (n : ℕ). c.self.inside.pruned ≤ n) count_is c.if-count-self.false) in
    let above_all : is_below_all c.args.after ≡ false = sym (c.is_below_all.ensures ∙ ap is_below_all signed) ∙ c.if-is_below_all.false in
    polls c.args.owner a c.args.reached c.args.asker c.args.after c.args.beat c.answer.result live same
    (le-ltb a.given (count_of c.args.after) sent) above_all (le-ltb (count_of c.args.after) a.pruned old)
    (subst (λ (n : ℕ). AnswersItems c.args.owner a c.args.reached (items_to_give n c.args.beat a) c.answer.result) count_is (c.answer.ensures.reply c.args.owner))
