use Rattle.std.proofs.Common.{◌≡◌, ◌-◌, ◌≤◌, drop, length, take, ap, sym, subst, ◌∙◌, arith, take-append-drop}
use Rattle.std.proofs.lemmas.List.{take_rest}
use Rattle.zw_traces.specs.Account.{above, after_handing_out, greatest_id, items_of, not_above, with_moment}
use Rattle.zw_traces.specs.KeptAccount.{without_pruned}
use Rattle.zw_traces.specs.IsKept.{IsKept}
use Rattle.q_queue.specs.QueueValue.{QueueValue}
use Rattle.q_queue.specs.Stored.{account_of}
use Rattle.q_queue.proofs.PollLemmas.{handed_out, handed_out_kept}
use Rattle.q_queue.proofs.StagedLemmas.{nothing_stored}
use Rattle.q_queue.proofs.queue.Queue.hand_out.Goals as goal

-- the account afterwards, and that it is kept
whole : (c : goal.After-drop-self-inside) → (account_of (record {
  is_live = c.self.inside.is_live;
  types = c.self.inside.types;
  asked = c.self.inside.asked;
  position = c.self.inside.position;
  next = c.self.inside.next;
  items = c.drop-drain.new.self.0;
  cut = c.len-self-inside.result;
  given = c.greatest_id-self-inside-2.result;
  pruned = c.greatest_id-self-inside.result;
  last = c.max-self-inside.result;
  staged = c.nothing.result;
}) ≡ without_pruned (with_moment c.args.moment (after_handing_out c.args.count (account_of c.self.inside))))
    × IsKept (without_pruned (with_moment c.args.moment (after_handing_out c.args.count (account_of c.self.inside))))
whole c =
    let a = account_of c.self.inside in
    let xs = c.self.inside.items.items in
    let k = c.count_up_to-acknowledged.result in
    let kept = c.self.invariant.kept in
    let old = subst (λ (q : QueueValue). q.account.pruned ≤ c.args.count) (sym c.self.view_is) c.requires.pruned in
    let sent = subst (λ (q : QueueValue). c.args.count ≤ q.account.given) (sym c.self.view_is) c.requires.given in
    let read = c.deref.ensures.value in
    let stored : items_of a ≡ xs = take-append-drop c.self.inside.cut xs in
    let first : take k xs ≡ not_above c.args.count xs = ap (take k) (sym read) ∙ c.count_up_to-acknowledged.ensures.first ∙ ap (not_above c.args.count) read in
    let others : drop k xs ≡ above c.args.count xs = ap (drop k) (sym read) ∙ c.count_up_to-acknowledged.ensures.others ∙ ap (above c.args.count) read in
    let rest : c.drop-drain.new.self.0.items ≡ drop k xs = c.drop-drain.ensures.items ∙ c.drain.ensures.kept in
    let pruned_is : c.greatest_id-self-inside.result ≡ greatest_id a.pruned (take k xs) =
    c.greatest_id-self-inside.ensures ∙ ap (λ list. greatest_id a.pruned (take k list)) c.deref-2.ensures.value in
    let given_is : c.greatest_id-self-inside-2.result ≡ greatest_id a.given (drop k xs) =
    c.greatest_id-self-inside-2.ensures ∙ ap (λ list. greatest_id a.given (take (length list - k) (drop k list))) c.deref-3.ensures.value
    ∙ ap (greatest_id a.given) (take_rest xs k) in
    let long = c.len-self-inside.ensures ∙ c.drop-drain.new.self.0.ok.0 in (
      handed_out a kept c.args.count old sent xs k stored first others c.args.moment c.drop-drain.new.self.0.items c.len-self-inside.result
          c.greatest_id-self-inside-2.result c.greatest_id-self-inside.result c.max-self-inside.result rest long given_is pruned_is c.max-self-inside.ensures,
      handed_out_kept a kept c.args.count old sent xs k stored first others c.args.moment,
    )

pub invariant_of-self : goal.invariant_of-self
invariant_of-self c =
    let long = c.len-self-inside.ensures ∙ c.drop-drain.new.self.0.ok.0 in
    nothing_stored _ (omega (arith, long, c.nothing.ensures.from)) c.nothing.ensures.items c.nothing.ensures.next (subst IsKept (sym (whole c).0) (whole c).1)
    (omega (arith, c.drop-drain.new.self.0.ok))

pub returns : goal.returns
returns c = (whole c).0 ∙ ap (λ q. without_pruned (with_moment c.args.moment (after_handing_out c.args.count q.account))) c.self.view_is
