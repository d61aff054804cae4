use Rattle.std.proofs.Common.{◌≡◌, ◌||◌, true, false, nat_lt, length, ap, sym, ◌∙◌, arith}
use Rattle.std.proofs.lemmas.Bool.{le-ltb, lt-ltb}
use Rattle.zw_traces.specs.Account.{is_over, items_of, max_ids, max_kept}
use Rattle.q_queue.specs.Stored.{staged_of}
use Rattle.q_queue.proofs.AccountLemmas.{is_over_is}
use Rattle.q_queue.proofs.StagedLemmas.{staged_length}
use Rattle.q_queue.proofs.queue.Queue.overruns.Goals as goal

pub returns-then-self-len-gt-MAX_KEPT : goal.returns-then-self-len-gt-MAX_KEPT
returns-then-self-len-gt-MAX_KEPT c =
    let a = staged_of c.self.inside in
    let long = staged_length c.self.inside c.self.invariant in
    let many : nat_lt max_kept (length (items_of a)) ≡ true = lt-ltb _ _ (omega (arith, long, c.len.ensures, c.self.inside.staged.items.ok.0, c.if-self-len-gt-MAX_KEPT.true)) in
    let here = lt-ltb _ _ c.if-self-len-gt-MAX_KEPT.true in
    here ∙ sym (ap (λ test. test || nat_lt max_ids a.next) many) ∙ sym (is_over_is a c.self.invariant.ordered) ∙ ap (λ q. is_over q.staged) c.self.view_is

pub returns-else-self-len-gt-MAX_KEPT : goal.returns-else-self-len-gt-MAX_KEPT
returns-else-self-len-gt-MAX_KEPT c =
    let a = staged_of c.self.inside in
    let long = staged_length c.self.inside c.self.invariant in
    let few : nat_lt max_kept (length (items_of a)) ≡ false = le-ltb _ _ (omega (arith, long, c.len.ensures, c.self.inside.staged.items.ok.0, c.if-self-len-gt-MAX_KEPT.false)) in
    sym (ap (λ test. test || nat_lt max_ids a.next) few) ∙ sym (is_over_is a c.self.invariant.ordered) ∙ ap (λ q. is_over q.staged) c.self.view_is
