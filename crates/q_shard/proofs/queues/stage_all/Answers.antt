use Rattle.std.proofs.Common.{◌≡◌, ℕ, ◌+◌, Some, refl, flat_map, ap, sym, ◌∙◌, arith, List, length, slice_get, suc}
use Rattle.indexmap.specs.IndexMap.{set_value_at}
use Rattle.indexmap.specs.Layout.{length-set_value_at}
use Rattle.ev_base.specs.declared.ids.QueueId.{QueueId}
use Rattle.ev_types.specs.declared.event.Event.{Event}
use Rattle.ev_types.specs.Audiences.{events_for}
use Rattle.q_shard.specs.Hearing.{events_heard, has_queue}
use Rattle.q_shard.specs.HeldQueues.{HeldQueue, staged_entry, staged_held}
use Rattle.q_shard.proofs.HearingLemmas.{stands}
use Rattle.q_shard.proofs.LoopLemmas.{changed_all, changed_next, changed_to, changed_to_keys, set_account}
use Rattle.q_shard.proofs.queues.stage_all.Goals as goal

pub returns-in_err-stage-clause-accounts : goal.returns-in_err-stage-clause-accounts
returns-in_err-stage-clause-accounts c =
    set_account c.loop-at.queues.entries c.loop-at.at c.pair_mut-held.result.0.now c.pair_mut-held.result.1.now c.stage.new.self c.pair_mut-held.ensures.value c.stage.ensures.account
    ∙ c.loop-at.invariant.accounts

pub loop-at-preserved : goal.loop-at-preserved
loop-at-preserved c =
    let k = c.pair_mut-held.result.0.now in
    let v = c.pair_mut-held.result.1.now in
    let at : slice_get (changed_to (staged_entry c.args.notices.now) c.loop-at.at c.args.queues.now.entries) c.loop-at.at ≡ Some (k, v) =
    ap (λ (list : List (QueueId × HeldQueue)). slice_get list c.loop-at.at) (sym c.loop-at.invariant.entries) ∙ c.pair_mut-held.ensures.value in
    let listed = c.as_slice.ensures ∙ c.keys.ensures.rest ∙ sym (changed_to_keys (staged_entry c.args.notices.now) (λ entry. refl) c.loop-at.at c.args.queues.now.entries) in
    let has = ap (λ queues. has_queue queues k.user) listed ∙ stands (changed_to (staged_entry c.args.notices.now) c.loop-at.at c.args.queues.now.entries) c.loop-at.at k v at in
    let heard : events_heard c.in_ok-told.told.entries k.user ≡ flat_map (events_for k.user) c.args.notices.now = c.in_ok-told.ensures k.user has in
    let staged : c.stage.new.self ≡ staged_held (flat_map (events_for k.user) c.args.notices.now) v = c.in_ok-stage.ensures.ok ∙ ap (λ (events : List Event). staged_held events v) heard in
    let next : suc c.loop-at.at ≡ c.loop-at.at + 1 = omega arith in
    record {
      entries = ap (λ (list : List (QueueId × HeldQueue)). set_value_at list c.loop-at.at c.stage.new.self) c.loop-at.invariant.entries
          ∙ changed_next (staged_entry c.args.notices.now) c.loop-at.at c.args.queues.now.entries k v c.stage.new.self at (ap (λ (held : HeldQueue). (k, held)) (sym staged))
          ∙ ap (λ (count : ℕ). changed_to (staged_entry c.args.notices.now) count c.args.queues.now.entries) next;
      accounts = set_account c.loop-at.queues.entries c.loop-at.at k v c.stage.new.self c.pair_mut-held.ensures.value c.stage.ensures.account ∙ c.loop-at.invariant.accounts;
      long = length-set_value_at c.loop-at.queues.entries c.loop-at.at c.stage.new.self ∙ c.loop-at.invariant.long;
    }

pub returns : goal.returns
returns c =
    let all : c.loop-at.at ≡ length c.args.queues.now.entries = omega (arith, c.loop-at-test.false, c.loop-at.auto.at-end, c.len-at-end.ensures.len) in
    record {
      ok = c.loop-at.invariant.entries ∙ ap (λ (count : ℕ). changed_to (staged_entry c.args.notices.now) count c.args.queues.now.entries) all
          ∙ changed_all (staged_entry c.args.notices.now) c.args.queues.now.entries;
      accounts = c.loop-at.invariant.accounts;
    }
