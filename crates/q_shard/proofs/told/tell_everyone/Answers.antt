use Rattle.std.proofs.Common.{◌≡◌, ℕ, ◌+◌, Some, ap, sym, ◌∙◌, arith, List, length, slice_get, suc}
use Rattle.indexmap.specs.IndexMap.{set_value_at}
use Rattle.indexmap.specs.Layout.{length-set_value_at}
use Rattle.std.proofs.lemmas.Map.Made.{lookup-map_values}
use Rattle.std.specs.Map.{lookup}
use Rattle.ev_base.specs.declared.ids.UserId.{UserId}
use Rattle.zw_traces.specs.Account.{same_user}
use Rattle.q_shard.specs.Hearing.{HeardParts, with_part}
use Rattle.q_shard.proofs.LoopLemmas.{changed_all, changed_next, changed_to}
use Rattle.q_shard.proofs.told.tell_everyone.Goals as goal

pub loop-at-preserved : goal.loop-at-preserved
loop-at-preserved c =
    let change : UserId × HeardParts → UserId × HeardParts = λ entry. (entry.0, with_part c.args.place c.args.event.now entry.1) in
    let k = c.pair_mut-heard.result.0.now in
    let v = c.pair_mut-heard.result.1.now in
    let at : slice_get (changed_to change c.loop-at.at c.args.told.now.entries) c.loop-at.at ≡ Some (k, v) =
    ap (λ (list : List (UserId × HeardParts)). slice_get list c.loop-at.at) (sym c.loop-at.invariant.entries) ∙ c.pair_mut-heard.ensures.value in
    let next : suc c.loop-at.at ≡ c.loop-at.at + 1 = omega arith in
    record {
      entries = ap (λ (list : List (UserId × HeardParts)). set_value_at list c.loop-at.at c.add.new.self) c.loop-at.invariant.entries
          ∙ changed_next change c.loop-at.at c.args.told.now.entries k v c.add.new.self at (ap (λ (heard : HeardParts). (k, heard)) (sym c.in_ok-add.ensures))
          ∙ ap (λ (count : ℕ). changed_to change count c.args.told.now.entries) next;
      long = length-set_value_at c.loop-at.told.entries c.loop-at.at c.add.new.self ∙ c.loop-at.invariant.long;
    }

pub returns : goal.returns
returns c =
    let change : UserId × HeardParts → UserId × HeardParts = λ entry. (entry.0, with_part c.args.place c.args.event.now entry.1) in
    let all : c.loop-at.at ≡ length c.args.told.now.entries = omega (arith, c.loop-at-test.false, c.loop-at.auto.at-end, c.len-at-end.ensures.len) in
    let entries = c.loop-at.invariant.entries ∙ ap (λ (count : ℕ). changed_to change count c.args.told.now.entries) all ∙ changed_all change c.args.told.now.entries in
    λ user. ap (lookup (same_user user)) entries ∙ lookup-map_values (with_part c.args.place c.args.event.now) (same_user user) c.args.told.now.entries
