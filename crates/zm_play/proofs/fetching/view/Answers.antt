use Rattle.std.proofs.Common.{List, fold, ap, sym, subst, ◌∙◌}
use Rattle.std.proofs.lemmas.Result.{err_from_is_err_and}
use Rattle.zw_traces.specs.declared.shard.FetchedSection.{FetchedSection}
use Rattle.rg_flow.specs.FlowValue.{FlowValue}
use Rattle.rg_flow.specs.Placed.{no_sections}
use Rattle.zs_script.specs.Scripts.{AreInOrder}
use Rattle.zs_script.proofs.FetchOrder.{all_in_order}
use Rattle.zm_play.specs.States.{with_part}
use Rattle.zm_play.proofs.FetchFlow.{view_goes}
use Rattle.zm_play.proofs.Steps.{stays}
use Rattle.zm_play.proofs.fetching.view.Goals as goal

pub fetch_needed-requires-clause-in_order : goal.fetch_needed-requires-clause-in_order
fetch_needed-requires-clause-in_order c =
    subst AreInOrder (sym (ap (λ (f : FlowValue). f.asked) c.in_ok-flow.ensures)) all_in_order

pub fetch_needed-requires-clause-none : goal.fetch_needed-requires-clause-none
fetch_needed-requires-clause-none c = ap (λ (f : FlowValue). f.parts) c.in_ok-flow.ensures

pub returns-then-all-clause-continues : goal.returns-then-all-clause-continues
returns-then-all-clause-continues c = λ moment.
    let asked_is = ap (λ (f : FlowValue). f.asked) c.in_ok-flow.ensures in
    let all = rw c.if-all.true at c.in_ok-all.ensures.continues in
    let these = rw asked_is at all in
    view_goes _ _ c.args.user _ c.commits.result c.state_of.result c.commits.ensures
    (c.state_of.ensures ∙ ap (λ (list : List FetchedSection). fold with_part no_sections list) (c.into_vec.ensures ∙ c.into_parts.ensures)) these

pub returns-clause-continues : goal.returns-clause-continues
returns-clause-continues c = λ moment.
    let asked_is = ap (λ (f : FlowValue). f.asked) c.in_ok-flow.ensures in
    let all = rw c.if-all.false at c.in_ok-all.ensures.continues in
    rw asked_is at all

pub returns-in_err-flow-clause-continues : goal.returns-in_err-flow-clause-continues
returns-in_err-flow-clause-continues c = λ moment.
    let p = err_from_is_err_and c.from_residual.result c.from_residual.ensures.1 in
    rw p.1 (stays c.args.world.now)
