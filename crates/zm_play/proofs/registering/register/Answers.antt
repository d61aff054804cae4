use Rattle.std.proofs.Common.{◌∙◌, ap, sym, subst}
use Rattle.rg_flow.specs.FlowValue.{FlowValue}
use Rattle.zs_script.specs.Scripts.{AreInOrder}
use Rattle.zm_play.proofs.RegisterFlow.{register_goes, register_ready, register_refused}
use Rattle.std.proofs.lemmas.Result.{err_from_is_err_and}
use Rattle.zm_play.proofs.Steps.{stays}
use Rattle.zm_play.proofs.registering.register.Goals as goal

pub fill-requires-clause-in_order : goal.fill-requires-clause-in_order
fill-requires-clause-in_order c =
    let asked_is = ap (λ (f : FlowValue). f.asked) c.in_ok-flow.ensures ∙ c.as_slice.ensures in
    subst AreInOrder (sym asked_is) c.requires.in_order

pub fill-requires-clause-none : goal.fill-requires-clause-none
fill-requires-clause-none c = ap (λ (f : FlowValue). f.parts) c.in_ok-flow.ensures

pub fill-requires-clause-ready : goal.fill-requires-clause-ready
fill-requires-clause-ready c =
    let asked_is = ap (λ (f : FlowValue). f.asked) c.in_ok-flow.ensures ∙ c.as_slice.ensures in
    let seen_is = ap (λ (f : FlowValue). f.seen) c.in_ok-flow.ensures ∙ c.commits.ensures in
    let opens = rw c.in-Opened.is at c.in_ok-refused.ensures.continues in
    register_ready _ _ c.args.moment c.args.user c.args.types c.args.asked c.in_ok-flow.flow c.in-Opened.queue c.in-Opened.position
    asked_is seen_is opens c.requires.ready

pub returns-in-Opened-clause-continues : goal.returns-in-Opened-clause-continues
returns-in-Opened-clause-continues c =
    let asked_is = ap (λ (f : FlowValue). f.asked) c.in_ok-flow.ensures ∙ c.as_slice.ensures in
    let seen_is = ap (λ (f : FlowValue). f.seen) c.in_ok-flow.ensures ∙ c.commits.ensures in
    let opens = rw c.in-Opened.is at c.in_ok-refused.ensures.continues in
    register_goes _ _ c.args.moment c.args.user c.args.types c.args.asked c.in_ok-flow.flow c.in-Opened.queue c.in-Opened.position
    asked_is seen_is opens _ _ c.fill.ensures.continues

pub returns-in_default-clause-continues : goal.returns-in_default-clause-continues
returns-in_default-clause-continues c =
    register_refused _ _ c.args.moment c.args.user c.args.types c.args.asked c.in_ok-refused.refused c.in_default.not-Opened c.in_ok-refused.ensures.continues

pub returns-in_err-flow-clause-continues : goal.returns-in_err-flow-clause-continues
returns-in_err-flow-clause-continues c =
    let p = err_from_is_err_and c.from_residual.result c.from_residual.ensures.1 in
    rw p.1 (stays c.args.world.now)
