use Rattle.std.proofs.Common.{◌-◌, ◌<◌, ◌++◌, ◌∙◌, List, length, refl, ap, sym, subst}
use Rattle.std.proofs.lemmas.Result.{err_from_is_err_and}
use Rattle.zw_traces.specs.declared.shard.FetchedSection.{FetchedSection}
use Rattle.rg_flow.specs.FlowValue.{FlowValue}
use Rattle.rg_flow.specs.Flows.{with_part}
use Rattle.zm_text.specs.Playing.{sections}
use Rattle.zm_play.specs.Flows.{Any, Continues}
use Rattle.zm_play.proofs.FetchFlow.{FetchesThese, fetched_all, fetched_more, fetched_none, fetching_stops, none_fetched}
use Rattle.zm_play.proofs.NeededOrder.{AreFirst, fewer_left, goes_on_with, is_missing, is_whole, put_last, still_first}
use Rattle.zm_play.proofs.fetching.fetch_needed.Goals as goal

pub loop-section-init : goal.loop-section-init
loop-section-init c = record {
  shards = refl;
  same = refl;
  first = record {
    rest = c.args.flow.now.asked;
    split = ap (λ (list : List FetchedSection). sections list ++ c.args.flow.now.asked) (sym c.requires.none);
  };
  continues = none_fetched c.args.user c.args.world.now c.args.flow.now.parts c.requires.none;
}

pub returns-in_err-part-clause-continues : goal.returns-in_err-part-clause-continues
returns-in_err-part-clause-continues c =
    let p = err_from_is_err_and c.from_residual.result c.from_residual.ensures.1 in
    rw p.1 (fetching_stops c.args.user _ _ c.loop-section.flow.parts c.loop-section.invariant.continues _ c.in_err-part.ensures.continues)

pub loop-section-smaller : goal.loop-section-smaller
loop-section-smaller c =
    let so_far = c.loop-section.invariant in
    let missing = is_missing c.args.flow.now c.loop-section.flow c.args.have so_far.same c.in-Fetch.section (sym c.need.ensures ∙ c.in-Fetch.is) in
    let own = rw c.in-Some.is at c.in_ok-part.ensures.section in
    let parts_are = ap (λ (f : FlowValue). f.parts) c.put.ensures in
    subst (λ (list : List FetchedSection). length c.args.flow.now.asked - length list < length c.args.flow.now.asked - length c.loop-section.flow.parts) (sym parts_are)
    (fewer_left c.args.flow.now.asked c.loop-section.flow.parts c.requires.in_order so_far.first c.in-Fetch.section c.in-Some.part missing own)

pub loop-section-preserved : goal.loop-section-preserved
loop-section-preserved c =
    let so_far = c.loop-section.invariant in
    let parts = c.loop-section.flow.parts in
    let part = c.in-Some.part in
    let missing = is_missing c.args.flow.now c.loop-section.flow c.args.have so_far.same c.in-Fetch.section (sym c.need.ensures ∙ c.in-Fetch.is) in
    let own = rw c.in-Some.is at c.in_ok-part.ensures.section in
    let one = rw c.in-Some.is at c.in_ok-part.ensures.continues in
    let parts_are = ap (λ (f : FlowValue). f.parts) c.put.ensures in
    let last = put_last c.args.flow.now.asked parts c.requires.in_order so_far.first c.in-Fetch.section part missing own in
    record {
      shards = c.in_ok-part.ensures.shards ∙ so_far.shards;
      same = c.put.ensures ∙ ap (λ (f : FlowValue). record f { parts = with_part part parts }) so_far.same
          ∙ ap (λ (list : List FetchedSection). record c.args.flow.now { parts = list }) (sym parts_are);
      first = subst (λ (list : List FetchedSection). AreFirst c.args.flow.now.asked list) (sym parts_are)
          (still_first c.args.flow.now.asked parts c.requires.in_order so_far.first c.in-Fetch.section part missing own);
      continues = subst (λ (list : List FetchedSection). Continues c.args.world.now c.fetch_one.new.world Any (FetchesThese c.args.user list)) (sym (parts_are ∙ last))
          (fetched_more c.args.user _ _ parts so_far.continues _ c.in-Fetch.section part one);
    }

pub returns-in-None-clause-continues : goal.returns-in-None-clause-continues
returns-in-None-clause-continues c =
    let so_far = c.loop-section.invariant in
    let parts = c.loop-section.flow.parts in
    let missing = is_missing c.args.flow.now c.loop-section.flow c.args.have so_far.same c.in-Fetch.section (sym c.need.ensures ∙ c.in-Fetch.is) in
    let next = goes_on_with c.args.flow.now.asked parts c.requires.in_order so_far.first c.in-Fetch.section missing in
    let one = rw c.in-None.is at c.in_ok-part.ensures.continues in
    fetched_none c.args.user _ _ parts so_far.continues _ c.args.flow.now.asked c.in-Fetch.section next.0 next.1 one

pub returns : goal.returns
returns c =
    let so_far = c.loop-section.invariant in
    let whole = is_whole c.args.flow.now c.loop-section.flow c.args.have so_far.same c.requires.in_order so_far.first
    (λ which is. c.in_default.not-Fetch which (c.need.ensures ∙ is)) in
    record {
      same = so_far.same;
      continues = fetched_all c.args.user _ _ c.args.flow.now.asked c.loop-section.flow.parts whole so_far.continues;
      shards = so_far.shards;
    }
