use Rattle.std.proofs.Common.{◌≡◌, None, false, sym, subst, ◌∙◌, arith, rules, w64}
use Rattle.std.proofs.lemmas.Bool.{le-ltb}
use Rattle.zw_traces.specs.ShardTrace.{given_rows}
use Rattle.q_shard.specs.HeldQueues.{HeldQueue}
use Rattle.q_shard.proofs.ReplyLemmas.{finishes_right, opening_if_held}
use Rattle.zw_traces.specs.FetchedSections.{all_sections, first_missing, needed}
use Rattle.std.proofs.Common.{nat_lt, of_z, to_z}
use Rattle.ev_types.specs.declared.section.Section.{Section}
use Rattle.ev_types.specs.OneSection.{rows_of}
use Rattle.ev_types.specs.Sections.{sections_of}
use Rattle.q_shard.proofs.held.Held.finish.Goals as goal

pub returns-clause-reply : goal.returns-clause-reply
returns-clause-reply c =
    let a = c.self.inside.queue.account in
    let opens = opening_if_held a.phase c.is_live.ensures.is_kept.ordered.held (sym c.is_live.ensures.live ∙ c.if-is_live.false) in
    let none : first_missing all_sections a.asked c.args.parts ≡ None =
    (λ i. first_missing all_sections (sym c.asked.ensures i) (sym c.as_slice.ensures i)) ∙ sym c.first_missing.ensures ∙ c.in_default.is in
    let need : needed a.asked c.args.parts ≡ c.needed-need.result =
    (λ i. needed (sym c.asked-2.ensures i) (sym c.as_slice-2.ensures i)) ∙ sym c.needed-need.ensures in
    let pushed : nat_lt c.args.reached (needed a.asked c.args.parts) ≡ false = le-ltb c.args.reached (needed a.asked c.args.parts) (omega (arith, need, c.if-reached-need.false)) in
    let P : HeldQueue → Type 0 = λ held. (which : Section) → rows_of which (sections_of c.in-Ok.state) ≡ given_rows c.args.user held.account c.args.reached c.args.parts which in
    let rows = subst P (sym c.self.view_is) (c.in-Ok.ensures c.args.user c.args.reached) in
    let same : to_z w64 (of_z w64 c.finish.result) ≡ c.finish.result = search rules in
    rw (← c.self.view_is) (finishes_right c.args.user a c.args.reached c.args.parts c.in-Ok.state _ opens none pushed rows (same ∙ c.finish.ensures.last))
