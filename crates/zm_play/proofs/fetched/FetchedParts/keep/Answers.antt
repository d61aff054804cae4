use Rattle.std.proofs.Common.{Option, List, [], cond, ap, ◌∙◌}
use Rattle.std.specs.Option.{unwrap_or}
use Rattle.zw_traces.specs.declared.shard.FetchedSection.{FetchedSection}
use Rattle.zw_traces.specs.Account.{same_queue}
use Rattle.zm_play.specs.Parts.{Kept, parts_for}
use Rattle.zm_play.proofs.Keeping.{value_in}
use Rattle.zm_play.proofs.fetched.FetchedParts.keep.Goals as goal

pub returns-clause-kept : goal.returns-clause-kept
returns-clause-kept c = λ other.
    let same = same_queue c.args.queue other in
    ap (λ (found : Option (List FetchedSection)). unwrap_or found [])
    (c.in_ok-insert.ensures.updates.0 other)
    ∙ value_in same c.args.parts _
    ∙ ap (λ (kept : Kept). cond same c.args.parts (parts_for other kept)) c.self.view_is
