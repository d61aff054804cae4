use Rattle.std.proofs.Common.{◌≡◌, ◌∙◌, None, rules}
use Rattle.zw_traces.specs.FetchedSections.{part_of}
use Rattle.rg_flow.proofs.FlowLemmas.{found_place, no_place}
use Rattle.rg_flow.proofs.flow.put_part.Goals as goal

pub returns-in-Some-clause-parts : goal.returns-in-Some-clause-parts
returns-in-Some-clause-parts c =
    found_place c.args.part c.args.parts.now.items c.in-Some.at (search rules)

pub returns-in_ok-push-in-None-clause-parts : goal.returns-in_ok-push-in-None-clause-parts
returns-in_ok-push-in-None-clause-parts c =
    let added = no_place c.args.part c.args.parts.now.items (search rules) in
    c.in_ok-push-in-None.ensures.items ∙ added.0

pub returns-in_err-push-in-None-clause-refused : goal.returns-in_err-push-in-None-clause-refused
returns-in_err-push-in-None-clause-refused c =
    let added = no_place c.args.part c.args.parts.now.items (search rules) in
    let none : part_of c.args.part.section c.args.parts.now.items ≡ None = added.1 in
    search rules
