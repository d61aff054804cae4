use Rattle.std.proofs.Common.{◌≡◌, ◌∙◌, Some, if◌then◌else◌, ap, rules}
use Rattle.ev_types.specs.declared.section.Section.{Section}
use Rattle.ev_types.specs.OneSection.{rows_of, same_section}
use Rattle.ev_types.proofs.SectionLemmas.{same_section_is}
use Rattle.ev_types.specs.Sections.{sections_of}
use Rattle.rg_flow.specs.Placed.{own_section}
use Rattle.rg_flow.proofs.Parts.{is_put, not_put}
use Rattle.rg_flow.proofs.finished.place.Goals as goal

pub returns-then-not-is_asked : goal.returns-then-not-is_asked
returns-then-not-is_asked c = λ which.
    not_put c.args.asked.now which c.args.part.section (Some c.args.part.rows) (rows_of which (sections_of c.args.state.now)) (search rules)

pub returns : goal.returns
returns c = λ which.
    let old = rows_of which (sections_of c.args.state.now) in
    let own : own_section c.args.part.rows ≡ c.args.part.section = same_section_is _ _ (search rules) in
    c.with_section.ensures.own which
    ∙ ap (λ (section : Section). if same_section which section then Some c.args.part.rows else old) own
    ∙ is_put c.args.asked.now which c.args.part.section (Some c.args.part.rows) old (search rules)
