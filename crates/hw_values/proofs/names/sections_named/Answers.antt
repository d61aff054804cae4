use Rattle.std.proofs.Common.{◌≡◌, ℕ, List, filter, ap, ◌∙◌}
use Rattle.ev_types.specs.declared.section.Section.{Section}
use Rattle.hw_values.specs.Named.{is_named}
use Rattle.zs_words.specs.Lists.{sections_by}
use Rattle.zs_words.specs.Names.{all_sections}
use Rattle.hw_values.proofs.names.sections_named.Goals as goal

-- of all sections they are those that the names fetch
among_all : (all : List Section) (names : List (List ℕ)) → all ≡ all_sections → filter (is_named names) all ≡ sections_by names
unfolding sections_by
among_all all names same = ap (filter (is_named names)) same

pub returns : goal.returns
returns c = c.from_vec.ensures ∙ (c.in_ok-sections_among.ensures ∙ among_all _ _ c.values.ensures)
