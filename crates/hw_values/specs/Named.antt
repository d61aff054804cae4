-- What lists of names ask for.
use Rattle.std.specs.Prelude.{ℕ, Bool, List, bytes_eq, find, Option}
use Rattle.std.specs.List.{filter_map, list_any}
use Rattle.ev_types.specs.Feeders.{kind_name}
use Rattle.ev_types.specs.declared.kind.EventKind.{EventKind}
use Rattle.ev_types.specs.declared.section.Section.{Section}
use Rattle.zs_words.specs.Names.{fetch_name, kinds}

-- the kind of event that has a name
abbrev pub kind_of : List ℕ → Option EventKind
kind_of name = find (λ kind. bytes_eq (kind_name kind) name) kinds

-- the kinds that names name, in their order; other names name none
unfoldable pub kinds_named : List (List ℕ) → List EventKind
kinds_named names = filter_map kind_of names

-- one of the names is that by which the section is fetched
abbrev pub is_named : List (List ℕ) → Section → Bool
is_named names section = list_any (λ name. bytes_eq name (fetch_name section)) names
