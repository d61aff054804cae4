use Rattle.std.proofs.Common.{◌==◌, bytes_eq, rules, tests}
use Rattle.std.proofs.lemmas.Iterator.Search.{any_from_yields_List}
use Rattle.std.proofs.lemmas.Iterator.Splits.{YieldsList-from_slice_split}
use Rattle.zs_words.specs.Names.{fetch_name}
use Rattle.zs_words.proofs.lists.has_fetch_name.Goals as goal

pub returns : goal.returns
returns c =
    any_from_yields_List (λ name. bytes_eq name (fetch_name c.args.section)) _ _ _ c.any.ensures.ran
    (YieldsList-from_slice_split _ (λ byte. byte == 44) c.args.names.now (cc) (cc) (cc) (λ x b q called. search (rules, tests)))
    (λ x b q k. search (rules, tests))
