use Rattle.std.proofs.Common.{◌==◌, rules, tests}
use Rattle.std.proofs.lemmas.Iterator.Search.{all_from_yields_List}
use Rattle.std.proofs.lemmas.Iterator.Splits.{YieldsList-from_slice_split}
use Rattle.zs_words.specs.Lists.{is_fetch_name}
use Rattle.zs_words.proofs.lists.are_fetch_names.Goals as goal

pub returns : goal.returns
returns c =
    all_from_yields_List is_fetch_name _ _ _ c.all.ensures.ran
    (YieldsList-from_slice_split _ (λ byte. byte == 44) c.args.word.now (cc) (cc) (cc) (λ x b q called. search (rules, tests)))
    (λ x b q k. search (rules, tests))
