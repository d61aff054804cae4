use Rattle.std.proofs.Common.{◌==◌, rules, tests}
use Rattle.std.specs.Option.{is_some}
use Rattle.std.proofs.lemmas.Iterator.Search.{all_from_yields_List}
use Rattle.std.proofs.lemmas.Iterator.Splits.{YieldsList-from_slice_split}
use Rattle.zs_words.specs.Lists.{parts_of}
use Rattle.zs_words.proofs.ListLemmas.{kind_of, tests_kinds}
use Rattle.zs_words.proofs.lists.are_kinds.Goals as goal

pub returns : goal.returns
returns c =
    tests_kinds (parts_of c.args.word.now) c.all.result
    (all_from_yields_List (λ name. is_some (kind_of name)) _ _ c.all.result c.all.ensures.ran
    (YieldsList-from_slice_split _ (λ byte. byte == 44) c.args.word.now (cc) (cc) (cc) (λ x b q called. search (rules, tests)))
    (λ x b q k. search (rules, tests)))
