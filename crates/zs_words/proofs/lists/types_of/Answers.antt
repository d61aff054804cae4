use Rattle.std.proofs.Common.{◌≡◌, ◌≢◌, ◌==◌, codes, rules, tests}
use Rattle.std.specs.List.{filter_map}
use Rattle.std.proofs.lemmas.Iterator.{items_from_collect}
use Rattle.std.proofs.lemmas.Iterator.Consumers.{YieldsList-at, YieldsList-from_filter_map}
use Rattle.std.proofs.lemmas.Iterator.Splits.{YieldsList-from_slice_split}
use Rattle.zs_words.specs.Lists.{parts_of}
use Rattle.zs_words.proofs.ListLemmas.{kind_of, types_found}
use Rattle.zs_words.proofs.lists.types_of.Goals as goal

pub returns : goal.returns
returns c =
    let other : c.args.word.now ≢ codes "*" = search (rules, tests) in
    let collected = items_from_collect c.collect.result c.collect.ensures.ran
    (YieldsList-from_filter_map _ kind_of
    (YieldsList-at c.filter_map.ensures.source
    (YieldsList-from_slice_split _ (λ byte. byte == 44) c.args.word.now (cc) (cc) (cc) (λ x b q called. search (rules, tests))))
    c.filter_map.ensures.closure (λ x r q k. search (rules, tests))) in
    let found : c.from_vec.result ≡ filter_map kind_of (parts_of c.args.word.now) = search (rules) in
    types_found c.args.word.now c.from_vec.result other found c.requires
