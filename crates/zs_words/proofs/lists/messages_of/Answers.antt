use Rattle.std.proofs.Common.{◌≡◌, ◌==◌, refl, rules, tests}
use Rattle.std.specs.List.{filter_map}
use Rattle.std.proofs.lemmas.Iterator.{items_from_collect}
use Rattle.std.proofs.lemmas.Iterator.Consumers.{YieldsList-at, YieldsList-from_filter_map}
use Rattle.std.proofs.lemmas.Iterator.Splits.{YieldsList-from_slice_split}
use Rattle.zs_words.specs.Lists.{parts_of}
use Rattle.zs_words.specs.Numbers.{IsMessage}
use Rattle.zs_words.specs.Readings.{ReadsIf}
use Rattle.zs_words.proofs.IdLemmas.{message_numbered, message_of, reads_message, ids_found}
use Rattle.zs_words.proofs.lists.messages_of.Goals as goal

pub returns : goal.returns
returns c =
    let collected = items_from_collect c.collect.result c.collect.ensures.ran
    (YieldsList-from_filter_map _ message_of
    (YieldsList-at c.filter_map.ensures.source
    (YieldsList-from_slice_split _ (λ byte. byte == 44) c.args.word.now (cc) (cc) (cc) (λ x b q called. search (rules, tests))))
    c.filter_map.ensures.closure
    (λ x r q k. let reads : ReadsIf (IsMessage x.now) r = search (rules, tests) in (search (rules, tests), reads_message x.now r reads))) in
    let found : c.from_vec.result ≡ filter_map message_of (parts_of c.args.word.now) = search (rules) in
    ids_found (λ message. message.0) message_numbered (λ n. refl) c.args.word.now c.from_vec.result found c.requires
