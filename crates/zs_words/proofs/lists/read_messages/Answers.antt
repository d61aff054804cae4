use Rattle.std.proofs.Common.{◌≡◌, true, Err, rules, tests}
use Rattle.zs_words.specs.declared.fault.LineFault.TheVariants.{NoMemory}
use Rattle.zs_words.proofs.IdLemmas.{messages_of_ids}
use Rattle.zs_words.proofs.lists.read_messages.Goals as goal

pub returns-in_err-messages_of : goal.returns-in_err-messages_of
returns-in_err-messages_of c =
    let failed : c.from_residual.result ≡ Err NoMemory = search rules in
    let yes : c.is_ids.result ≡ true = search (rules, tests) in
    let ids = c.is_ids.ensures.0 yes in
    rw failed (record {
      value = tt;
      not_a_step = λ other. absurd (cc);
      no_memory = λ _. messages_of_ids c.args.word.now ids.0 ids.1;
    })
