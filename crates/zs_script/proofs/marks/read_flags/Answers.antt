use Rattle.std.proofs.Common.{◌≡◌, Err, rules}
use Rattle.zs_words.specs.Lists.{IsMessages}
use Rattle.zs_words.specs.Names.{IsFlag, IsOperation}
use Rattle.zs_script.proofs.Failing.{word, three_last}
use Rattle.zs_script.proofs.marks.read_flags.Goals as goal

pub returns-in_err-messages : goal.returns-in_err-messages
returns-in_err-messages c =
    let failed : c.from_residual.result ≡ Err c.in_err-messages.field-0.0 = search rules in
    let operation : IsOperation (word c.args.words.now 0) c.in-Some-Some.operation = search rules in
    let flag : IsFlag (word c.args.words.now 1) c.in-Some-Some.flag = search rules in
    rw failed (three_last IsOperation IsFlag IsMessages _ c.args.words.now c.in_err-messages.field-0.0 c.in-Some-Some.operation c.in-Some-Some.flag c.in-len3.len_at_least c.in-len3.len_below operation flag c.in_err-messages.ensures)
