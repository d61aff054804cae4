use Rattle.std.proofs.Common.{◌≡◌, Err, rules}
use Rattle.zs_words.specs.Names.{IsNameField}
use Rattle.zs_words.specs.Numbers.{IsStream}
use Rattle.zs_words.specs.Texts.{IsText}
use Rattle.zs_script.proofs.Failing.{word, three_last}
use Rattle.zs_script.proofs.streams.read_stream_update.Goals as goal

pub returns-in_err-value : goal.returns-in_err-value
returns-in_err-value c =
    let failed : c.from_residual.result ≡ Err c.in_err-value.field-0.0 = search rules in
    let stream : IsStream (word c.args.words.now 0) c.in-Some-Some.stream = search rules in
    let property : IsNameField (word c.args.words.now 1) c.in-Some-Some.property = search rules in
    rw failed (three_last IsStream IsNameField IsText _ c.args.words.now c.in_err-value.field-0.0 c.in-Some-Some.stream c.in-Some-Some.property c.in-len3.len_at_least c.in-len3.len_below stream property c.in_err-value.ensures)
