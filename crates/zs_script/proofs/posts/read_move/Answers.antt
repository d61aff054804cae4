use Rattle.std.proofs.Common.{◌≡◌, Err, rules}
use Rattle.zs_words.specs.Names.{IsMode}
use Rattle.zs_words.specs.Numbers.{IsMessage, IsStream}
use Rattle.zs_words.specs.Texts.{IsText}
use Rattle.zs_script.proofs.Failing.{word, four_third}
use Rattle.zs_script.proofs.posts.read_move.Goals as goal

pub returns-in_err-topic : goal.returns-in_err-topic
returns-in_err-topic c =
    let failed : c.from_residual.result ≡ Err c.in_err-topic.field-0.0 = search rules in
    let message : IsMessage (word c.args.words.now 0) c.in-Some-Some-Some.message = search rules in
    let stream : IsStream (word c.args.words.now 1) c.in-Some-Some-Some.stream = search rules in
    let mode : IsMode (word c.args.words.now 3) c.in-Some-Some-Some.mode = search rules in
    rw failed (four_third IsMessage IsStream IsText IsMode _ c.args.words.now c.in_err-topic.field-0.0 c.in-Some-Some-Some.message c.in-Some-Some-Some.stream c.in-Some-Some-Some.mode c.in-len4.len_at_least c.in-len4.len_below message stream mode c.in_err-topic.ensures)
