use Rattle.std.proofs.Common.{◌≡◌, Err, rules}
use Rattle.zs_words.specs.Numbers.{IsMessage}
use Rattle.zs_words.specs.Texts.{IsText}
use Rattle.zs_script.proofs.Failing.{two_last}
use Rattle.zs_script.proofs.posts.read_edit_content.Goals as goal

pub returns-in_err-content : goal.returns-in_err-content
returns-in_err-content c =
    let failed : c.from_residual.result ≡ Err c.in_err-content.field-0.0 = search rules in
    rw failed (two_last IsMessage IsText _ c.args.words.now c.in_err-content.field-0.0 c.in-Some.message c.in-len2.len_at_least c.in-len2.len_below c.in-Some.ensures c.in_err-content.ensures)
