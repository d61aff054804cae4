use Rattle.std.proofs.Common.{◌≡◌, Err, rules}
use Rattle.zs_words.specs.Numbers.{IsMessage}
use Rattle.zs_words.specs.Texts.{IsText}
use Rattle.zs_script.proofs.Failing.{two_last}
use Rattle.zs_script.proofs.marks.read_reaction_add.Goals as goal

pub returns-in_err-emoji : goal.returns-in_err-emoji
returns-in_err-emoji c =
    let failed : c.from_residual.result ≡ Err c.in_err-emoji.field-0.0 = search rules in
    rw failed (two_last IsMessage IsText _ c.args.words.now c.in_err-emoji.field-0.0 c.in-Some.message c.in-len2.len_at_least c.in-len2.len_below c.in-Some.ensures c.in_err-emoji.ensures)
