use Rattle.std.proofs.Common.{◌≡◌, Err, rules}
use Rattle.zs_words.specs.Numbers.{IsUser}
use Rattle.zs_words.specs.Texts.{IsText}
use Rattle.zs_script.proofs.Failing.{two_last}
use Rattle.zs_script.proofs.people.read_user_update.Goals as goal

pub returns-in_err-full_name : goal.returns-in_err-full_name
returns-in_err-full_name c =
    let failed : c.from_residual.result ≡ Err c.in_err-full_name.field-0.0 = search rules in
    rw failed (two_last IsUser IsText _ c.args.words.now c.in_err-full_name.field-0.0 c.in-Some.user c.in-len2.len_at_least c.in-len2.len_below c.in-Some.ensures c.in_err-full_name.ensures)
