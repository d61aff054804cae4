use Rattle.std.proofs.Common.{◌≡◌, Err, rules}
use Rattle.zs_words.specs.Names.{IsNameField}
use Rattle.zs_words.specs.Texts.{IsText}
use Rattle.zs_script.proofs.Failing.{word, two_last}
use Rattle.zs_script.proofs.people.read_realm_update.Goals as goal

pub returns-in_err-value : goal.returns-in_err-value
returns-in_err-value c =
    let failed : c.from_residual.result ≡ Err c.in_err-value.field-0.0 = search rules in
    let property : IsNameField (word c.args.words.now 0) c.in-Some.property = search rules in
    rw failed (two_last IsNameField IsText _ c.args.words.now c.in_err-value.field-0.0 c.in-Some.property c.in-len2.len_at_least c.in-len2.len_below property c.in_err-value.ensures)
