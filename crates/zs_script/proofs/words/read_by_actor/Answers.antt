use Rattle.std.proofs.Common.{◌≡◌, Err, refl, rules}
use Rattle.zs_words.specs.Numbers.{IsUser}
use Rattle.zs_script.proofs.Failing.{word, no_command}
use Rattle.zs_script.proofs.words.read_by_actor.Goals as goal

pub returns-in_err-read_command : goal.returns-in_err-read_command
returns-in_err-read_command c =
    let failed : c.from_residual.result ≡ Err c.in_err-read_command.field-0.0 = search rules in
    let actor : IsUser (word c.args.words.now 0) c.in-Some.actor = search rules in
    rw failed (no_command c.args.name c.args.words.now _ c.in_err-read_command.field-0.0 c.in-Some.actor c.in-len1-up.len_at_least refl actor c.in_err-read_command.ensures)
