use Rattle.std.proofs.Common.{◌≡◌, Err, rules}
use Rattle.zs_words.specs.declared.names.SubProperty.TheVariants as sub
use Rattle.zs_script.proofs.Failing.{no_color}
use Rattle.zs_script.proofs.streams.read_value.Goals as goal

pub returns-in_err-read_text-in-Color : goal.returns-in_err-read_text-in-Color
returns-in_err-read_text-in-Color c =
    let failed : c.from_residual.result ≡ Err c.in_err-read_text-in-Color.field-0.0 = search rules in
    let is : c.args.property ≡ sub.Color = search rules in
    rw failed (no_color c.args.property c.args.word.now c.in_err-read_text-in-Color.field-0.0 is c.in_err-read_text-in-Color.ensures)
