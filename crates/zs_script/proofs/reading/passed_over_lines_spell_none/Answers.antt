use Rattle.zs_script.proofs.Meanings.{passed_over}
use Rattle.zs_script.proofs.reading.passed_over_lines_spell_none.Goals as goal

pub returns : goal.returns
returns c = passed_over
