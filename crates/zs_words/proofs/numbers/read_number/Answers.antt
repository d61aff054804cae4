use Rattle.zs_words.proofs.NumberLemmas.{number_utf8}
use Rattle.zs_words.proofs.numbers.read_number.Goals as goal

pub returns-in_default : goal.returns-in_default
returns-in_default c = λ number is. c.in_default.ensures.cases.0 (number_utf8 c.args.word.now number is.0)

pub returns : goal.returns
returns c = rw c.in-Ok.ensures.cases.0 at c.parse_number.ensures
