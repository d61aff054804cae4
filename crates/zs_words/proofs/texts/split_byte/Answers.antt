use Rattle.zs_words.proofs.TextLemmas.{begins_byte}
use Rattle.zs_words.proofs.texts.split_byte.Goals as goal

pub returns-else-first-eq37 : goal.returns-else-first-eq37
returns-else-first-eq37 c = begins_byte c.args.word.now c.in_ok-first.rest.now c.in_ok-first.first.now c.in_ok-first.ensures.cases.0 c.if-first-eq37.false
