use Rattle.zs_words.proofs.TextLemmas.{read_end}
use Rattle.zs_words.proofs.texts.decoded_bytes.Goals as goal

pub returns : goal.returns
returns c =
    read_end c.args.word.now c.loop-byte.bytes.items c.loop-byte.rest.now c.requires.0 c.loop-byte.invariant c.in_default.ensures c.requires.1
