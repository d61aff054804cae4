use Rattle.std.proofs.Common.{refl}
use Rattle.zs_words.proofs.TextLemmas.{utf8_step, utf8_ended, empty_is}
use Rattle.zs_words.proofs.texts.decodes_to_utf8.Goals as goal

pub loop-rest-preserved : goal.loop-rest-preserved
loop-rest-preserved c =
    let step = utf8_step c.loop-rest.rest.now c.in-Some.ensures.0 c.in-Some.next.now c.in-Some.ensures.1 c.in-Some.ensures.2 in
    (λ is. step.0 (c.loop-rest.invariant.0 is), λ is. c.loop-rest.invariant.1 (step.1 is))

pub returns : goal.returns
returns c =
    (λ _. c.loop-rest.invariant.1 (utf8_ended c.loop-rest.rest.now (empty_is c.loop-rest.rest.now c.loop-rest-test.ensures)), λ _. refl)
