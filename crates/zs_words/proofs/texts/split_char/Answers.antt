use Rattle.std.proofs.Common.{◌<◌, ◌∷◌, [], ◌++◌, ◌∙◌, length, IsUtf8, sym, subst, arith, lit<}
use Rattle.std.proofs.lemmas.Bool.{false≢true}
use Rattle.std.proofs.lemmas.List.{length-append}
use Rattle.zs_words.proofs.TextLemmas.{begins_here, begins_more, no_char_none, no_char_more, four_bytes, cut_short}
use Rattle.zs_words.proofs.texts.split_char.Goals as goal

pub loop-init : goal.loop-init
loop-init c = rw c.new-bytes.ensures (begins_here c.args.word.now, no_char_none, omega arith, omega arith)

pub returns-in_default : goal.returns-in_default
returns-in_default c =
    cut_short c.args.word.now c.loop.bytes.items c.loop.rest.now c.loop.invariant.0 c.loop.invariant.1 c.loop.invariant.2 c.in_default.ensures

pub push-requires : goal.push-requires
push-requires c =
    let small : length c.loop.bytes.items < 4 = omega (arith, c.loop.invariant.3, c.loop-test.true) in
    (lit< tt, small)

pub loop-preserved : goal.loop-preserved
loop-preserved c =
    let bytes = c.loop.bytes.items in
    let begins = begins_more c.args.word.now bytes c.loop.rest.now (c.in-Some.byte ∷ []) c.in-Some.next.now c.loop.invariant.0 c.in-Some.ensures in
    let bad = λ (utf8 : IsUtf8 (bytes ++ c.in-Some.byte ∷ [])). false≢true (c.if-is_utf8.ensures.1 (subst IsUtf8 (sym (c.deref.ensures.0 ∙ c.push.ensures.items)) utf8)) in
    let more = no_char_more bytes c.in-Some.byte c.loop.invariant.1 bad in
    let long = length-append bytes (c.in-Some.byte ∷ []) in
    rw c.push.ensures.items (begins, more, omega arith, omega (arith, c.loop.invariant.3))

pub returns : goal.returns
returns c =
    four_bytes c.args.word.now c.loop.bytes.items c.loop.rest.now c.loop.invariant.0 c.loop.invariant.1 (omega (arith, c.loop.invariant.3, c.loop-test.false))
