use Rattle.std.proofs.Common.{◌≡◌, ◌∙◌, Result, Ok, Err, true, ap, sym, length, arith, rules, tests, ◌==◌}
use Rattle.std.specs.Result.{OnErr, is_err}
use Rattle.std.proofs.lemmas.Bool.{false≢true}
use Rattle.std.proofs.lemmas.Iterator.{YieldsList}
use Rattle.std.proofs.lemmas.Iterator.Consumers.{YieldsList-turn, YieldsList-end}
use Rattle.std.proofs.lemmas.Iterator.Splits.{YieldsList-from_slice_split}
use Rattle.zs_words.specs.Readings.{pointed}
use Rattle.zs_script.specs.Grammar.{words_of}
use Rattle.zs_script.proofs.words.split_words.Given as given
use Rattle.zs_script.proofs.words.split_words.Goals as goal

on_err : {T E : Type 0} (r : Result T E) (P : Type 0) → is_err r ≡ true → OnErr r P → P
on_err (Ok x) P err on = absurd (false≢true err)
on_err (Err e) P err on = on

pub returns-then-is_err : goal.returns-then-is_err
returns-then-is_err c =
    let words : YieldsList (given.iterator-loop-word).next_gives (λ x. x.now) c.into_iter-word-iterator.result (words_of c.args.line.now) = YieldsList-from_slice_split _ (λ byte. byte == 32) c.args.line.now (cc) (cc) (cc) (λ x b q called. search (rules, tests)) in
    let turn = YieldsList-turn words c.loop-word.yielded _ c.loop-word.yielded_by _ _ c.in-Some.word c.in-Some.is c.next.ensures.steps in
    let full = on_err c.try_push.result _ (sym c.is_err.ensures.value ∙ c.if-is_err.true) c.try_push.ensures.full in
    omega (arith, turn.0, full, ap length c.loop-word.invariant.0)

pub returns : goal.returns
returns c =
    let words : YieldsList (given.iterator-loop-word).next_gives (λ x. x.now) c.into_iter-word-iterator.result (words_of c.args.line.now) = YieldsList-from_slice_split _ (λ byte. byte == 32) c.args.line.now (cc) (cc) (cc) (λ x b q called. search (rules, tests)) in
    let end = YieldsList-end words c.loop-word.yielded _ c.loop-word.yielded_by _ _ c.in-None.is c.next.ensures.steps in
    ap pointed c.loop-word.invariant.0 ∙ end.0
