use Rattle.std.proofs.Common.{◌≡◌, ◌≢◌, length, rules, tests}
use Rattle.zs_script.proofs.StepAnswers.{push_of_one, push_of_others}
use Rattle.zs_script.proofs.queues.read_push.Goals as goal

pub returns-then-words-eq1 : goal.returns-then-words-eq1
returns-then-words-eq1 c =
    let one : length c.args.words.now ≡ 1 = search (rules, tests) in
    push_of_one c.args.setting c.args.words.now c.read_push_all.result one c.read_push_all.ensures

pub returns-else-words-eq1 : goal.returns-else-words-eq1
returns-else-words-eq1 c =
    let others : length c.args.words.now ≢ 1 = search (rules, tests) in
    push_of_others c.args.setting c.args.words.now c.read_push_from.result others c.read_push_from.ensures
