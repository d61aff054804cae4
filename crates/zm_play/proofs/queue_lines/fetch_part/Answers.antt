use Rattle.std.proofs.Common.{◌≡◌, true, false, ◌∙◌, rules}
use Rattle.std.proofs.lemmas.Result.{err_from_is_err_and}
use Rattle.zs_script.specs.declared.step.Step.TheVariants.{Fetch}
use Rattle.zm_play.proofs.LineSteps.{fetch_is_kept, fetch_is_lost, fetch_is_refused, fetch_unopened, stops_on}
use Rattle.zm_play.proofs.Steps.{is_opening_there}
use Rattle.zm_play.proofs.queue_lines.fetch_part.Goals as goal

pub returns-then-not-is_opening-clause-steps : goal.returns-then-not-is_opening-clause-steps
returns-then-not-is_opening-clause-steps c = λ moment.
    let closed : c.is_opening.result ≡ false = search rules in
    fetch_unopened c.args.world.now c.args.world.now c.args.fetched.now c.forget.new.self moment
    c.args.queue c.args.section
    (λ history represents. is_opening_there c.args.world.now history c.args.queue
    c.is_opening.result represents (c.is_opening.ensures history represents) ∙ closed)
    c.forget.ensures

pub returns-in_err-part-clause-steps : goal.returns-in_err-part-clause-steps
returns-in_err-part-clause-steps c = λ moment.
    let p = err_from_is_err_and c.from_residual.result c.from_residual.ensures.1 in
    rw p.1 (stops_on c.args.world.now c.fetch_one.new.world moment
    (Fetch c.args.queue c.args.section) c.args.fetched.now p.0 c.in_err-part.ensures.continues)

pub returns-in_err-put-in-Some-clause-steps : goal.returns-in_err-put-in-Some-clause-steps
returns-in_err-put-in-Some-clause-steps c = λ moment.
    let p = err_from_is_err_and c.from_residual-in_err-put-in-Some.result
    c.from_residual-in_err-put-in-Some.ensures.1 in
    let opens : c.is_opening.result ≡ true = search rules in
    let fetched = rw c.in-Some.is at c.in_ok-part.ensures.continues in
    rw p.1 (fetch_is_lost c.args.world.now c.fetch_one.new.world c.args.fetched.now c.put.new.self
    moment c.args.queue c.args.section
    (λ history represents. is_opening_there c.args.world.now history c.args.queue
    c.is_opening.result represents (c.is_opening.ensures history represents) ∙ opens)
    c.in-Some.part fetched p.0 c.in_err-put-in-Some.ensures.lost)

pub returns-in_ok-put-in-Some-clause-steps : goal.returns-in_ok-put-in-Some-clause-steps
returns-in_ok-put-in-Some-clause-steps c = λ moment.
    let opens : c.is_opening.result ≡ true = search rules in
    let fetched = rw c.in-Some.is at c.in_ok-part.ensures.continues in
    fetch_is_kept c.args.world.now c.fetch_one.new.world c.args.fetched.now c.put.new.self moment
    c.args.queue c.args.section
    (λ history represents. is_opening_there c.args.world.now history c.args.queue
    c.is_opening.result represents (c.is_opening.ensures history represents) ∙ opens)
    c.in-Some.part fetched c.in_ok-put-in-Some.ensures.put

pub returns-in-None-clause-steps : goal.returns-in-None-clause-steps
returns-in-None-clause-steps c = λ moment.
    let opens : c.is_opening.result ≡ true = search rules in
    let refused = rw c.in-None.is at c.in_ok-part.ensures.continues in
    fetch_is_refused c.args.world.now c.fetch_one.new.world c.args.fetched.now c.args.fetched.now
    moment c.args.queue c.args.section
    (λ history represents. is_opening_there c.args.world.now history c.args.queue
    c.is_opening.result represents (c.is_opening.ensures history represents) ∙ opens) refused
