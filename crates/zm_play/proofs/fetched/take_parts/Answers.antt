use Rattle.std.proofs.Common.{Bool, [], cond, ap, sym, ◌∙◌}
use Rattle.zm_play.specs.Parts.{parts_for}
use Rattle.zm_play.proofs.Steps.{is_opening_there}
use Rattle.zm_play.proofs.fetched.take_parts.Goals as goal

pub returns-then-is_opening-clause-taken : goal.returns-then-is_opening-clause-taken
returns-then-is_opening-clause-taken c = λ history represents.
    let opens = is_opening_there c.args.world.now history c.args.queue c.is_opening.result
    represents (c.is_opening.ensures history represents) ∙ c.if-is_opening.true in
    c.take-parts.ensures.taken ∙ ap
    (λ (b : Bool). cond b (parts_for c.args.queue c.args.fetched.now) []) (sym opens)

pub returns-else-is_opening-clause-taken : goal.returns-else-is_opening-clause-taken
returns-else-is_opening-clause-taken c = λ history represents.
    let closed = is_opening_there c.args.world.now history c.args.queue c.is_opening.result
    represents (c.is_opening.ensures history represents) ∙ c.if-is_opening.false in
    c.from_vec.ensures ∙ c.new.ensures.items
    ∙ ap (λ (b : Bool). cond b (parts_for c.args.queue c.args.fetched.now) []) (sym closed)
