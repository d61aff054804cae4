use Rattle.std.proofs.Common.{◌∙◌, ap, sym, is_eq}
use Rattle.ev_apply.proofs.WalkLemmas.{popped_at}
use Rattle.ev_apply.proofs.walk.Walk.take.Goals as goal

pub returns-then-is_eq-clause-found : goal.returns-then-is_eq-clause-found
returns-then-is_eq-clause-found g c =
    popped_at g.K.Ord.cmp c.args.key.now c.args.self.now.left c.pop.new.self.left c.pop.result c.pop.ensures.left c.pop.ensures.end
    (ap is_eq (sym c.order_to_last.ensures) ∙ sym c.is_eq.ensures ∙ c.if-is_eq.true)
