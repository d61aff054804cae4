use Rattle.std.proofs.Common.{◌∙◌, ap}
use Rattle.ev_apply.specs.Walking.{order_to_last}
use Rattle.ev_apply.proofs.WalkLemmas.{order_in_ring}
use Rattle.ev_apply.proofs.walk.Walk.order_to_last.Goals as goal

pub returns-in-Some : goal.returns-in-Some
returns-in-Some g c =
    c.cmp.ensures
    ∙ order_in_ring g.K.Ord.cmp c.args.key.now c.self.inside.ring.items _ c.self.inside.left c.in-Some.row.now c.self.inside.ring.ok.0 c.self.invariant c.if-self-gt0.true c.in-Some.ensures.lookup
    ∙ ap (λ (walk : _). order_to_last g.K.Ord.cmp c.args.key.now walk.left) c.self.view_is
