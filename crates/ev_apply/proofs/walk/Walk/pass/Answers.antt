use Rattle.std.proofs.Common.{◌<◌, ◌-◌, ap, arith, length, length-drop}
use Rattle.ev_apply.proofs.WalkLemmas.{ring_passes}
use Rattle.ev_apply.proofs.walk.Walk.pass.Goals as goal

pub returns-clause-rows : goal.returns-clause-rows
returns-clause-rows g c =
    let ring = c.self.inside.ring in
    let left = c.self.inside.left in
    let long = ap (λ walk. length walk.left) c.self.view_is in
    let some : 0 < left = omega (arith, c.requires, long, length-drop (ring.len - left) ring.items) in
    rw (c.rotate_right.ensures.items, c.rotate_right.ensures.len, ← (ap (λ walk. walk.left) c.self.view_is), ← (ap (λ walk. walk.passed) c.self.view_is))
    (ring_passes ring.items ring.len left ring.ok.0 c.self.invariant some)
