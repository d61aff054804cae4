use Rattle.std.proofs.Common.{◌∙◌, ◌++◌, ◌∷◌, [], Ok, ap}
use Rattle.std.proofs.lemmas.Fn.{says_at}
use Rattle.ev_apply.proofs.Loops.{map_next}
use Rattle.ev_apply.proofs.event_writes.push_each.Goals as goal

pub loop-item-preserved : goal.loop-item-preserved
loop-item-preserved g c = λ of makes.
    let item = c.item-item.result in
    let made = makes item (Ok c.in_ok-make.field-0) (says_at g.F.Fn c.make.ensures c.in_ok-make.was) in
    map_next c.args.items.now c.loop-item.item-index item c.loop-item-test.true c.item-item.is of c.args.writes.now.items c.loop-item.writes.items c.push.new.self.items
    (c.loop-item.invariant of makes) (c.in_ok-push.ensures.items ∙ ap (λ w. c.loop-item.writes.items ++ w ∷ []) made)
