use Rattle.std.proofs.Common.{ap, ◌∙◌}
use Rattle.ev_types.proofs.AudienceLemmas.{heard_more, unheard_more}
use Rattle.ev_types.proofs.notice.Notice.events_for.Goals as goal
use Rattle.ev_types.proofs.notice.Notice.events_for.Goals.{then-has+in_ok-copied+in_ok-push, else-has}

pub loop-part-preserved : goal.loop-part-preserved
loop-part-preserved c = elim c.if-has.branch [
  | then-has+in_ok-copied+in_ok-push w ↦
      ap (λ events. events.items) w.events-is
      ∙ w.in_ok-push.ensures.items
      ∙ heard_more c.args.user c.as_slice-part-items.result.now c.loop-part.part-index c.part-item.result c.loop-part-test.true c.part-item.is c.loop-part.events.items c.loop-part.invariant w.in_ok-copied.field-0 w.in_ok-copied.ensures w.if-has.ensures
  | else-has w ↦
      ap (λ events. events.items) w.events-is
      ∙ unheard_more c.args.user c.as_slice-part-items.result.now c.loop-part.part-index c.part-item.result c.loop-part-test.true c.part-item.is c.loop-part.events.items c.loop-part.invariant w.if-has.ensures
]
