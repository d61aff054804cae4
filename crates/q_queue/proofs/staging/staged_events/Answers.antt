use Rattle.std.proofs.Common.{◌+◌, [], ◌∷◌, ap, ◌∙◌, arith, length-append}
use Rattle.q_queue.proofs.TailLemmas.{one_more}
use Rattle.ev_groups.specs.Groups.{with_event}
use Rattle.q_queue.proofs.staging.staged_events.Goals as goal

pub loop-event-preserved : goal.loop-event-preserved
loop-event-preserved c =
    let event = c.in-Some.event in
    let before = c.loop-event.invariant in
    let next_is = before.next_is in
    let long = length-append c.loop-event.yielded (event ∷ []) in
    let more = c.in_ok-stage.ensures in
    record {
      from_within = more.from;
      items_are = more.items ∙ ap (λ list. with_event list (c.loop-event.staged.next + 1, event)) before.items_are
          ∙ one_more c.args.open_items.now c.args.used c.loop-event.staged.next c.loop-event.yielded event next_is;
      next_is = omega (arith, long, next_is, more.next);
    }
