use Rattle.std.proofs.Common.{◌∙◌, codes, ap, ap₂, w64}
use Rattle.std.proofs.lemmas.Int.{to_z-of_z}
use Rattle.serde_json.specs.Data.{object, put}
use Rattle.ev_wire.specs.Bodies.{of_queue, success}
use Rattle.ev_wire.proofs.writing.register_value.Goals as goal

pub returns : goal.returns
returns c =
    let queue = c.args.queue.now in
    let told = c.in_ok-of_queue.ensures ∙ ap (of_queue queue) (c.in_ok-success.ensures ∙ ap success c.in_ok-sections.ensures) in
    let last = rw (to_z-of_z w64 c.args.last_event_id c.ranges.last_event_id) at c.from.ensures in
    let with_last = c.in_ok-with.ensures ∙ ap₂ (put (codes "last_event_id")) last told in
    c.into_value.ensures ∙ ap object (c.in_ok-with-2.ensures ∙ ap₂ (put (codes "zulip_feature_level")) c.number_value.ensures with_last)
