use Rattle.std.proofs.Common.{ap, ◌∙◌, map}
use Rattle.q_shard.specs.Hearing.{heard_events}
use Rattle.q_shard.proofs.HearingLemmas.{heard_row}
use Rattle.q_shard.proofs.told.tell.Goals as goal

pub returns : goal.returns
returns c = λ user has.
    c.in_ok-tell_parts.ensures user (c.in_ok-told.ensures user has)
    ∙ ap (λ list. heard_events user (map (λ part. part.now) list)) c.deref.ensures.value
    ∙ ap (heard_events user) c.in_ok-parts.ensures ∙ heard_row user c.args.notices.now
