use Rattle.std.proofs.Common.{sym, ◌∙◌}
use Rattle.ev_bodies.proofs.Objects.{no_object_read, object_read}
use Rattle.ev_bodies.proofs.reading.object_in.Goals as goal

pub returns-in-Ok : goal.returns-in-Ok
returns-in-Ok c = object_read _ _ c.in-Ok.ensures.ok.0 c.in-Ok.ensures.ok.1 (sym c.is_object.ensures ∙ c.if-is_object.true)

pub returns-in_default : goal.returns-in_default
returns-in_default c = no_object_read _ (c.in-Err.ensures.err (λ full. c.in_default.not-Memory (c.classify.ensures.memory.1 full)))
