use Rattle.std.proofs.Common.{rules}
use Rattle.ev_types.specs.declared.event.Event.TheVariants.{MessageEdited}
use Rattle.ev_laws.proofs.changing.messages.ShownMessageChangingMessageId.push_changes.Goals as goal

pub returns : goal.returns
returns c = c.push_change.ensures (λ content. MessageEdited c.args.message content) (λ value made called. search rules)
