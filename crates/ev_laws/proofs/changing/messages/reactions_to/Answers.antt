use Rattle.std.proofs.Common.{refl}
use Rattle.ev_base.specs.Orders.{reaction_cmp}
use Rattle.ev_types.specs.Sections.{ReactionKey}
use Rattle.ev_laws.proofs.Ranges.{numbers_rise}
use Rattle.ev_laws.proofs.changing.messages.reactions_to.Goals as goal

pub rows_under-requires : goal.rows_under-requires
rows_under-requires c = numbers_rise reaction_cmp (λ (key : ReactionKey). key.0.0) c.args.reactions.now (λ a b above. rw above refl) c.requires

pub returns : goal.returns
returns c = c.rows_under.ensures
