use Rattle.std.proofs.Common.{refl}
use Rattle.zm_play.proofs.Steps.{realm_goes}
use Rattle.zm_play.proofs.committing.announce.Goals as goal

pub returns-clause-continues : goal.returns-clause-continues
returns-clause-continues c = realm_goes _ _ _ _ _ _ c.in-Noticed.ensures.reply c.in-Noticed.ensures.represents (λ before at answers. refl)
