use Rattle.std.proofs.Common.{refl}
use Rattle.zm_play.specs.Flows.Extends.{rests, asks_realm}
use Rattle.zm_play.proofs.Steps.{realm_goes}
use Rattle.zm_play.proofs.committing.commit.Goals as goal

pub returns-in-Committed-clause-continues : goal.returns-in-Committed-clause-continues
returns-in-Committed-clause-continues c = realm_goes _ _ _ _ _ _ c.in-Committed.ensures.reply c.in-Committed.ensures.represents (λ before at answers. (c.in-Committed.made, refl, refl, refl))

pub returns-in-Refused-clause-continues : goal.returns-in-Refused-clause-continues
returns-in-Refused-clause-continues c = realm_goes _ _ _ _ _ _ c.in-Refused.ensures.reply c.in-Refused.ensures.represents (λ before at answers. refl)

pub returns-in-NoMemory-clause-continues : goal.returns-in-NoMemory-clause-continues
returns-in-NoMemory-clause-continues c = realm_goes _ _ _ _ _ _ c.in-NoMemory.ensures.reply c.in-NoMemory.ensures.represents (λ before at answers. asks_realm _ _ rests)
