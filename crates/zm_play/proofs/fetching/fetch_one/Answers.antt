use Rattle.std.proofs.Common.{refl}
use Rattle.zm_play.specs.Flows.Extends.{rests, asks_realm}
use Rattle.zm_play.proofs.Steps.{realm_goes}
use Rattle.zm_play.proofs.fetching.fetch_one.Goals as goal

pub returns-in-Section-clause-continues : goal.returns-in-Section-clause-continues
returns-in-Section-clause-continues c = realm_goes _ _ _ _ _ _ c.in-Section.ensures.reply c.in-Section.ensures.represents (λ before at answers. (refl, refl))

pub returns-in-FetchRefused-clause-continues : goal.returns-in-FetchRefused-clause-continues
returns-in-FetchRefused-clause-continues c = realm_goes _ _ _ _ _ _ c.in-FetchRefused.ensures.reply c.in-FetchRefused.ensures.represents (λ before at answers. refl)

pub returns-in-NoMemory-clause-continues : goal.returns-in-NoMemory-clause-continues
returns-in-NoMemory-clause-continues c = realm_goes _ _ _ _ _ _ c.in-NoMemory.ensures.reply c.in-NoMemory.ensures.represents (λ before at answers. asks_realm _ _ rests)
