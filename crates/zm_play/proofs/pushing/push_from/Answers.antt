use Rattle.zm_play.specs.Flows.Extends.{rests, asks_realm}
use Rattle.zm_play.proofs.PushRounds.{push_from_goes, taken_numbered}
use Rattle.zm_play.proofs.Steps.{realm_goes}
use Rattle.zm_play.proofs.pushing.push_from.Goals as goal

pub push_taken-requires-clause-numbered : goal.push_taken-requires-clause-numbered
push_taken-requires-clause-numbered c = taken_numbered _ _ c.args.first _ _ c.in-Notices.ensures.reply c.in-Notices.ensures.represents c.requires.ready

pub returns-in-Notices-clause-continues : goal.returns-in-Notices-clause-continues
returns-in-Notices-clause-continues c = λ moment. push_from_goes _ _ c.args.first _ _ c.in-Notices.ensures.reply c.in-Notices.ensures.represents moment c.args.shard _ _ c.push_taken.ensures.continues

pub returns-in-NoMemory-clause-continues : goal.returns-in-NoMemory-clause-continues
returns-in-NoMemory-clause-continues c = λ moment. realm_goes _ _ _ _ _ _ c.in-NoMemory.ensures.reply c.in-NoMemory.ensures.represents (λ before at answers. asks_realm _ _ rests)
