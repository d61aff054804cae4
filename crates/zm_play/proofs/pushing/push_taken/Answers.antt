use Rattle.std.proofs.Common.{refl}
use Rattle.zm_play.specs.Flows.Extends.{rests, asks_shard}
use Rattle.zm_play.proofs.Steps.{shard_goes}
use Rattle.zm_play.proofs.pushing.push_taken.Goals as goal

pub returns-in-Pushed-clause-continues : goal.returns-in-Pushed-clause-continues
returns-in-Pushed-clause-continues c = shard_goes _ _ _ _ _ _ _ c.requires.index c.in-Pushed.ensures.reply c.in-Pushed.ensures.represents
    (λ before at. record { fed = at.holds; parted = tt; served = tt }) (λ before at answers. refl)

pub returns-in-Gap-clause-continues : goal.returns-in-Gap-clause-continues
returns-in-Gap-clause-continues c = shard_goes _ _ _ _ _ _ _ c.requires.index c.in-Gap.ensures.reply c.in-Gap.ensures.represents
    (λ before at. record { fed = at.holds; parted = tt; served = tt }) (λ before at answers. refl)

pub returns-in-NoMemory-clause-continues : goal.returns-in-NoMemory-clause-continues
returns-in-NoMemory-clause-continues c = shard_goes _ _ _ _ _ _ _ c.requires.index c.in-NoMemory.ensures.reply c.in-NoMemory.ensures.represents
    (λ before at. record { fed = at.holds; parted = tt; served = tt }) (λ before at answers. asks_shard _ _ _ rests)
