use Rattle.std.proofs.Common.{refl}
use Rattle.zm_play.specs.Flows.Extends.{rests, asks_shard}
use Rattle.zm_play.proofs.Steps.{shard_goes}
use Rattle.zm_play.proofs.ticking.tick_shard.Goals as goal

pub returns-in-Ticked-clause-continues : goal.returns-in-Ticked-clause-continues
returns-in-Ticked-clause-continues c = shard_goes _ _ _ _ _ _ _ c.requires.index c.in-Ticked.ensures.reply c.in-Ticked.ensures.represents
    (λ before at. record { fed = tt; parted = tt; served = tt }) (λ before at answers. refl)

pub returns-in-NoMemory-clause-continues : goal.returns-in-NoMemory-clause-continues
returns-in-NoMemory-clause-continues c = shard_goes _ _ _ _ _ _ _ c.requires.index c.in-NoMemory.ensures.reply c.in-NoMemory.ensures.represents
    (λ before at. record { fed = tt; parted = tt; served = tt }) (λ before at answers. asks_shard _ _ _ rests)
