use Rattle.std.proofs.Common.{refl}
use Rattle.zm_play.proofs.Steps.{shard_goes}
use Rattle.zm_play.proofs.pushing.locate.Goals as goal

pub returns-clause-continues : goal.returns-clause-continues
returns-clause-continues c = shard_goes _ _ _ _ _ _ _ c.requires.index c.in-At.ensures.reply c.in-At.ensures.represents
    (λ before at. record { fed = tt; parted = tt; served = tt }) (λ before at answers. refl)
