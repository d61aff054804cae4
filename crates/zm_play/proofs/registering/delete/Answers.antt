use Rattle.std.proofs.Common.{refl}
use Rattle.zm_play.proofs.Steps.{shard_goes}
use Rattle.zm_play.proofs.registering.delete.Goals as goal

pub returns-clause-continues : goal.returns-clause-continues
returns-clause-continues c = shard_goes _ _ _ _ _ _ _ c.requires.index c.in-Deleted.ensures.reply c.in-Deleted.ensures.represents
    (λ before at. at.holds.may) (λ before at answers. refl)
