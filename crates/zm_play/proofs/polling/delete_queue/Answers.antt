use Rattle.std.proofs.Common.{refl}
use Rattle.zm_play.proofs.Steps.{user_goes}
use Rattle.zm_play.proofs.polling.delete_queue.Goals as goal

pub returns-in-Deleted-clause-continues : goal.returns-in-Deleted-clause-continues
returns-in-Deleted-clause-continues c = λ moment. user_goes _ _ c.args.user _ _ _ _ c.serving-shard.ensures.index c.serving-shard.ensures.below
    c.in-Deleted.ensures.reply c.in-Deleted.ensures.represents (λ before served. record { fed = tt; parted = tt; served = served }) (λ before. refl)

pub returns-in-BadQueue-clause-continues : goal.returns-in-BadQueue-clause-continues
returns-in-BadQueue-clause-continues c = λ moment. user_goes _ _ c.args.user _ _ _ _ c.serving-shard.ensures.index c.serving-shard.ensures.below
    c.in-BadQueue.ensures.reply c.in-BadQueue.ensures.represents (λ before served. record { fed = tt; parted = tt; served = served }) (λ before. refl)
