use Rattle.std.proofs.Common.{refl}
use Rattle.zm_play.specs.Flows.Extends.{rests, asks_shard}
use Rattle.zm_play.proofs.Steps.{user_goes}
use Rattle.zm_play.proofs.queue_lines.open_queue.Goals as goal

pub returns-in-Opened-clause-continues : goal.returns-in-Opened-clause-continues
returns-in-Opened-clause-continues c = user_goes _ _ c.args.user _ _ _ _
    c.serving-shard.ensures.index c.serving-shard.ensures.below
    c.in-Opened.ensures.reply c.in-Opened.ensures.represents
    (λ before served. record { fed = tt; parted = tt; served = served }) (λ before. refl)

pub returns-in-OpensSpent-clause-continues : goal.returns-in-OpensSpent-clause-continues
returns-in-OpensSpent-clause-continues c = user_goes _ _ c.args.user _ _ _ _
    c.serving-shard.ensures.index c.serving-shard.ensures.below
    c.in-OpensSpent.ensures.reply c.in-OpensSpent.ensures.represents
    (λ before served. record { fed = tt; parted = tt; served = served }) (λ before. refl)

pub returns-in-TooManyQueues-clause-continues : goal.returns-in-TooManyQueues-clause-continues
returns-in-TooManyQueues-clause-continues c = user_goes _ _ c.args.user _ _ _ _
    c.serving-shard.ensures.index c.serving-shard.ensures.below
    c.in-TooManyQueues.ensures.reply c.in-TooManyQueues.ensures.represents
    (λ before served. record { fed = tt; parted = tt; served = served }) (λ before. refl)

pub returns-in-NoMemory-clause-continues : goal.returns-in-NoMemory-clause-continues
returns-in-NoMemory-clause-continues c = user_goes _ _ c.args.user _ _ _ _
    c.serving-shard.ensures.index c.serving-shard.ensures.below
    c.in-NoMemory.ensures.reply c.in-NoMemory.ensures.represents
    (λ before served. record { fed = tt; parted = tt; served = served })
    (λ before. asks_shard _ _ _ rests)
