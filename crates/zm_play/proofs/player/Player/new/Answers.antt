use Rattle.zm_play.proofs.LineSteps.{opens_with, standing_anew}
use Rattle.zm_play.proofs.player.Player.new.Goals as goal

pub invariant_of-result : goal.invariant_of-result
invariant_of-result c = standing_anew c.in_ok-new.field-0 c.new-2.result 1 c.in_ok-new.ensures
    c.new-2.ensures

pub returns-clause-shards : goal.returns-clause-shards
returns-clause-shards c = opens_with c.in_ok-new.field-0 1 c.in_ok-new.ensures
