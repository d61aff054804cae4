use Rattle.zm_play.proofs.Turns.{steps_played, steps_stand, steps_stopped}
use Rattle.zm_play.proofs.player.Player.play.Goals as goal

pub invariant_of-self : goal.invariant_of-self
invariant_of-self c = steps_stand c.self.inside.world c.play_step.new.world c.self.inside.fetched
    c.play_step.new.fetched c.self.inside.moment c.args.step c.play_step.result
    c.play_step.ensures.steps c.self.invariant

pub returns-clause-played : goal.returns-clause-played
returns-clause-played c = rw (← c.self.view_is, c.next_moment-self-inside.ensures)
    (steps_played c.self.inside.world c.play_step.new.world c.self.inside.fetched
    c.play_step.new.fetched c.self.inside.moment c.args.step c.play_step.result
    c.play_step.ensures.steps)

pub returns-clause-stopped : goal.returns-clause-stopped
returns-clause-stopped c = rw (← c.self.view_is)
    (steps_stopped c.self.inside.world c.play_step.new.world c.self.inside.fetched
    c.play_step.new.fetched c.self.inside.moment c.args.step c.play_step.result
    c.play_step.ensures.steps)
