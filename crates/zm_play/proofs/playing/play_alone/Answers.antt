use Rattle.zm_play.proofs.playing.play_alone.Goals as goal

pub returns-in-Push-clause-continues : goal.returns-in-Push-clause-continues
returns-in-Push-clause-continues c = rw c.in-Push.is (c.push.ensures.continues c.args.moment)

pub returns-in-PushFrom-clause-continues : goal.returns-in-PushFrom-clause-continues
returns-in-PushFrom-clause-continues c = rw c.in-PushFrom.is
    (c.push_from.ensures.continues c.args.moment)

pub returns-in-DeleteQueue-clause-continues : goal.returns-in-DeleteQueue-clause-continues
returns-in-DeleteQueue-clause-continues c = rw c.in-DeleteQueue.is
    (c.delete_queue.ensures.continues c.args.moment)

pub returns-in-View-clause-continues : goal.returns-in-View-clause-continues
returns-in-View-clause-continues c = rw c.in-View.is (c.view.ensures.continues c.args.moment)

pub returns-in-Register-clause-continues : goal.returns-in-Register-clause-continues
returns-in-Register-clause-continues c = rw c.in-Register.is c.register.ensures.continues
