use Rattle.q_shard.proofs.ReplyLemmas.{IfOk-more, rows_given}
use Rattle.q_shard.proofs.held.Held.state.Goals as goal

pub returns : goal.returns
returns c =
    rw (← c.self.view_is) (IfOk-more _ _ c.finished_state.result
    (λ state rows. rows_given c.self.inside.queue.account c.args.parts c.asked.result.now c.in_ok-events.events.items state c.asked.ensures c.in_ok-events.ensures rows) c.finished_state.ensures)
