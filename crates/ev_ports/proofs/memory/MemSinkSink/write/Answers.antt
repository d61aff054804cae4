use Rattle.std.proofs.Common.{◌≡◌, sym, ap}
use Rattle.ev_ports.proofs.memory.MemSinkSink.write.Goals as goal

pub returns-then-next_fails-clause-within_room : goal.returns-then-next_fails-clause-within_room
returns-then-next_fails-clause-within_room c =
    let same : c.args.self.now.fails ≡ c.self.inside.schedule.fails.items = ap (λ sink. sink.fails) (sym c.self.view_is) in
    rw same (λ _ _. c.next_fails.ensures.listed.0 c.if-next_fails.true)
