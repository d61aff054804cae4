use Rattle.std.proofs.Common.{◌≡◌, IfOk, subst}
use Rattle.nt_streams.specs.StreamParts.{turn_parts}
use Rattle.nt_streams.proofs.streams.stream_parts.Goals as goal

pub returns : goal.returns
returns c =
    subst (λ turn. IfOk c.turn_parts.result (λ parts. parts.items ≡ turn_parts c.args.realm.now.state.tables turn)) c.in_ok-turn.ensures c.turn_parts.ensures
