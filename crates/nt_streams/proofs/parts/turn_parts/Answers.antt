use Rattle.std.proofs.Common.{◌∙◌, ◌++◌, ap}
use Rattle.ev_laws.proofs.Loops.{joined}
use Rattle.nt_streams.specs.StreamParts.{turn_parts}
use Rattle.nt_streams.proofs.parts.turn_parts.Goals as goal

pub returns : goal.returns
returns c =
    joined _ _ _ _ _ (joined _ _ _ _ _ c.in_ok-push_finder_parts.ensures c.in_ok-push_keeper_parts.ensures) c.in_ok-push_loser_parts.ensures
    ∙ ap (λ parts. parts ++ turn_parts c.args.realm.now.state.tables c.args.turn.now) c.new-parts.ensures.items
