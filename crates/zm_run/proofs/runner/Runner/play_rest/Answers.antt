use Rattle.std.proofs.Common.{◌≢◌, [], length, ap, ◌==◌, ◌∙◌}
use Rattle.std.proofs.lemmas.Bool.{false≢true}
use Rattle.zm_run.proofs.Playing.{rest_played}
use Rattle.zm_run.proofs.runner.Runner.play_rest.Goals as goal

pub returns-clause-played : goal.returns-clause-played
returns-clause-played c = λ left lines written no_feed spent played.
    let some : c.args.rest.now ≢ [] = λ none. false≢true (c.if-is_empty.ensures ∙ ap (λ xs. length xs == 0) none) in
    let line = c.play_line.ensures in
    rest_played c.play_line.result c.args.self.now c.play_line.new.self lines written c.args.rest.now left some no_feed spent played
    line.played line.bad line.stopped line.output
