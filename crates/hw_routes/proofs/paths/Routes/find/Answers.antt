use Rattle.std.proofs.Common.{◌∙◌}
use Rattle.hw_routes.proofs.PathTexts.{no_path, path_of_text}
use Rattle.hw_routes.proofs.paths.Routes.find.Goals as goal

pub returns-in-Ok : goal.returns-in-Ok
returns-in-Ok c =
    c.value_at.ensures
    ∙ path_of_text c.self.inside.router c.in-Ok.text.now c.args.path.now c.self.invariant c.in-Ok.ensures.cases.0 c.in-Ok.ensures.cases.1

pub returns-in-Err : goal.returns-in-Err
returns-in-Err c = no_path c.args.path.now c.in-Err.ensures.cases.0
