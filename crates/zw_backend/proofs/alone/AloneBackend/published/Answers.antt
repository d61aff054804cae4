use Rattle.std.proofs.Common.{◌≡◌, ◌∙◌}
use Rattle.zw_traces.specs.RealmTrace.{commits}
use Rattle.zw_backend.proofs.OwnSteps.{told_alone}
use Rattle.zw_backend.proofs.alone.AloneBackend.published.Goals as goal

pub returns : goal.returns
returns c = told_alone c.args.pass.now (λ trace. c.commits.result ≡ commits trace) (λ history represents. c.commits.ensures ∙ represents.realm.count)
