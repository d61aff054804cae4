use Rattle.zw_backend.proofs.OwnSteps.{realm_stepped}
use Rattle.zw_backend.proofs.alone.AloneBackend.ask_realm.Goals as goal

pub returns : goal.returns
returns c = realm_stepped c.args.pass.now c.ask_realm.new.self c.args.input c.ask_realm.result c.ask_realm.ensures.reply c.ask_realm.ensures.represents
