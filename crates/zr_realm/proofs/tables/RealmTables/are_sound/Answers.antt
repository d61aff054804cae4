use Rattle.std.proofs.Common.{◌∙◌, sym}
use Rattle.zr_realm.specs.Stored.{tables_in}
use Rattle.zr_realm.proofs.SoundLemmas.{sound, tests_pass}
use Rattle.zr_realm.proofs.tables.RealmTables.are_sound.Goals as goal

pub returns-clause-sound : goal.returns-clause-sound
returns-clause-sound c = (
  λ yes. sound (tables_in c.args.self.now) c.args.sent c.tables_rise.ensures (sym c.in_ok-passes.ensures ∙ yes),
  λ it. c.in_ok-passes.ensures ∙ tests_pass (tables_in c.args.self.now) c.args.sent c.tables_rise.ensures it,
)
