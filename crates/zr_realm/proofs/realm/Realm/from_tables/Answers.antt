use Rattle.std.proofs.Common.{rules}
use Rattle.zr_realm.proofs.realm.Realm.from_tables.Goals as goal

pub invariant_of-result : goal.invariant_of-result
invariant_of-result c = record { sorted = c.in_ok-are_sound.ensures.sorted; sound = search rules }
