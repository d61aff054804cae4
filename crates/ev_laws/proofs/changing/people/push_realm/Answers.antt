use Rattle.std.proofs.Common.{rules}
use Rattle.ev_types.specs.declared.event.RealmField.TheVariants as realm_field
use Rattle.ev_types.specs.declared.event.Event.TheVariants.{RealmUpdate}
use Rattle.ev_laws.proofs.Loops.{joined_last}
use Rattle.ev_laws.proofs.changing.people.push_realm.Goals as goal

pub returns : goal.returns
returns c =
    let name = c.in_ok-push_change.ensures (λ value. RealmUpdate (realm_field.Name value)) (λ value made called. search rules) in
    let description = c.push_change-2.ensures (λ value. RealmUpdate (realm_field.Description value)) (λ value made called. search rules) in
    joined_last _ _ _ _ _ name _ description
