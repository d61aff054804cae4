use Rattle.std.proofs.Common.{◌∙◌, ◌++◌, ap, rules}
use Rattle.ev_types.specs.declared.event.UserField.TheVariants as user_field
use Rattle.ev_types.specs.declared.event.Event.TheVariants.{UserChange}
use Rattle.ev_types.specs.Changes.{unless}
use Rattle.ev_laws.proofs.Loops.{joined, joined_last}
use Rattle.ev_laws.proofs.Tests.{roles_alike}
use Rattle.ev_laws.proofs.changing.people.ShownUserChangingUserId.push_changes.Goals as goal

pub returns : goal.returns
returns c =
    let user = c.args.user in
    let old = c.args.before.now in
    let new = c.args.after.now in
    let name = c.in_ok-push_change.ensures (λ value. UserChange user (user_field.FullName value)) (λ value made called. search rules) in
    let role = c.in_ok-push_change-2.ensures (λ value. UserChange user (user_field.Role value)) (λ value made called. search rules) in
    let told_role = role ∙ ap (λ same. c.push_change.new.events.items ++ unless same (UserChange user (user_field.Role new.role))) (roles_alike old.role new.role) in
    let active = c.push_change-3.ensures (λ value. UserChange user (user_field.IsActive value)) (λ value made called. search rules) in
    joined_last _ _ _ _ _ (joined _ _ _ _ _ name told_role) _ active
