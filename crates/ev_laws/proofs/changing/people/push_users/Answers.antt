use Rattle.std.proofs.Common.{◌∙◌, ◌++◌, ap, sym, map, rules, append-nil}
use Rattle.std.proofs.lemmas.Result.{IfOk-equal}
use Rattle.ev_types.specs.declared.event.Event.TheVariants.{UserAdd}
use Rattle.ev_laws.proofs.Loops.{joined_last}
use Rattle.ev_laws.proofs.changing.people.push_users.Goals as goal

-- no event tells of a lost user
pub returns : goal.returns
returns c =
    let added = c.in_ok-push_each.ensures (λ row. UserAdd row.0 row.1) (λ item made called. search rules) in
    let new_added = added ∙ ap (λ rows. c.args.events.now.items ++ map (λ row. UserAdd row.0 row.1) rows) c.in_ok-new.ensures in
    IfOk-equal _ _ _ _ (joined_last _ _ _ _ _ new_added _ c.push_kept.ensures) (ap (λ l. c.args.events.now.items ++ l) (sym (append-nil _)))
