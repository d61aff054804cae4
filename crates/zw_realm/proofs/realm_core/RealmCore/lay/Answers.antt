-- The notice that a change gives is laid beside the change.
use Rattle.std.proofs.Common.{◌∙◌, ◌+◌, [], ◌∷◌, ◌++◌, length, ap, sym, subst, arith}
use Rattle.zr_types.specs.Checks.{IsChangeOf, WasChecked}
use Rattle.zr_types.specs.declared.command.Command.{Command}
use Rattle.zw_realm.specs.CoreStates.{CoreState}
use Rattle.zw_realm.specs.CoreSteps.{LaysNotice}
use Rattle.zw_realm.proofs.Laying.{counted_after, lays_notice, one_longer, one_more_commit}
use Rattle.zw_realm.proofs.realm_core.RealmCore.lay.Goals as goal

pub invariant_of-self-2 : goal.invariant_of-self-2
invariant_of-self-2 c =
    let old : CoreState = record { realm = c.self.inside.realm.state; notices = c.self.inside.notices.items; announced = c.self.inside.announced } in
    let notice = c.in_ok-notice.notice in
    let after = c.commit_change.new.realm.state in
    let made = c.in_ok-made.made in
    let committed = c.in_ok-made.ensures.accepted in
    let checked = subst (λ (core : CoreState). WasChecked core.realm c.args.change) (sym c.self.view_is) c.requires in
    let commits = c.self.invariant.1 in
    let within = c.self.invariant.2 in
    let more = one_more_commit old c.args.change made after committed checked in
    let longer = ap length (c.push_reserved.ensures.items ∙ ap (λ list. list ++ notice ∷ []) c.in_ok-reserve.ensures.items) ∙ one_longer old.notices notice in (
      counted_after old c.args.change made after committed checked c.self.invariant.0,
      omega (arith, commits, more, longer),
      omega (arith, within, longer),
    )

pub returns-clause-ok : goal.returns-clause-ok
returns-clause-ok c =
    let old : CoreState = record { realm = c.self.inside.realm.state; notices = c.self.inside.notices.items; announced = c.self.inside.announced } in
    let notice = c.in_ok-notice.notice in
    let after = c.commit_change.new.realm.state in
    let change = c.args.change in
    let made = c.in_ok-made.made in
    let items = c.push_reserved.ensures.items ∙ ap (λ list. list ++ notice ∷ []) c.in_ok-reserve.ensures.items in
    let number = c.in_ok-notice.ensures.number ∙ ap (λ n. n + 1) c.self.invariant.1 in
    let lays = lays_notice old change made after c.in_ok-made.ensures.accepted notice number c.in_ok-notice.ensures.ends c.in_ok-notice.ensures.tells in
    subst (λ (core : CoreState). (command : Command) → IsChangeOf core.realm command change
    → LaysNotice core change.actor change.moment command made (record { realm = after; notices = c.push_reserved.new.self.items; announced = old.announced }))
    c.self.view_is
    (λ command is. subst (λ list. LaysNotice old change.actor change.moment command made (record { realm = after; notices = list; announced = old.announced })) (sym items) (lays command is))
