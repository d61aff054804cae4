-- The room that is made first leaves the state as it was, and then the change is made in it.
use Rattle.std.proofs.Common.{◌≡◌, ◌∙◌, ap, sym, subst}
use Rattle.zr_types.specs.Checks.{IsChangeOf}
use Rattle.zr_types.specs.Effects.{after_command}
use Rattle.cmd_rules.proofs.CommitLemmas.{made_by_change}
use Rattle.cmd_rules.proofs.commit.commit_change.Goals as goal

pub returns-clause-accepted : goal.returns-clause-accepted
returns-clause-accepted c = λ command is.
    let before = c.args.realm.now.state in
    let change = c.args.change in
    let at_reserve = subst (λ state. IsChangeOf state command change) (sym c.reserve.ensures.state) is in
    let after : c.apply-number.new.self.state ≡ after_command change.actor change.moment command before =
    c.apply-number.ensures.state command at_reserve
    ∙ ap (after_command change.actor change.moment command) c.reserve.ensures.state in
    record {
      accepted = is.accepted;
      state = after;
      number = c.apply-number.ensures.number ∙ ap (λ state. state.commits) after;
      id = c.made_id-id.ensures ∙ made_by_change before command change is;
      changed = c.in_ok-changed.ensures before command is;
    }
