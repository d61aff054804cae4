use Rattle.std.proofs.Common.{◌∙◌, ap, arith, subst, sym}
use Rattle.zr_types.specs.Checks.{IsChangeOf}
use Rattle.zr_types.specs.Effects.{after_command}
use Rattle.zr_realm.specs.Stored.{tables_in}
use Rattle.zr_realm.proofs.Outcome.{bytes_fit, commits_fit, kept, outcome, ready}
use Rattle.zr_realm.proofs.realm.Realm.apply.Goals as goal

pub text_bytes-bytes-requires : goal.text_bytes-bytes-requires
text_bytes-bytes-requires c =
    let (command, is) = c.requires.checked in
    let fit = bytes_fit c.args.self.now.state c.args.change command is in
    omega (arith, fit)

pub change-requires-clause-ready : goal.change-requires-clause-ready
change-requires-clause-ready c =
    let state_is = ap (λ value. value.state) c.self.view_is in
    let (command, is) = c.requires.checked in
    ready _ c.args.change command (subst (λ state. IsChangeOf state command c.args.change) (sym state_is) is) c.self.invariant.sorted

pub overflow_add-self : goal.overflow_add-self
overflow_add-self c =
    let state_is = ap (λ value. value.state) c.self.view_is in
    let (command, is) = c.requires.checked in
    let fit = bytes_fit _ c.args.change command (subst (λ state. IsChangeOf state command c.args.change) (sym state_is) is) in
    omega (arith, fit, c.text_bytes-bytes.ensures)

pub overflow_add-self-3 : goal.overflow_add-self-3
overflow_add-self-3 c =
    let state_is = ap (λ value. value.state) c.self.view_is in
    let (command, is) = c.requires.checked in
    let fit = commits_fit _ c.args.change command (subst (λ state. IsChangeOf state command c.args.change) (sym state_is) is) in
    omega (arith, fit)

pub invariant_of-self : goal.invariant_of-self
invariant_of-self c =
    let state_is = ap (λ value. value.state) c.self.view_is in
    let (command, is) = c.requires.checked in
    let after = kept _ c.args.change command (subst (λ state. IsChangeOf state command c.args.change) (sym state_is) is) c.self.invariant.sorted c.self.invariant.sound
    (tables_in c.change.new.self) c.change.ensures c.messages_sent-messages.result c.messages_sent-messages.ensures in
    record { sorted = after.0; sound = after.1 }

pub returns-clause-state : goal.returns-clause-state
returns-clause-state c = λ command is.
    let state_is = ap (λ value. value.state) c.self.view_is in
    outcome _ c.args.change command (subst (λ state. IsChangeOf state command c.args.change) (sym state_is) is) c.self.invariant.sorted.messages
    (tables_in c.change.new.self) c.change.ensures c.messages_sent-messages.result c.text_bytes-bytes.result c.messages_sent-messages.ensures c.text_bytes-bytes.ensures
    ∙ ap (after_command c.args.change.actor c.args.change.moment command) state_is
