use Rattle.std.proofs.Common.{sym, ◌∙◌}
use Rattle.std.proofs.lemmas.Str.{IsUtf8-past_char}
use Rattle.ev_base.proofs.TextLemmas.{bad_place-allowed, bad_place-empty, bad_place-refused, place_fits}
use Rattle.ev_base.proofs.text.TextKind.bad_place.Goals as goal

pub returns-then-not-may_have : goal.returns-then-not-may_have
returns-then-not-may_have c =
    let held = c.loop-c.invariant in
    sym (bad_place-refused _ _ _ _ _ held.0 c.in-Some.ensures.steps.0 (sym c.may_have.ensures ∙ c.if-not-may_have.true)) ∙ held.2

pub loop-c-preserved : goal.loop-c-preserved
loop-c-preserved c =
    let held = c.loop-c.invariant in
    let parts = c.in-Some.ensures.steps.0 in (
      IsUtf8-past_char _ _ _ held.0 parts,
      place_fits _ _ _ _ _ parts held.1,
      sym (bad_place-allowed _ _ _ _ _ held.0 parts (sym c.may_have.ensures ∙ c.if-not-may_have.false)) ∙ held.2,
    )

pub returns : goal.returns
returns c =
    let held = c.loop-c.invariant in
    sym (bad_place-empty _ _ _ c.in-None.ensures.steps.0.0) ∙ held.2
