use Rattle.std.proofs.Common.{◌≡◌, ◌-◌, ℕ, Bool, false, cond, Some, None, drop, subst, sym, ap, ◌∙◌, arith}
use Rattle.ev_groups.specs.Places.{closes_all}
use Rattle.ev_groups.proofs.Taking.{place_answered, place_missed}
use Rattle.ev_groups.proofs.closing.taking_place.Goals as goal

pub returns-then-takes_in : goal.returns-then-takes_in
returns-then-takes_in c =
    sym (place_answered c.args.items.now c.loop-later.later c.args.change.now c.index-items-at.result c.takes_in.result c.loop-later-test.true c.loop-later.invariant.0 c.loop-later.invariant.1
    (sym c.closes_flag.ensures ∙ c.if-closes_flag.true) c.takes_in.ensures
    ∙ ap (λ (b : Bool). cond b (Some (c.loop-later.later - 1)) None) c.if-takes_in.true)

pub returns-else-takes_in : goal.returns-else-takes_in
returns-else-takes_in c =
    sym (place_answered c.args.items.now c.loop-later.later c.args.change.now c.index-items-at.result c.takes_in.result c.loop-later-test.true c.loop-later.invariant.0 c.loop-later.invariant.1
    (sym c.closes_flag.ensures ∙ c.if-closes_flag.true) c.takes_in.ensures
    ∙ ap (λ (b : Bool). cond b (Some (c.loop-later.later - 1)) None) c.if-takes_in.false)

pub returns : goal.returns
returns c =
    let start : c.loop-later.later ≡ 0 = omega arith in
    sym (place_missed c.args.items.now c.args.change.now (subst (λ (n : ℕ). closes_all (drop n c.args.items.now) c.args.change.now ≡ false) start c.loop-later.invariant.1))
