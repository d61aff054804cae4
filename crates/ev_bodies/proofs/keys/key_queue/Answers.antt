use Rattle.std.proofs.Common.{◌≡◌, true, false, Option, Some, None, is_some, refl}
use Rattle.uuid.specs.Text.{parsed}
use Rattle.ev_bodies.specs.Keys.{queue_in}
use Rattle.ev_bodies.proofs.keys.key_queue.Goals as goal

never : {A : Type 0} (o : Option A) → (((x : A) × (o ≡ Some x)) → ⊥) → is_some o ≡ false
never None none = refl
never (Some x) none = absurd (none (x, refl))

differ : false ≡ true → ⊥
differ e = cc

pub returns-in-Err : goal.returns-in-Err
unfolding queue_in
returns-in-Err c =
    let text = c.in_ok-text.text.now in
    let none : is_some (parsed text) ≡ false = never (parsed text) (λ some. differ (c.in-Err.ensures.ok.1 some)) in
    rw (c.in_ok-text.ensures, none) refl
