-- Queues that are opening or live.
use Rattle.std.proofs.Common.{◌≡◌, Bool, true, false, cond, refl}
use Rattle.std.proofs.lemmas.Bool.{false≢true}
use Rattle.zw_traces.specs.Account.{Phase, unopened, opening, live, gone, is_opening_phase, is_live_phase, is_held_phase}

-- a queue that is still held didn't end
pub held_again : (test : Bool) (at : Phase) → is_held_phase (cond test gone at) ≡ true → (test ≡ false) × (is_held_phase at ≡ true)
held_again true at is = absurd (false≢true is)
held_again false at is = (refl, is)

pub live_is_held : (at : Phase) → is_live_phase at ≡ true → is_held_phase at ≡ true
live_is_held live is = refl
live_is_held unopened is = absurd (false≢true is)
live_is_held opening is = absurd (false≢true is)
live_is_held gone is = absurd (false≢true is)

pub opening_is_held : (at : Phase) → is_opening_phase at ≡ true → is_held_phase at ≡ true
opening_is_held opening is = refl
opening_is_held unopened is = absurd (false≢true is)
opening_is_held live is = absurd (false≢true is)
opening_is_held gone is = absurd (false≢true is)

pub live_again : (test : Bool) (at : Phase) → is_live_phase (cond test gone at) ≡ true → (test ≡ false) × (is_live_phase at ≡ true)
live_again true at is = absurd (false≢true is)
live_again false at is = (refl, is)
