-- Steps that settle: done again they change nothing, also with others in between.
use Rattle.std.specs.Prelude.{◌≡◌}

-- where a step comes again, at once or after another, its earlier coming may be left out
pub record Settles {C W : Type 0} (step : C → W → C) : Type 0 where
  pub again : (c : C) (w : W) → step (step c w) w ≡ step c w
  pub past : (c : C) (w between : W) → step (step (step c w) between) w ≡ step (step c between) w
