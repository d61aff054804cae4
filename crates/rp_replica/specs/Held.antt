-- What a client holds.
use Rattle.std.specs.Prelude.{ℤ}
use Rattle.ev_types.specs.Sections.{SomeSections}

-- the sections that a client asked for, and the last id that it was told
pub record Held : Type 0 where
  pub sections : SomeSections
  pub last : ℤ
