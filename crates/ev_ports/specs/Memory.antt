-- Sources and sinks in memory, as contracts see them.
use Rattle.std.specs.Prelude.{◌≡◌, ℕ, List, ◌++◌, length, take, drop, min}
use Rattle.ev_ports.specs.declared.reading.Took.{Took}
use Rattle.ev_ports.specs.declared.reading.Took.TheVariants.{Bytes, End, Failed}

-- a source: the bytes left, the numbers of the reads that fail, and the reads and faults so far
pub record SourceState : Type 0 where
  pub left : List ℕ
  pub fails : List ℕ
  pub calls : ℕ
  pub faults : ℕ

-- a sink: the bytes written, the room for them all, the numbers of the writes that fail, and the
-- writes and faults so far
pub record SinkState : Type 0 where
  pub held : List ℕ
  pub room : ℕ
  pub fails : List ℕ
  pub calls : ℕ
  pub faults : ℕ

-- a read takes as many of the bytes left as fit, and leaves the rest of the slice alone
abbrev pub TakesMost : Took → List ℕ → List ℕ → List ℕ → Type 0
TakesMost (Bytes n) left old new =
    (n ≡ min (length old) (length left)) × (new ≡ take n left ++ drop n old)
TakesMost End left old new = new ≡ old
TakesMost Failed left old new = new ≡ old
