-- Links in memory, as contracts see them.
use Rattle.std.specs.Prelude.{◌≡◌, ℕ, List, length, min, ⊤}
use Rattle.ev_ports.specs.Ports.{faults_after_read, faults_after_write, one_more}
use Rattle.ev_ports.specs.declared.reading.Took.{Took}
use Rattle.ev_ports.specs.declared.reading.Took.TheVariants.{Bytes, End, Failed}
use Rattle.ev_ports.specs.declared.writing.Put.{Put}

-- the bytes left and those written, the room for these, the most bytes that one call moves, the
-- numbers of the calls that fail, and the calls and faults so far
pub record LinkState : Type 0 where
  pub left : List ℕ
  pub held : List ℕ
  pub room : ℕ
  pub piece : ℕ
  pub read_fails : List ℕ
  pub reads : ℕ
  pub write_fails : List ℕ
  pub writes : ℕ
  pub faults : ℕ

-- a link after a read that gave this answer and left these bytes
abbrev pub after_read : LinkState → Took → List ℕ → LinkState
after_read link took left = record {
  left = left;
  held = link.held;
  room = link.room;
  piece = link.piece;
  read_fails = link.read_fails;
  reads = one_more link.reads;
  write_fails = link.write_fails;
  writes = link.writes;
  faults = faults_after_read link.faults took;
}

-- a link after a write that gave this answer, by the bytes held and the room for them
abbrev pub after_write : LinkState → Put → List ℕ → ℕ → LinkState
after_write link put held room = record {
  left = link.left;
  held = held;
  room = room;
  piece = link.piece;
  read_fails = link.read_fails;
  reads = link.reads;
  write_fails = link.write_fails;
  writes = one_more link.writes;
  faults = faults_after_write link.faults put;
}

-- a read takes as many of the bytes left as it may
abbrev pub TakesPiece : Took → ℕ → List ℕ → Type 0
TakesPiece (Bytes n) most left = n ≡ min most (length left)
TakesPiece End most left = ⊤
TakesPiece Failed most left = ⊤
