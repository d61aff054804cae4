-- Sources and sinks over std's readers and writers, as contracts see them.
use Rattle.std.specs.Prelude.{ℕ, List, take, Option, refl}
use Rattle.std.specs.Coded.{Coded, code_by, coded×, coded_ℕ}
use Rattle.std.specs.Io.KnownBytes.{Keeps, Appends, Consumes, IsAtEnd}
use Rattle.ev_ports.specs.declared.reading.Took.{Took}
use Rattle.ev_ports.specs.declared.reading.Took.TheVariants.{Bytes, End, Failed}
use Rattle.ev_ports.specs.declared.writing.Put.{Put}
use Rattle.ev_ports.specs.declared.writing.Put.TheVariants.{Wrote, Failed as PutFailed}

-- a reader or writer of std, with a count of its faults
pub record Counted (T : Type 0) : Type 0 where
  pub inner : T
  pub faults : ℕ

-- it is stored as a pair
abbrev pub counted_code : {T : Type 0} → Coded T → Coded (Counted T)
counted_code {T} code =
    code_by (T × ℕ) (coded× code coded_ℕ) (λ c. (c.inner, c.faults)) (λ p. record { inner = p.0; faults = p.1 }) (λ _. refl)

-- a read takes from std's reader what it answers, and at a fault nothing
abbrev pub PassesRead : Took → Option (List ℕ) → List ℕ → Option (List ℕ) → Type 0
PassesRead (Bytes n) old into new = Consumes old new (take n into)
PassesRead End old into new = Keeps old new × IsAtEnd new
PassesRead Failed old into new = Keeps old new

-- a write hands std's writer what it answers, and at a fault nothing
abbrev pub PassesWrite : Put → Option (List ℕ) → List ℕ → Option (List ℕ) → Type 0
PassesWrite (Wrote n) old bytes new = Appends old new (take n bytes)
PassesWrite PutFailed old bytes new = Keeps old new
