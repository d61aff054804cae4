-- What reads and writes do to the bytes that a source has left and a sink holds, and to their faults.
use Rattle.std.specs.Prelude.{◌≡◌, ℕ, ◌+◌, ◌-◌, ◌^◌, ◌<◌, ◌≤◌, min, List, [], ◌++◌, length, take, Option, None, Some, refl}
use Rattle.std.proofs.Common.{append_assoc, append-nil, sym}
use Rattle.ev_ports.specs.declared.reading.Took.{Took}
use Rattle.ev_ports.specs.declared.reading.Took.TheVariants.{Bytes, End, Failed}
use Rattle.ev_ports.specs.declared.writing.Put.{Put}
use Rattle.ev_ports.specs.declared.writing.Put.TheVariants.{Wrote, Failed as PutFailed}
use Rattle.ev_ports.specs.declared.writing.Written.{Written}
use Rattle.ev_ports.specs.declared.writing.Written.TheVariants.{All, Failed as AllFailed}

-- a count after one more; it stands still at the end of its type
abbrev pub one_more : ℕ → ℕ
one_more count = min (count + 1) (2 ^ 64 - 1)

-- a count of faults rose
abbrev pub Rose : ℕ → ℕ → Type 0
Rose before now = one_more before ≤ now

-- a count of faults after a read: one more where it failed
abbrev pub faults_after_read : ℕ → Took → ℕ
faults_after_read faults (Bytes n) = faults
faults_after_read faults End = faults
faults_after_read faults Failed = one_more faults

-- a count of faults after a write: one more where it failed
abbrev pub faults_after_write : ℕ → Put → ℕ
faults_after_write faults (Wrote n) = faults
faults_after_write faults PutFailed = one_more faults

-- the bytes left begin with these and lose them; what isn't known stays unknown
abbrev pub Loses : Option (List ℕ) → List ℕ → Option (List ℕ) → Type 0
Loses None bytes new = new ≡ None
Loses (Some left) bytes None = Some left ≡ None
Loses (Some left) bytes (Some rest) = left ≡ bytes ++ rest

-- the bytes held get these behind them; what isn't known stays unknown
abbrev pub Gains : Option (List ℕ) → List ℕ → Option (List ℕ) → Type 0
Gains None bytes new = new ≡ None
Gains (Some held) bytes None = Some held ≡ None
Gains (Some held) bytes (Some longer) = longer ≡ held ++ bytes

-- nothing is left, as far as it is known
abbrev pub IsSpent : Option (List ℕ) → Type 0
IsSpent None = Unit {0}
IsSpent (Some left) = left ≡ []

-- what a read takes from the bytes left, by its answer and the slice that it filled
abbrev pub Takes : Took → Option (List ℕ) → List ℕ → Option (List ℕ) → Type 0
Takes (Bytes n) old into new = (0 < n) × (n ≤ length into) × Loses old (take n into) new
Takes End old into new = (new ≡ old) × IsSpent old
Takes Failed old into new = new ≡ old

-- what a write adds to the bytes held, by its answer and the bytes that it was given
abbrev pub Puts : Put → Option (List ℕ) → List ℕ → Option (List ℕ) → Type 0
Puts (Wrote n) old bytes new = (0 < n) × (n ≤ length bytes) × Gains old (take n bytes) new
Puts PutFailed old bytes new = new ≡ old

-- what writing a whole list adds to the bytes held: all of it, or at a fault less than all of it
abbrev pub PutsAll : Written → Option (List ℕ) → List ℕ → Option (List ℕ) → Type 0
PutsAll All old bytes new = Gains old bytes new
PutsAll AllFailed old bytes new = (n : ℕ) × (n < length bytes) × Gains old (take n bytes) new

-- a read of nothing
pub Loses-nothing : (left : Option (List ℕ)) → Loses left [] left
Loses-nothing None = refl
Loses-nothing (Some left) = refl

-- two reads, one after the other
pub Loses-chain :
    (a b c : Option (List ℕ)) (x y : List ℕ) → Loses a x b → Loses b y c → Loses a (x ++ y) c
Loses-chain None None c x y first second = second
Loses-chain None (Some b) c x y first second = cc
Loses-chain (Some a) None c x y first second = cc
Loses-chain (Some a) (Some b) None x y first second = cc
Loses-chain (Some a) (Some b) (Some c) x y first second = rw append_assoc cc

-- a write of nothing
pub Gains-nothing : (held : Option (List ℕ)) → Gains held [] held
Gains-nothing None = refl
Gains-nothing (Some held) = sym (append-nil held)

-- two writes, one after the other
pub Gains-chain :
    (a b c : Option (List ℕ)) (x y : List ℕ) → Gains a x b → Gains b y c → Gains a (x ++ y) c
Gains-chain None None c x y first second = second
Gains-chain None (Some b) c x y first second = cc
Gains-chain (Some a) None c x y first second = cc
Gains-chain (Some a) (Some b) None x y first second = cc
Gains-chain (Some a) (Some b) (Some c) x y first second = rw (← append_assoc) cc
