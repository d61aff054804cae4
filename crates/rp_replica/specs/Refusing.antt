-- Why a client refuses a body.
use Rattle.std.specs.Prelude.{◌≡◌, ℤ, Option, None, Some, Result, Ok, Err}
use Rattle.ev_bodies.specs.declared.fault.BodyFault.{BodyFault}
use Rattle.ev_bodies.specs.declared.fault.BodyFault.TheVariants as of_body
use Rattle.ev_bodies.specs.Keys.{Unlike, no_entry, no_json, no_key, no_row}
use Rattle.rp_replica.specs.declared.fault.ReplicaFault.{ReplicaFault}
use Rattle.rp_replica.specs.declared.fault.ReplicaFault.TheVariants as fault

-- a text that is no such body, a queue that is gone, and an id that isn't above the one before
pub data Refused : Type 0 where
  bad_body : Unlike → Refused
  gone : Refused
  not_rising : ℤ → Refused

infixl 10 ◌>>=◌
abbrev pub ◌>>=◌ : {A B : Type 0} → Result A Refused → (A → Result B Refused) → Result B Refused
(Ok x) >>= f = f x
(Err e) >>= f = Err e

-- a body that was read, or why not
abbrev pub or_bad : {A : Type 0} → Result A Unlike → Result A Refused
or_bad (Ok a) = Ok a
or_bad (Err e) = Err (bad_body e)

-- why a text is no body, by what was answered
abbrev pub why : BodyFault → Option Unlike
why of_body.NoMemory = None
why of_body.Json = Some no_json
why (of_body.Key key) = Some (no_key key.0.now)
why (of_body.Row section index) = Some (no_row section index)
why (of_body.Entry index) = Some (no_entry index)

abbrev pub fault_of : BodyFault → ReplicaFault
fault_of of_body.NoMemory = fault.NoMemory
fault_of of_body.Json = fault.BadBody of_body.Json
fault_of (of_body.Key key) = fault.BadBody (of_body.Key key)
fault_of (of_body.Row section index) = fault.BadBody (of_body.Row section index)
fault_of (of_body.Entry index) = fault.BadBody (of_body.Entry index)

abbrev pub IsBad : {Y : Type 0} → Option Unlike → Result Y Refused → Type 0
IsBad None read = ⊥
IsBad (Some unlike) read = read ≡ Err (bad_body unlike)

-- a fault that was answered is why the body is refused, unless memory ran out
abbrev pub Refuses : {Y : Type 0} → ReplicaFault → Result Y Refused → Type 0
Refuses fault.NoMemory read = Unit {0}
Refuses (fault.BadBody body) read = IsBad (why body) read
Refuses fault.QueueGone read = read ≡ Err gone
Refuses (fault.NotRising id) read = read ≡ Err (not_rising id)

-- what a call returned, as it is seen, is what reading gives, unless memory ran out
abbrev pub Gives : {X Y : Type 0} → (X → Y) → Result X ReplicaFault → Result Y Refused → Type 0
Gives seen (Ok x) read = read ≡ Ok (seen x)
Gives seen (Err e) read = Refuses e read
