-- What the routes share: the id of a path, and parameters that may not stand together.
use Rattle.std.specs.Prelude.{ℕ, List, ⊤, if◌then◌else◌, Result, Ok, Err}
use Rattle.ev_base.specs.declared.ids.MessageId.{MessageId}
use Rattle.ev_base.specs.declared.ids.StreamId.{StreamId}
use Rattle.ev_base.specs.declared.ids.UserId.{UserId}
use Rattle.hw_routes.specs.Paths.{id_piece}
use Rattle.hw_values.specs.Forms.{Pairs, any_given, or_bad}
use Rattle.hw_values.specs.Numbers.{id_of}
use Rattle.hw_values.specs.declared.fault.ValueFault.{ValueFault}
use Rattle.hw_values.specs.declared.fault.ValueFault.TheVariants.{BadValue}
use Rattle.hw_values.specs.declared.param.Param.{Param}
use Rattle.hw_values.specs.declared.param.Param.TheVariants.{Id}

infixl 10 ◌>>=◌
-- one reading, and then another, unless the first has a fault
abbrev pub ◌>>=◌ : {A B : Type 0} → Result A ValueFault → (A → Result B ValueFault) → Result B ValueFault
(Ok value) >>= onward = onward value
(Err fault) >>= onward = Err fault

-- none of the parameters is given; else the first of them is refused
abbrev pub without : Param → List Param → Pairs → Result ⊤ ValueFault
without first params pairs = if any_given params pairs then Err (BadValue first) else Ok tt

-- the id in a path
abbrev pub path_id : List ℕ → Result ℕ ValueFault
path_id path = or_bad Id (id_of (id_piece path))

abbrev pub path_user : List ℕ → Result UserId ValueFault
path_user path = path_id path >>= λ id. Ok (record { 0 = id })

abbrev pub path_stream : List ℕ → Result StreamId ValueFault
path_stream path = path_id path >>= λ id. Ok (record { 0 = id })

abbrev pub path_message : List ℕ → Result MessageId ValueFault
path_message path = path_id path >>= λ id. Ok (record { 0 = id })
