-- The numbers that words write.
use Rattle.std.specs.Prelude.{◌≡◌, ℕ, ◌+◌, ◌-◌, ◌*◌, ◌≤◌, ◌<◌, ◌^◌, Bool, true, ◌&&◌, nat_le, List, [], ◌∷◌, ◌++◌, length, fold, ℤ, pos, neg_ℤ, FitsSigned, ◌⊎◌}
use Rattle.std.specs.Int.{w64}
use Rattle.std.specs.List.{list_all}
use Rattle.ev_base.specs.declared.ids.UserId.{UserId}
use Rattle.ev_base.specs.declared.ids.StreamId.{StreamId}
use Rattle.ev_base.specs.declared.ids.MessageId.{MessageId}
use Rattle.ev_base.specs.declared.ids.QueueId.{QueueId}
use Rattle.ev_base.specs.declared.kinds.Role.{Role}
use Rattle.ev_base.specs.Roles.{role_number}

abbrev pub is_digit : ℕ → Bool
is_digit byte = nat_le 48 byte && nat_le byte 57

-- the value of decimal digits
abbrev pub value_of_digits : List ℕ → ℕ
value_of_digits digits = fold (λ value digit. value * 10 + (digit - 48)) 0 digits

-- a number: one or more decimal digits
abbrev pub IsNumber : List ℕ → ℕ → Type 0
IsNumber word number = (1 ≤ length word) × (list_all is_digit word ≡ true) × (value_of_digits word ≡ number)

-- an integer: a number, with a - before it where it is negative
abbrev pub IsInteger : List ℕ → ℤ → Type 0
IsInteger [] integer = ⊥
IsInteger (first ∷ rest) integer =
    ((number : ℕ) × IsNumber (first ∷ rest) number × (integer ≡ pos number))
    ⊎ ((number : ℕ) × (first ≡ 45) × IsNumber rest number × (integer ≡ neg_ℤ (pos number)))

-- a number of 32 bits
abbrev pub IsId : List ℕ → ℕ → Type 0
IsId word id = IsNumber word id × (id < 2 ^ 32)

abbrev pub IsUser : List ℕ → UserId → Type 0
IsUser word user = IsId word user.0

abbrev pub IsStream : List ℕ → StreamId → Type 0
IsStream word stream = IsId word stream.0

abbrev pub IsMessage : List ℕ → MessageId → Type 0
IsMessage word message = IsId word message.0

-- the number of one of these many shards
abbrev pub IsShard : ℕ → List ℕ → ℕ → Type 0
IsShard shards word shard = IsId word shard × (shard < shards)

-- how many shards there may be
abbrev pub max_shards : ℕ
max_shards = 16

abbrev pub IsShardCount : List ℕ → ℕ → Type 0
IsShardCount word count = IsNumber word count × (1 ≤ count) × (count ≤ max_shards)

-- the number of a notice, of 64 bits; notices count from 1
abbrev pub IsNoticeNumber : List ℕ → ℕ → Type 0
IsNoticeNumber word number = IsNumber word number × (1 ≤ number) × (number < 2 ^ 64)

-- a moment, in seconds, of 64 bits
abbrev pub IsMoment : List ℕ → ℕ → Type 0
IsMoment word moment = IsNumber word moment × (moment < 2 ^ 64)

-- the number of a role
abbrev pub IsRole : List ℕ → Role → Type 0
IsRole word role = IsNumber word (role_number role)

-- a queue without salt: its user and its number, with a full stop between them
abbrev pub IsQueue : List ℕ → QueueId → Type 0
IsQueue word queue =
    (user number : List ℕ)
    × (word ≡ user ++ (46 ∷ number))
    × IsUser user queue.user × IsId number queue.number × (queue.salt ≡ 0)

-- an event number of 64 bits
abbrev pub IsEventNumber : List ℕ → ℤ → Type 0
IsEventNumber word number = IsInteger word number × FitsSigned w64 number
