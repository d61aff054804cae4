-- The numbers that texts spell.
use Rattle.std.specs.Prelude.{ℕ, ◌^◌, ◌&&◌, ◌==◌, Bool, nat_le, nat_lt, if◌then◌else◌, List, length, drop, slice_index, Option, Some, None, option_map, option_and_then, ℤ, pos, negsuc}
use Rattle.std.specs.List.{list_all}
use Rattle.ev_base.specs.declared.ids.MessageId.{MessageId}
use Rattle.ev_base.specs.declared.ids.StreamId.{StreamId}
use Rattle.ev_base.specs.declared.ids.UserId.{UserId}
use Rattle.hw_values.specs.declared.ids.LastEventId.{LastEventId}
use Rattle.zs_words.specs.Numbers.{is_digit, value_of_digits}

-- one digit or more, at most so many, whose value is below the limit
abbrev pub is_number : ℕ → ℕ → List ℕ → Bool
is_number most limit text =
    nat_le (length text) most && (nat_le 1 (length text) && (list_all is_digit text && nat_lt (value_of_digits text) limit))

-- the value of such digits
unfoldable pub number_of : ℕ → ℕ → List ℕ → Option ℕ
number_of most limit text = if is_number most limit text then Some (value_of_digits text) else None

-- an id: one to ten digits, of 32 bits
abbrev pub id_of : List ℕ → Option ℕ
id_of text = number_of 10 (2 ^ 32) text

abbrev pub user_of : List ℕ → Option UserId
user_of text = option_map (λ id. record { 0 = id }) (id_of text)

abbrev pub stream_of : List ℕ → Option StreamId
stream_of text = option_map (λ id. record { 0 = id }) (id_of text)

abbrev pub message_of : List ℕ → Option MessageId
message_of text = option_map (λ id. record { 0 = id }) (id_of text)

-- 0, and -1 for 1
abbrev pub negated : ℕ → Option ℤ
negated number = if number == 0 then Some (pos 0) else if number == 1 then Some (negsuc 0) else None

-- there is a - at the front
abbrev pub is_negative : List ℕ → Bool
is_negative text = nat_lt 0 (length text) && (slice_index text 0 == 45)

-- an integer of 64 bits that is at least -1: 1 to 19 digits, which may have a - before them
abbrev pub integer_of : List ℕ → Option ℤ
integer_of text =
    if is_negative text then option_and_then negated (number_of 19 (2 ^ 63) (drop 1 text))
    else option_map pos (number_of 19 (2 ^ 63) text)

abbrev pub last_event_id_of : List ℕ → Option LastEventId
last_event_id_of text = option_map (λ id. record { 0 = id }) (integer_of text)
