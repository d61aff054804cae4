-- The 128 bits of a queue id, and its text.
use Rattle.std.specs.Prelude.{ℕ, ◌+◌, ◌*◌, ◌/◌, ◌%◌, ◌^◌, ◌<◌, List, option_map, unwrap_or}
use Rattle.std.specs.Int.{w128, to_be_bytes, from_be_bytes}
use Rattle.uuid.specs.Text.{hyphenated_text, lower, parsed}
use Rattle.ev_base.specs.declared.ids.QueueId.{QueueId}

-- the numbers of a queue id fit its bits: 32 for the user, 32 for the number, 64 for the salt
abbrev pub FitsItsBits : QueueId → Type 0
FitsItsBits queue = (queue.user.0 < 2 ^ 32) × (queue.number < 2 ^ 32) × (queue.salt < 2 ^ 64)

-- the bits from the top: the user's id (32), the queue's number (32), the salt (64)
abbrev pub queue_bits : QueueId → ℕ
queue_bits queue = (queue.user.0 * 2 ^ 32 + queue.number) * 2 ^ 64 + queue.salt

-- those bits as sixteen bytes
abbrev pub queue_bytes : QueueId → List ℕ
queue_bytes queue = to_be_bytes w128 (queue_bits queue)

-- the queue with these bits
abbrev pub queue_of_bits : ℕ → QueueId
queue_of_bits bits = record {
  user = record { 0 = bits / 2 ^ 64 / 2 ^ 32 };
  number = bits / 2 ^ 64 % 2 ^ 32;
  salt = bits % 2 ^ 64;
}

-- the queue of sixteen bytes
abbrev pub queue_of_bytes : List ℕ → QueueId
queue_of_bytes bytes = queue_of_bits (from_be_bytes w128 bytes)

-- the text of a queue: the lower-case hyphenated form of its bytes
unfoldable pub queue_text : QueueId → List ℕ
queue_text queue = hyphenated_text lower (queue_bytes queue)

-- the queue that a text names: where it is no form of a UUID, the one whose bits are all 0
unfoldable pub queue_of_text : List ℕ → QueueId
queue_of_text text = queue_of_bits (unwrap_or (option_map (from_be_bytes w128) (parsed text)) 0)
