-- The text of a queue id reads back, and has 36 bytes.
use Rattle.std.proofs.Common.{◌≡◌, ℕ, zero, suc, ◌/◌, ◌%◌, ◌^◌, ◌<◌, List, Option, Some, None, All, length, option_map, unwrap_or, inl, refl, sym, ap, ◌∙◌, arith}
use Rattle.std.proofs.lemmas.List.Elements.{All-nil, All-cons}
use Rattle.std.specs.Int.{w128, bytes_high_first, byte_at, from_be_bytes}
use Rattle.uuid.specs.Text.{parsed, lower}
use Rattle.uuid.proofs.OrderLemmas.{from_be_bytes-to_be_bytes_16}
use Rattle.uuid.proofs.RoundTrips.{parses_hyphenated}
use Rattle.uuid.proofs.TextLemmas.{by_index_length}
use Rattle.ev_base.specs.QueueIds.{FitsItsBits, queue_bits, queue_bytes, queue_of_bits, queue_text, queue_of_text}
use Rattle.ev_base.specs.declared.ids.QueueId.{QueueId}

byte_at-fits : (k n : ℕ) → byte_at k n < 256
byte_at-fits zero n = omega arith
byte_at-fits (suc k) n = omega arith

-- each byte of a number is below 256
bytes_high_first-fit : (k n : ℕ) → All (λ b. b < 256) (bytes_high_first k n)
bytes_high_first-fit zero n = All-nil (λ b. b < 256)
bytes_high_first-fit (suc k) n =
    All-cons (λ b. b < 256) (byte_at k n) (bytes_high_first k n) (byte_at-fits k n) (bytes_high_first-fit k n)

-- the three parts are found again in the bits
queue_of_bits-queue_bits : (queue : QueueId) → FitsItsBits queue → queue_of_bits (queue_bits queue) ≡ queue
queue_of_bits-queue_bits queue fits =
    let bits = queue_bits queue in
    let user : bits / 2 ^ 64 / 2 ^ 32 ≡ queue.user.0 = omega arith in
    let number : bits / 2 ^ 64 % 2 ^ 32 ≡ queue.number = omega arith in
    let salt : bits % 2 ^ 64 ≡ queue.salt = omega arith in
    λ i. record { user = record { 0 = user i }; number = number i; salt = salt i }

-- the text of a queue id is read back as that queue id
pub queue_of_text-queue_text : (queue : QueueId) → FitsItsBits queue → queue_of_text (queue_text queue) ≡ queue
unfolding queue_text queue_of_text
queue_of_text-queue_text queue fits =
    let bytes = queue_bytes queue in
    let read : Some bytes ≡ parsed (queue_text queue) =
    parses_hyphenated lower bytes (inl refl) refl (bytes_high_first-fit 16 (queue_bits queue)) in
    let bits : from_be_bytes w128 bytes ≡ queue_bits queue = from_be_bytes-to_be_bytes_16 (queue_bits queue) (omega arith) in
    ap (λ (o : Option (List ℕ)). queue_of_bits (unwrap_or (option_map (from_be_bytes w128) o) 0)) (sym read)
    ∙ ap queue_of_bits bits ∙ queue_of_bits-queue_bits queue fits

-- the text of a queue id has 36 bytes
pub length-queue_text : (queue : QueueId) → length (queue_text queue) ≡ 36
unfolding queue_text
length-queue_text queue = by_index_length 36 _

-- a text that is read names the queue of its bytes
pub queue_of_text-read : (text bytes : List ℕ) → Some bytes ≡ parsed text → queue_of_text text ≡ queue_of_bits (from_be_bytes w128 bytes)
unfolding queue_of_text
queue_of_text-read text bytes read =
    ap (λ (o : Option (List ℕ)). queue_of_bits (unwrap_or (option_map (from_be_bytes w128) o) 0)) (sym read)

none_from_unread : (read : Option (List ℕ)) → (((bytes : List ℕ) × (read ≡ Some bytes)) → ⊥) → read ≡ None
none_from_unread None never = refl
none_from_unread (Some bytes) never = absurd (never (bytes, refl))

-- a text that is not read names the queue of no bits
pub queue_of_text-unread : (text : List ℕ) → (((bytes : List ℕ) × (parsed text ≡ Some bytes)) → ⊥) → queue_of_text text ≡ queue_of_bits 0
unfolding queue_of_text
queue_of_text-unread text never =
    ap (λ (o : Option (List ℕ)). queue_of_bits (unwrap_or (option_map (from_be_bytes w128) o) 0)) (none_from_unread (parsed text) never)
