-- The order of each key of the tables and sections.
use Rattle.std.specs.Prelude.{◌≡◌, ℕ, List}
use Rattle.std.proofs.Common.{ap}
use Rattle.std.specs.declared.cmp.Ordering.{Ordering}
use Rattle.std.specs.Ordering.{nat_cmp, on, ordering_then}
use Rattle.std.specs.Cmp.Lexicographic.{slice_cmp}
use Rattle.std.proofs.lemmas.Cmp.{nat_cmp_total, nat_list_cmp_total, on_total, then_total}
use Rattle.std.proofs.lemmas.Map.Lookups.{exact_bytes, exact_pairs, exact_unsigned}
use Rattle.ev_rows.specs.KeyOrder.{KeyOrder}
use Rattle.ev_base.specs.declared.ids.UserId.{UserId}
use Rattle.ev_base.specs.declared.ids.StreamId.{StreamId}
use Rattle.ev_base.specs.declared.ids.MessageId.{MessageId}

-- users by their number
abbrev pub user_cmp : UserId → UserId → Ordering
user_cmp a b = nat_cmp a.0 b.0

-- streams by their number
abbrev pub stream_cmp : StreamId → StreamId → Ordering
stream_cmp a b = nat_cmp a.0 b.0

-- messages by their number
abbrev pub message_cmp : MessageId → MessageId → Ordering
message_cmp a b = nat_cmp a.0 b.0

-- texts by their bytes
abbrev pub text_cmp : List ℕ → List ℕ → Ordering
text_cmp = slice_cmp nat_cmp

-- pairs by the first part, and then by the second
abbrev pub pair_cmp : {A B : Type 0} → (A → A → Ordering) → (B → B → Ordering)
    → A × B → A × B → Ordering
pair_cmp first second a b = ordering_then (first a.0 b.0) (second a.1 b.1)

-- triples by the first part, then by the second, then by the third
abbrev pub triple_cmp : {A B C : Type 0} → (A → A → Ordering) → (B → B → Ordering) → (C → C → Ordering)
    → A × B × C → A × B × C → Ordering
triple_cmp first second third a b =
    ordering_then (ordering_then (first a.0 b.0) (second a.1 b.1)) (third a.2 b.2)

-- a user's streams
abbrev pub user_stream_cmp : UserId × StreamId → UserId × StreamId → Ordering
user_stream_cmp = pair_cmp user_cmp stream_cmp

-- a message's users
abbrev pub message_user_cmp : MessageId × UserId → MessageId × UserId → Ordering
message_user_cmp = pair_cmp message_cmp user_cmp

-- a stream's users
abbrev pub stream_user_cmp : StreamId × UserId → StreamId × UserId → Ordering
stream_user_cmp = pair_cmp stream_cmp user_cmp

-- a message's reactions: by message, then by user, then by the emoji's name
abbrev pub reaction_cmp : MessageId × UserId × List ℕ → MessageId × UserId × List ℕ → Ordering
reaction_cmp = triple_cmp message_cmp user_cmp text_cmp

-- things with a number, which tells them apart, are in the order of their numbers
pub number_order : {K : Type 0} (number : K → ℕ) → ((a b : K) → number a ≡ number b → a ≡ b)
    → KeyOrder (on number nat_cmp)
number_order number apart = record {
  total = on_total number nat_cmp_total;
  exact = λ a b same. apart a b (exact_unsigned (number a) (number b) same);
}

pub user_order : KeyOrder user_cmp
user_order =
    number_order (λ (user : UserId). user.0) (λ a b same. ap (λ (n : ℕ). record { 0 = n }) same)

pub stream_order : KeyOrder stream_cmp
stream_order =
    number_order (λ (stream : StreamId). stream.0) (λ a b same. ap (λ (n : ℕ). record { 0 = n }) same)

pub message_order : KeyOrder message_cmp
message_order =
    number_order (λ (message : MessageId). message.0) (λ a b same. ap (λ (n : ℕ). record { 0 = n }) same)

pub text_order : KeyOrder text_cmp
text_order = record { total = nat_list_cmp_total; exact = exact_bytes }

-- pairs are in order where their parts are
pub pair_order : {A B : Type 0} {first : A → A → Ordering} {second : B → B → Ordering}
    → KeyOrder first → KeyOrder second → KeyOrder (pair_cmp first second)
pair_order {A} {B} {first} {second} a b = record {
  total = then_total (on_total (λ (key : A × B). key.0) a.total) (on_total (λ (key : A × B). key.1) b.total);
  exact = exact_pairs first second a.exact b.exact;
}

-- and so are triples
pub triple_order : {A B C : Type 0} {first : A → A → Ordering} {second : B → B → Ordering} {third : C → C → Ordering}
    → KeyOrder first → KeyOrder second → KeyOrder third → KeyOrder (triple_cmp first second third)
triple_order {A} {B} {C} {first} {second} {third} a b c =
    let nested : KeyOrder (pair_cmp (pair_cmp first second) third) = pair_order (pair_order a b) c in
    record {
      total = on_total (λ (key : A × B × C). ((key.0, key.1), key.2)) nested.total;
      exact = λ x y same. ap (λ (key : (A × B) × C). (key.0.0, key.0.1, key.1)) (nested.exact ((x.0, x.1), x.2) ((y.0, y.1), y.2) same);
    }

pub user_stream_order : KeyOrder user_stream_cmp
user_stream_order = pair_order user_order stream_order

pub message_user_order : KeyOrder message_user_cmp
message_user_order = pair_order message_order user_order

pub stream_user_order : KeyOrder stream_user_cmp
stream_user_order = pair_order stream_order user_order

pub reaction_order : KeyOrder reaction_cmp
reaction_order = triple_order message_order user_order text_order
