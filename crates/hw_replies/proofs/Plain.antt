-- The bodies of successes have no floats.
use Rattle.std.proofs.Common.{◌≡◌, ℕ, false, ◌||◌, List, [], ◌∷◌, map, refl, ap}
use Rattle.serde_json.specs.View.{items_of}
use Rattle.serde_json.specs.Written.{has_float, items_have_float}
use Rattle.ev_wire.specs.Values.{number_data}
use Rattle.hw_replies.specs.declared.answer.Answer.{Answer}
use Rattle.hw_replies.specs.declared.answer.Answer.TheVariants.{Registered, Events, MessageSent, UserAdded, StreamCreated, FlagsChanged, Done, Refused}
use Rattle.hw_replies.specs.Answers.{success_data}

pub numbers_are_plain : (numbers : List ℕ) → items_have_float (items_of (map number_data numbers)) ≡ false
numbers_are_plain [] = refl
numbers_are_plain (number ∷ numbers) = numbers_are_plain numbers

pub success_is_plain : (answer : Answer) → has_float (success_data answer) ≡ false
success_is_plain (Registered queue last_event_id state) = refl
success_is_plain (Events queue items) = refl
success_is_plain (MessageSent message) = refl
success_is_plain (UserAdded user) = refl
success_is_plain (StreamCreated stream) = refl
success_is_plain (FlagsChanged messages) = ap (λ b. b || false) (numbers_are_plain messages)
success_is_plain Done = refl
success_is_plain (Refused problem) = refl
