-- What holds of every script.
use Rattle.std.specs.Prelude.{◌≡◌, ℕ, List, option_map, map}
use Rattle.ev_rows.specs.Rows.{Table}
use Rattle.ev_types.specs.declared.state.State.{State}
use Rattle.zw_traces.specs.Histories.{History, IsLegalHistory}
use Rattle.zm_text.specs.declared.outcome.Outcome.{Outcome}
use Rattle.zm_text.specs.declared.outcome.Outcome.TheVariants.{Finished, Viewed}
use Rattle.zm_text.specs.Playing.{Turn, IsPlayed}
use Rattle.zm_text.specs.Promises.{Promises}
use Rattle.zm_text.specs.Texts.{HasText}

-- the promises hold of whatever is played in a legal history
abbrev pub PromisesHold : Type 0
PromisesHold =
    (lines : List (List ℕ)) (turns : List Turn) (history : History) →
    IsPlayed lines turns history → IsLegalHistory history → Promises turns

-- a table without room for more rows
abbrev pub full_table : {K V : Type 0} → Table K V → Table K V
full_table table = record { rows = table.rows; spare = 0 }

abbrev pub full_state : State → State
full_state state = record {
  realm = state.realm;
  realm_users = option_map full_table state.realm_users;
  streams = option_map full_table state.streams;
  subscriptions = option_map full_table state.subscriptions;
  subscribers = option_map full_table state.subscribers;
  messages = option_map full_table state.messages;
  reactions = option_map full_table state.reactions;
  starred_messages = option_map full_table state.starred_messages;
  unread_messages = option_map full_table state.unread_messages;
}

abbrev pub full_outcome : Outcome → Outcome
full_outcome (Finished reached queue last state) = Finished reached queue last (full_state state)
full_outcome (Viewed at state) = Viewed at (full_state state)
full_outcome outcome = outcome

abbrev pub full_turn : Turn → Turn
full_turn turn = record { step = turn.step; outcome = full_outcome turn.outcome }

-- a script has one run: its turns are the same but for the room that the lists of states have
abbrev pub OneRun : Type 0
OneRun =
    (lines : List (List ℕ)) (turns others : List Turn) (history other : History) →
    IsPlayed lines turns history → IsLegalHistory history →
    IsPlayed lines others other → IsLegalHistory other →
    map full_turn turns ≡ map full_turn others

-- a script has one text
abbrev pub OneText : Type 0
OneText = (lines : List (List ℕ)) (a b : List ℕ) → HasText lines a → HasText lines b → a ≡ b
