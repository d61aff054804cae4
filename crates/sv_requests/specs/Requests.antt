-- What a request is answered.
use Rattle.std.specs.Prelude.{◌≡◌, ◌⊎◌, ℕ, List, Option, Ok, Err}
use Rattle.std.specs.String.{string_bytes}
use Rattle.ev_base.specs.declared.ids.UserId.{UserId}
use Rattle.hw_replies.specs.declared.answer.Answer.{Answer}
use Rattle.hw_replies.specs.declared.answer.Answer.TheVariants.{Refused}
use Rattle.hw_replies.specs.declared.problem.Problem.{Problem}
use Rattle.hw_replies.specs.declared.problem.Problem.TheVariants.{InvalidKey}
use Rattle.hw_wire.specs.declared.requests.Request.{Request}
use Rattle.zw_backend.specs.Seen.{Seen, Sees, history_of}
use Rattle.zw_backend.specs.Backends.{IsWho}
use Rattle.zw_backend.specs.declared.backend.Who.{Who}
use Rattle.zw_backend.specs.declared.backend.Who.TheVariants as who
use Rattle.sv_answers.specs.Calls.{AnswersCall}
use Rattle.sv_requests.specs.Asked.{IsAsked}
use Rattle.sv_requests.specs.declared.asked.Asked.{Asked}

-- the backend tells who has the credentials, after the steps that the pass has seen then
pub record Learns (asked : Asked) (who : Who) (before after : Seen) : Type 0 where
  pub sees : Sees before after
  pub tells : IsWho (string_bytes asked.credentials.email) (string_bytes asked.credentials.key) who (history_of after).realm

-- a call of an active user is answered; the user has seen the commits that the realm had when it was asked who that is
pub record AnswersUser (asked : Asked) (moment : ℕ) (clock clock' entropy entropy' : Option (List ℕ)) (answer : Answer) (before after : Seen) : Type 0 where
  pub user : UserId
  pub commits : ℕ
  pub known : Seen
  pub learns : Learns asked (who.User user commits) before known
  pub answers : AnswersCall user commits asked.call moment clock clock' entropy entropy' answer known after

-- nobody has the credentials
abbrev pub AnswersNobody : Asked → Option (List ℕ) → Option (List ℕ) → Option (List ℕ) → Option (List ℕ) → Answer → Seen → Seen → Type 0
AnswersNobody asked clock clock' entropy entropy' answer before after =
    (clock' ≡ clock) × (entropy' ≡ entropy) × (answer ≡ Refused InvalidKey) × Learns asked who.Nobody before after

abbrev pub AnswersAsked : Asked → ℕ → Option (List ℕ) → Option (List ℕ) → Option (List ℕ) → Option (List ℕ) → Answer → Seen → Seen → Type 0
AnswersAsked asked moment clock clock' entropy entropy' answer before after =
    AnswersUser asked moment clock clock' entropy entropy' answer before after ⊎ AnswersNobody asked clock clock' entropy entropy' answer before after

-- something is wrong with the request, and nothing is asked of the backend
abbrev pub AnswersWrong : Request → Option (List ℕ) → Option (List ℕ) → Option (List ℕ) → Option (List ℕ) → Answer → Seen → Seen → Type 0
AnswersWrong request clock clock' entropy entropy' answer before after =
    (clock' ≡ clock) × (entropy' ≡ entropy) × (after ≡ before) × (what : Problem) × IsAsked request (Err what) × (answer ≡ Refused what)

-- a request at a moment, and its answer
abbrev pub AnswersRequest : Request → ℕ → Option (List ℕ) → Option (List ℕ) → Option (List ℕ) → Option (List ℕ) → Answer → Seen → Seen → Type 0
AnswersRequest request moment clock clock' entropy entropy' answer before after =
    ((asked : Asked) × IsAsked request (Ok asked) × AnswersAsked asked moment clock clock' entropy entropy' answer before after)
    ⊎ AnswersWrong request clock clock' entropy entropy' answer before after
