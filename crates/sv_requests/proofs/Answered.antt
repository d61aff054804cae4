-- Requests, by who asks.
use Rattle.std.proofs.Common.{◌≡◌, ℕ, List, Option, Ok, subst, inl}
use Rattle.std.specs.String.{string_bytes}
use Rattle.ev_base.specs.declared.ids.UserId.{UserId}
use Rattle.hw_replies.specs.declared.answer.Answer.{Answer}
use Rattle.hw_wire.specs.declared.requests.Request.{Request}
use Rattle.zw_backend.specs.Seen.{history_of}
use Rattle.zw_backend.specs.Backends.{IsWho, Sights}
use Rattle.zw_backend.specs.Backends as of_backend
use Rattle.zw_backend.specs.declared.backend.Who.{Who}
use Rattle.zw_backend.specs.declared.backend.Who.TheVariants as who
use Rattle.sv_answers.specs.Calls.{AnswersCall}
use Rattle.sv_calls.specs.Flows.{Any, Goes}
use Rattle.sv_requests.specs.Asked.{IsAsked}
use Rattle.sv_requests.specs.Requests.{AnswersAsked, AnswersRequest}
use Rattle.sv_requests.specs.declared.asked.Asked.{Asked}

pub answers_user : (a b c : Sights) (asked : Asked) (email key : List ℕ) (told : Who) (user : UserId) (commits moment : ℕ) (clock clock' entropy entropy' : Option (List ℕ)) (answer : Answer)
    → told ≡ who.User user commits → email ≡ string_bytes asked.credentials.email → key ≡ string_bytes asked.credentials.key
    → of_backend.Learns a (IsWho email key told) b
    → Goes b Any (AnswersCall user commits asked.call moment clock clock' entropy entropy' answer) c
    → Goes a Any (AnswersAsked asked moment clock clock' entropy entropy' answer) c
answers_user a b c asked email key told user commits moment clock clock' entropy entropy' answer is email_is key_is learns goes before holds any =
    let one = learns before holds in
    let two = goes one.seen one.holds tt in
    let trace = (history_of one.seen).realm in
    record {
      seen = two.seen;
      holds = two.holds;
      done = inl (record {
        user = user;
        commits = commits;
        known = one.seen;
        learns = record {
          sees = one.sees;
          tells = subst (λ k. IsWho (string_bytes asked.credentials.email) k (who.User user commits) trace) key_is
              (subst (λ e. IsWho e key (who.User user commits) trace) email_is (subst (λ (w : Who). IsWho email key w trace) is one.tells));
        };
        answers = two.done;
      });
    }

-- the whole
pub answers_asked : (a b : Sights) (request : Request) (asked : Asked) (moment : ℕ) (clock clock' entropy entropy' : Option (List ℕ)) (answer : Answer)
    → IsAsked request (Ok asked) → Goes a Any (AnswersAsked asked moment clock clock' entropy entropy' answer) b
    → Goes a Any (AnswersRequest request moment clock clock' entropy entropy' answer) b
answers_asked a b request asked moment clock clock' entropy entropy' answer is goes before holds any =
    let one = goes before holds tt in
    record { seen = one.seen; holds = one.holds; done = inl (asked, is, one.done) }
