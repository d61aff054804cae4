-- Answers, their bodies, and whole responses.
use Rattle.std.specs.Prelude.{◌==◌, ℕ, Bool, List, [], ◌++◌, codes, decimal, length, if◌then◌else◌}
use Rattle.http.specs.StatusCode.{status_text}
use Rattle.serde_json.specs.Data.{Data, Members, object, member, no_members}
use Rattle.serde_json.specs.Written.{compact_text}
use Rattle.ev_types.specs.Sections.{sections_of}
use Rattle.ev_wire.specs.Bodies.{events_text, register_text}
use Rattle.ev_wire.specs.Values.{list_data, number_data}
use Rattle.hw_routes.specs.Paths.{allowed}
use Rattle.hw_replies.specs.Problems.{problem_text, with_text}
use Rattle.hw_replies.specs.Problems as of_problem
use Rattle.hw_replies.specs.declared.answer.Answer.{Answer}
use Rattle.hw_replies.specs.declared.answer.Answer.TheVariants.{Registered, Events, MessageSent, UserAdded, StreamCreated, FlagsChanged, Refused}
use Rattle.hw_replies.specs.declared.problem.Problem.TheVariants.{BadMethod}

unfoldable pub status_of : Answer → ℕ
status_of (Refused problem) = of_problem.status_of problem
status_of answer = 200

-- the members of a success, in front of those that come behind them by their keys
abbrev pub success_members : Members → Members
success_members members = with_text (codes "msg") [] (with_text (codes "result") (codes "success") members)

-- the members of the other successes
abbrev pub success_data : Answer → Data
success_data (MessageSent message) = object (member (codes "id") (number_data message) (success_members no_members))
success_data (UserAdded user) = object (success_members (member (codes "user_id") (number_data user) no_members))
success_data (StreamCreated stream) = object (success_members (member (codes "stream_id") (number_data stream) no_members))
success_data (FlagsChanged messages) = object (member (codes "messages") (list_data number_data messages) (success_members no_members))
success_data answer = object (success_members no_members)

-- the body
abbrev pub body_of : Answer → List ℕ
body_of (Registered queue last_event_id state) = register_text queue last_event_id (sections_of state)
body_of (Events queue items) = events_text queue items
body_of (Refused problem) = problem_text problem
body_of answer = compact_text (success_data answer)

-- the status, and what the body is
unfoldable pub first_lines : ℕ → List ℕ
first_lines status = codes "HTTP/1.1 " ++ status_text status ++ codes "\r\nContent-Type: application/json\r\n"

unfoldable pub length_line : ℕ → List ℕ
length_line size = codes "Content-Length: " ++ decimal size ++ codes "\r\n"

-- the line that tells how to log in, or which methods there are
unfoldable pub own_line : Answer → List ℕ
own_line (Refused (BadMethod path)) = codes "Allow: " ++ allowed path ++ codes "\r\n"
own_line answer = if status_of answer == 401 then codes "WWW-Authenticate: Basic realm=\"zulip\"\r\n" else []

unfoldable pub close_line : Bool → List ℕ
close_line close = if close then codes "Connection: close\r\n" else []

-- the lines of a response with a body of so many bytes, and an empty one behind them
unfoldable pub head_of : Answer → Bool → ℕ → List ℕ
head_of answer close size =
    first_lines (status_of answer) ++ (length_line size ++ (own_line answer ++ (close_line close ++ codes "\r\n")))

-- a whole response; with `close` the connection ends behind it
abbrev pub response_text : Answer → Bool → List ℕ
response_text answer close = head_of answer close (length (body_of answer)) ++ body_of answer
