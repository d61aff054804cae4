-- What a problem is answered: a status, a code, a message, and what further stands in the body.
use Rattle.std.specs.Prelude.{ℕ, List, ◌++◌, codes}
use Rattle.std.specs.Fmt.{signed_decimal}
use Rattle.serde_json.specs.Data.{Data, Members, string, object, member, no_members}
use Rattle.serde_json.specs.Written.{compact_text}
use Rattle.hw_values.specs.Params.{param_name}
use Rattle.zr_types.specs.declared.command.Refusal.{Refusal}
use Rattle.zr_types.specs.declared.command.Refusal.TheVariants as refusal
use Rattle.hw_replies.specs.declared.problem.Problem.{Problem}
use Rattle.hw_replies.specs.declared.problem.Problem.TheVariants.{NoRoute, BadMethod, Missing, BadValue, NotLoggedIn, InvalidKey, BadQueue, Pruned, NotSent, TooManyQueues, OpensSpent, Refused, BadRequest, NoMemory}

-- the status: who isn't known has to log in
abbrev pub status_of : Problem → ℕ
status_of NoRoute = 404
status_of (BadMethod path) = 405
status_of NotLoggedIn = 401
status_of InvalidKey = 401
status_of (Refused refusal.ActorUnknown) = 401
status_of NoMemory = 500
status_of problem = 400

abbrev pub refusal_code : Refusal → List ℕ
refusal_code refusal.ActorUnknown = codes "UNAUTHORIZED"
refusal_code refusal.NotPermitted = codes "NOT_PERMITTED"
refusal_code refusal.NoSuchUser = codes "NO_SUCH_USER"
refusal_code refusal.NoSuchStream = codes "NO_SUCH_STREAM"
refusal_code refusal.NoSuchMessage = codes "NO_SUCH_MESSAGE"
refusal_code refusal.NameTaken = codes "NAME_TAKEN"
refusal_code refusal.AlreadySo = codes "ALREADY_SO"
refusal_code refusal.NotSo = codes "NOT_SO"
refusal_code refusal.BadText = codes "BAD_TEXT"
refusal_code refusal.LimitReached = codes "LIMIT_REACHED"
refusal_code refusal.LogFull = codes "LOG_FULL"

abbrev pub refusal_message : Refusal → List ℕ
refusal_message refusal.ActorUnknown = codes "Not logged in"
refusal_message refusal.NotPermitted = codes "Not permitted"
refusal_message refusal.NoSuchUser = codes "No such user"
refusal_message refusal.NoSuchStream = codes "No such stream"
refusal_message refusal.NoSuchMessage = codes "No such message"
refusal_message refusal.NameTaken = codes "Name taken"
refusal_message refusal.AlreadySo = codes "Already so"
refusal_message refusal.NotSo = codes "Not so"
refusal_message refusal.BadText = codes "Bad text"
refusal_message refusal.LimitReached = codes "Limit reached"
refusal_message refusal.LogFull = codes "Log full"

-- the name of the problem's kind, for programs
abbrev pub code_of : Problem → List ℕ
code_of NoRoute = codes "NOT_FOUND"
code_of (BadMethod path) = codes "METHOD_NOT_ALLOWED"
code_of (Missing param) = codes "REQUEST_VARIABLE_MISSING"
code_of (BadValue param) = codes "BAD_REQUEST"
code_of NotLoggedIn = codes "UNAUTHORIZED"
code_of InvalidKey = codes "INVALID_API_KEY"
code_of (BadQueue text) = codes "BAD_EVENT_QUEUE_ID"
code_of (Pruned newest) = codes "BAD_REQUEST"
code_of (NotSent greatest) = codes "BAD_REQUEST"
code_of TooManyQueues = codes "TOO_MANY_QUEUES"
code_of OpensSpent = codes "OPENS_SPENT"
code_of (Refused why) = refusal_code why
code_of BadRequest = codes "BAD_REQUEST"
code_of NoMemory = codes "NO_MEMORY"

-- what is wrong, for people
abbrev pub message_of : Problem → List ℕ
message_of NoRoute = codes "No such route"
message_of (BadMethod path) = codes "Method not allowed"
message_of (Missing param) = codes "Missing '" ++ param_name param ++ codes "' argument"
message_of (BadValue param) = codes "Bad value for '" ++ param_name param ++ codes "'"
message_of NotLoggedIn = codes "Not logged in"
message_of InvalidKey = codes "Invalid API key"
message_of (BadQueue text) = codes "Bad event queue id: " ++ text
message_of (Pruned newest) = codes "Events up to " ++ signed_decimal newest ++ codes " are pruned"
message_of (NotSent greatest) = codes "No event above " ++ signed_decimal greatest ++ codes " was sent"
message_of TooManyQueues = codes "Too many queues"
message_of OpensSpent = codes "No queue number is left"
message_of (Refused why) = refusal_message why
message_of BadRequest = codes "Bad request"
message_of NoMemory = codes "Out of memory"

abbrev pub with_text : List ℕ → List ℕ → Members → Members
with_text name text members = member name (string text) members

abbrev pub error_result : Members → Members
error_result members = with_text (codes "result") (codes "error") members

-- the body's members behind the message, which tell of a queue or of a parameter
abbrev pub further_members : Problem → Members
further_members (BadQueue text) = with_text (codes "queue_id") text (error_result no_members)
further_members (Missing param) = error_result (with_text (codes "var_name") (param_name param) no_members)
further_members problem = error_result no_members

-- the body
abbrev pub problem_data : Problem → Data
problem_data problem =
    object (with_text (codes "code") (code_of problem) (with_text (codes "msg") (message_of problem) (further_members problem)))

abbrev pub problem_text : Problem → List ℕ
problem_text problem = compact_text (problem_data problem)
