-- The line of output that tells an outcome.
use Rattle.std.specs.Prelude.{ℕ, Option, None, Some, List, [], ◌∷◌, ◌++◌, codes, decimal, flat_map, length}
use Rattle.std.specs.Fmt.{signed_decimal}
use Rattle.ev_base.specs.declared.ids.QueueId.{QueueId}
use Rattle.ev_types.specs.Sections.{sections_of}
use Rattle.ev_wire.specs.Bodies.{register_text, events_text, state_text}
use Rattle.zr_types.specs.declared.command.Refusal.{Refusal}
use Rattle.zr_types.specs.declared.command.Refusal.TheVariants as refusal
use Rattle.zs_words.specs.Names.{section_name}
use Rattle.zm_text.specs.declared.outcome.Outcome.{Outcome}
use Rattle.zm_text.specs.declared.outcome.Outcome.TheVariants.{Committed, Refused, Sharded, Noticed, Pushed, Gap, Opened, Fetched, Finished, MissingSection, NotPushed, OpensSpent, TooManyQueues, FetchRefused, Answered, Empty, BadQueue, NotSent, Pruned, Deleted, Ticked, At, Viewed}

-- a word and the next, with a space between
abbrev pub and_then : List ℕ → List ℕ → List ℕ
and_then first next = first ++ 32 ∷ next

-- a refusal by its place in the order of refusals, and its name
abbrev pub refusal_text : Refusal → List ℕ
refusal_text refusal.ActorUnknown = codes "refused 1 ActorUnknown"
refusal_text refusal.NotPermitted = codes "refused 2 NotPermitted"
refusal_text refusal.NoSuchUser = codes "refused 3 NoSuchUser"
refusal_text refusal.NoSuchStream = codes "refused 4 NoSuchStream"
refusal_text refusal.NoSuchMessage = codes "refused 5 NoSuchMessage"
refusal_text refusal.NameTaken = codes "refused 6 NameTaken"
refusal_text refusal.AlreadySo = codes "refused 7 AlreadySo"
refusal_text refusal.NotSo = codes "refused 8 NotSo"
refusal_text refusal.BadText = codes "refused 9 BadText"
refusal_text refusal.LimitReached = codes "refused 10 LimitReached"
refusal_text refusal.LogFull = codes "refused 11 LogFull"

-- a word, the position that was reached, and a body
abbrev pub with_body : List ℕ → ℕ → List ℕ → List ℕ
with_body word reached body = and_then word (and_then (decimal reached) body)

-- a commit by its number, with the id of what it made, if it made something
abbrev pub committed_text : ℕ → Option ℕ → List ℕ
committed_text number None = and_then (codes "committed") (decimal number)
committed_text number (Some id) = and_then (codes "committed") (and_then (decimal number) (decimal id))

-- a queue of a script, as its lines name it: its user and its number
abbrev pub queue_word : QueueId → List ℕ
queue_word queue = decimal queue.user.0 ++ 46 ∷ decimal queue.number

-- the queue that was opened, and where
abbrev pub opened_text : QueueId → ℕ → List ℕ
opened_text queue position = and_then (and_then (codes "opened") (queue_word queue)) (decimal position)

-- the number of the queues that were collected, and each of them
abbrev pub ticked_text : List QueueId → List ℕ
ticked_text queues = and_then (codes "ticked") (decimal (length queues)) ++ flat_map (λ queue. 32 ∷ queue_word queue) queues

-- the line, without its line feed
abbrev pub line_of : Outcome → List ℕ
line_of (Committed number id) = committed_text number id
line_of (Refused why) = refusal_text why
line_of (Sharded count) = and_then (codes "shards") (decimal count)
line_of (Noticed count) = and_then (codes "noticed") (decimal count)
line_of (Pushed position) = and_then (codes "pushed") (decimal position)
line_of (Gap have first) = and_then (codes "gap") (and_then (decimal have) (decimal first))
line_of (Opened queue position) = opened_text queue position
line_of (Fetched section at) = and_then (codes "fetched") (and_then (section_name section) (decimal at))
line_of (MissingSection section) = and_then (codes "missing_section") (section_name section)
line_of (NotPushed have need) = and_then (codes "not_pushed") (and_then (decimal have) (decimal need))
line_of (Finished reached queue last_event_id state) =
    with_body (codes "finished") reached (register_text queue last_event_id (sections_of state))
line_of OpensSpent = codes "opens_spent"
line_of TooManyQueues = codes "too_many 32"
line_of FetchRefused = codes "fetch_refused"
line_of (Answered reached queue items) = with_body (codes "answer") reached (events_text queue items)
line_of (Empty reached) = and_then (codes "empty") (decimal reached)
line_of BadQueue = codes "bad_queue"
line_of (NotSent greatest) = and_then (codes "not_sent") (signed_decimal greatest)
line_of (Pruned newest) = and_then (codes "pruned") (signed_decimal newest)
line_of Deleted = codes "deleted"
line_of (Ticked queues) = ticked_text queues
line_of (At position) = and_then (codes "at") (decimal position)
line_of (Viewed commits state) = with_body (codes "view") commits (state_text (sections_of state))

-- the line of output, with its line feed
abbrev pub text_of_outcome : Outcome → List ℕ
text_of_outcome outcome = line_of outcome ++ 10 ∷ []
