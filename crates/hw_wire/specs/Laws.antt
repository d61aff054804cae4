-- What the bytes of a link make of an answer, however they come in pieces.
use Rattle.std.specs.Prelude.{◌≡◌, ◌≢◌, ◌<◌, ◌≤◌, ℕ, List, [], ◌++◌, ⊤, length, take, Some, option_map, Result, Ok, Err}
use Rattle.httparse.specs.Grammar.{MayBecomeRequest, NeverHasRequest, RequestHead}
use Rattle.hw_wire.specs.Fields.{body_length}
use Rattle.hw_wire.specs.Requests.{BeginsWith, EndsRequest, Says, pairs}
use Rattle.hw_wire.specs.declared.fields.HeadFault.{HeadFault}
use Rattle.hw_wire.specs.declared.fields.HeadFault.TheVariants as fault
use Rattle.hw_wire.specs.declared.requests.ReadEnd.{ReadEnd}
use Rattle.hw_wire.specs.declared.requests.ReadEnd.TheVariants.{Request, End, Cut, BadHead, HeadTooLong, Chunked, BodyTooLong, ReadFault, NoMemory}

-- the length that a head announces, or what is wrong with it
abbrev pub announced : RequestHead → Result ℕ HeadFault
announced head = body_length head.minor (pairs head)

-- what an answer has to be where this head and this rest are all bytes of a link; `behind` is what
-- stands behind a request
abbrev pub IsDecided : ReadEnd → RequestHead → List ℕ → List ℕ → Type 0
IsDecided (Request request) head rest behind =
    Says head request.method request.target.items
    (option_map (λ value. value.items) request.authorization) request.close
    × (announced head ≡ Ok (length request.body.items)) × (rest ≡ request.body.items ++ behind)
IsDecided End head rest behind = ⊥
IsDecided Cut head rest behind = (wanted : ℕ) × (announced head ≡ Ok wanted) × (length rest < wanted)
IsDecided BadHead head rest behind = announced head ≡ Err fault.BadHead
IsDecided HeadTooLong head rest behind = ⊥
IsDecided Chunked head rest behind = announced head ≡ Err fault.Chunked
IsDecided BodyTooLong head rest behind = announced head ≡ Err fault.BodyTooLong
IsDecided ReadFault head rest behind = ⊤
IsDecided NoMemory head rest behind = ⊤

-- a head of at most 16,384 bytes decides the answer, whatever was read of the bytes and is left
abbrev pub HeadsDecide : Type 0
HeadsDecide =
    (all rest : List ℕ) (head : RequestHead) (end : ReadEnd) (bytes kept left : List ℕ)
    → BeginsWith all head rest → all ≡ bytes ++ left → EndsRequest end (Some left) bytes kept
    → IsDecided end head rest (kept ++ left)

-- what an answer has to be where no head of at most 16,384 bytes begins all bytes of a link
abbrev pub IsHeadless : ReadEnd → List ℕ → Type 0
IsHeadless (Request request) all = ⊥
IsHeadless End all = all ≡ []
IsHeadless Cut all = (all ≢ []) × (length all < 16384) × MayBecomeRequest all
IsHeadless BadHead all = NeverHasRequest (take 16384 all)
IsHeadless HeadTooLong all = (16384 ≤ length all) × MayBecomeRequest (take 16384 all)
IsHeadless Chunked all = ⊥
IsHeadless BodyTooLong all = ⊥
IsHeadless ReadFault all = ⊤
IsHeadless NoMemory all = ⊤

-- without such a head the first 16,384 bytes decide the answer
abbrev pub FrontsDecide : Type 0
FrontsDecide =
    (all : List ℕ) (end : ReadEnd) (bytes kept left : List ℕ)
    → ((head : RequestHead) (rest : List ℕ) → BeginsWith all head rest → ⊥)
    → all ≡ bytes ++ left → EndsRequest end (Some left) bytes kept → IsHeadless end all
