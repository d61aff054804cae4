-- The request that bytes spell.
use Rattle.std.specs.Prelude.{◌≡◌, ◌≢◌, ◌<◌, ◌≤◌, ◌⊎◌, ℕ, Bool, List, [], ◌++◌, ⊤, codes, length, map, Option, option_map, Result, Ok, Err}
use Rattle.ev_ports.specs.Ports.{IsSpent, Loses}
use Rattle.httparse.specs.Grammar.{RequestHead, IsRequestHead, print_request, HasNoRequest, MayBecomeRequest, NeverHasRequest}
use Rattle.httparse.specs.Spans.{name_and_value}
use Rattle.hw_wire.specs.Fields.{body_length, closes, value_of}
use Rattle.hw_wire.specs.declared.fields.HeadFault.{HeadFault}
use Rattle.hw_wire.specs.declared.fields.HeadFault.TheVariants.{BadHead, Chunked, BodyTooLong, NoMemory as HeadNoMemory}
use Rattle.hw_wire.specs.declared.heads.Head.{Head}
use Rattle.hw_wire.specs.declared.requests.Request.{Request}
use Rattle.hw_wire.specs.declared.requests.ReadEnd.{ReadEnd}
use Rattle.hw_wire.specs.declared.requests.ReadEnd.TheVariants.{Request as AsRequest, End, Cut, BadHead as AsBadHead, HeadTooLong, Chunked as AsChunked, BodyTooLong as AsBodyTooLong, ReadFault, NoMemory}

-- the name and the value of each field
abbrev pub pairs : RequestHead → List (List ℕ × List ℕ)
pairs head = map name_and_value head.fields

-- a head of at most 16,384 bytes, and the rest behind it
pub record BeginsWith (bytes : List ℕ) (head : RequestHead) (rest : List ℕ) : Type 0 where
  pub valid : IsRequestHead head
  pub spelled : bytes ≡ print_request head ++ rest
  pub short : length (print_request head) ≤ 16384

-- what a head says of its request
pub record Says
    (head : RequestHead) (method target : List ℕ)
    (authorization : Option (List ℕ)) (close : Bool) : Type 0 where
  pub method_is : method ≡ head.method
  pub target_is : target ≡ head.target
  pub authorization_is : authorization ≡ value_of (codes "authorization") (pairs head)
  pub close_is : close ≡ closes head.minor (pairs head)

-- the head that was taken off the front
pub record IsTaken (taken : Head) (old new : List ℕ) : Type 0 where
  pub head : RequestHead
  pub begins : BeginsWith old head new
  pub says : Says head taken.method taken.target.items
      (option_map (λ value. value.items) taken.authorization) taken.close
  pub announced : body_length head.minor (pairs head) ≡ Ok taken.length

-- a head begins the bytes, and this is the first thing that is wrong with it
pub record IsRefused (fault : HeadFault) (bytes : List ℕ) : Type 0 where
  pub head : RequestHead
  pub rest : List ℕ
  pub begins : BeginsWith bytes head rest
  pub wrong : body_length head.minor (pairs head) ≡ Err fault

-- a whole head stands at the front, and it was taken, or something is wrong with it
abbrev pub TakesHead : Result Head HeadFault → List ℕ → List ℕ → Type 0
TakesHead (Ok taken) old new = IsTaken taken old new
TakesHead (Err BadHead) old new = IsRefused BadHead old
TakesHead (Err Chunked) old new = IsRefused Chunked old
TakesHead (Err BodyTooLong) old new = IsRefused BodyTooLong old
TakesHead (Err HeadNoMemory) old new = ⊤

-- the bytes are the head and the body of this request, and the kept ones behind them
pub record IsRequest (request : Request) (bytes kept : List ℕ) : Type 0 where
  pub head : RequestHead
  pub begins : BeginsWith bytes head (request.body.items ++ kept)
  pub says : Says head request.method request.target.items
      (option_map (λ value. value.items) request.authorization) request.close
  pub announced : body_length head.minor (pairs head) ≡ Ok (length request.body.items)

-- the bytes may begin a head, but hold none
abbrev pub IsInHead : List ℕ → Type 0
IsInHead bytes = HasNoRequest bytes × MayBecomeRequest bytes

-- the bytes are a head and a part of its body
pub record IsInBody (bytes : List ℕ) : Type 0 where
  pub head : RequestHead
  pub rest : List ℕ
  pub wanted : ℕ
  pub begins : BeginsWith bytes head rest
  pub announced : body_length head.minor (pairs head) ≡ Ok wanted
  pub few : length rest < wanted

-- the input ended inside a head, or inside the body of one
abbrev pub IsCut : List ℕ → Type 0
IsCut bytes = ((bytes ≢ []) × (length bytes < 16384) × IsInHead bytes) ⊎ IsInBody bytes

-- what an answer says of the bytes from the request's first on
abbrev pub EndsRequest : ReadEnd → Option (List ℕ) → List ℕ → List ℕ → Type 0
EndsRequest (AsRequest request) left bytes kept = IsRequest request bytes kept
EndsRequest End left bytes kept = (bytes ≡ []) × IsSpent left
EndsRequest Cut left bytes kept = IsCut bytes × IsSpent left
EndsRequest AsBadHead left bytes kept =
    ((length bytes ≤ 16384) × NeverHasRequest bytes) ⊎ IsRefused BadHead bytes
EndsRequest HeadTooLong left bytes kept = (length bytes ≡ 16384) × IsInHead bytes
EndsRequest AsChunked left bytes kept = IsRefused Chunked bytes
EndsRequest AsBodyTooLong left bytes kept = IsRefused BodyTooLong bytes
EndsRequest ReadFault left bytes kept = ⊤
EndsRequest NoMemory left bytes kept = ⊤

-- a call read these bytes behind the kept ones, and they stand as it answered
pub record ReadsRequest
    (end : ReadEnd) (before after : Option (List ℕ)) (old new : List ℕ) : Type 0 where
  pub more : List ℕ
  pub took : Loses before more after
  pub ends : EndsRequest end after (old ++ more) new
