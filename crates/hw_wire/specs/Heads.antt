-- What the bytes that were read begin with.
use Rattle.std.specs.Prelude.{◌≡◌, ◌≢◌, ◌<◌, ℕ, List, [], ◌++◌, ◌+◌, length, take, Option}
use Rattle.httparse.specs.Grammar.{HasNoRequest, MayBecomeRequest, NeverHasRequest}
use Rattle.httparse.specs.Spans.{IsRequestOf, IsRequestWithin}
use Rattle.httparse.specs.declared.spans.HeaderSpan.{HeaderSpan}
use Rattle.ev_ports.specs.Ports.{IsSpent, Loses}
use Rattle.ev_ports.specs.declared.reading.Took.{Took}
use Rattle.ev_ports.specs.declared.reading.Took.TheVariants.{Bytes, End as TookEnd, Failed}
use Rattle.hw_wire.specs.declared.reader.Reader.{Reader}
use Rattle.hw_wire.specs.declared.reader.HeadEnd.{HeadEnd}
use Rattle.hw_wire.specs.declared.reader.HeadEnd.TheVariants.{Whole, End, Cut, BadHead, TooLong, Fault}
use Rattle.hw_wire.specs.declared.reader.Parsed.{Parsed}
use Rattle.hw_wire.specs.declared.reader.Parsed.TheVariants as parsed

-- the bytes that were read and not yet used
abbrev pub kept_of : Reader → List ℕ
kept_of reader = take reader.kept reader.buffer.items

-- what a parse says of the bytes, with the spans of the fields
abbrev pub StandsAs : Parsed → List ℕ → List HeaderSpan → Type 0
StandsAs (parsed.Whole spans) bytes fields =
    IsRequestWithin bytes fields spans × IsRequestOf bytes fields spans
StandsAs parsed.Partial bytes fields = HasNoRequest bytes × MayBecomeRequest bytes
StandsAs parsed.Never bytes fields = NeverHasRequest bytes

-- what an answer says of the bytes from the head's first on, and of what is left behind them
abbrev pub EndsHead : HeadEnd → Option (List ℕ) → List ℕ → List HeaderSpan → Type 0
EndsHead (Whole spans) left bytes fields =
    IsRequestWithin bytes fields spans × IsRequestOf bytes fields spans
EndsHead End left bytes fields = (bytes ≡ []) × IsSpent left
EndsHead Cut left bytes fields =
    (bytes ≢ []) × (length bytes < 16384) × IsSpent left × HasNoRequest bytes × MayBecomeRequest bytes
EndsHead BadHead left bytes fields = NeverHasRequest bytes
EndsHead TooLong left bytes fields =
    (length bytes ≡ 16384) × HasNoRequest bytes × MayBecomeRequest bytes
EndsHead Fault left bytes fields = HasNoRequest bytes

-- a call read these bytes behind the kept ones, and they stand as it answered
pub record ReadsHead
    (end : HeadEnd) (before after : Option (List ℕ)) (old new : Reader) : Type 0 where
  pub more : List ℕ
  pub took : Loses before more after
  pub bytes : kept_of new ≡ kept_of old ++ more
  pub ends : EndsHead end after (kept_of new) new.spans.items

-- a piece came behind the kept bytes
pub record Grows (left left' : Option (List ℕ)) (old new : Reader) : Type 0 where
  pub bytes : List ℕ
  pub some : 0 < length bytes
  pub took : Loses left bytes left'
  pub kept : kept_of new ≡ kept_of old ++ bytes
  pub count : new.kept ≡ old.kept + length bytes

-- nothing came
pub record Stays (left left' : Option (List ℕ)) (old new : Reader) : Type 0 where
  pub still : left' ≡ left
  pub kept : kept_of new ≡ kept_of old
  pub count : new.kept ≡ old.kept

-- what a read did, by its answer
abbrev pub Fills : Took → Option (List ℕ) → Option (List ℕ) → Reader → Reader → Type 0
Fills (Bytes n) left left' old new = Grows left left' old new
Fills TookEnd left left' old new = Stays left left' old new × IsSpent left
Fills Failed left left' old new = Stays left left' old new
