-- Heads at the front of bytes.
use Rattle.std.proofs.Common.{◌≡◌, List, ℕ, ◌++◌, ap, ◌∙◌, append_assoc}
use Rattle.httparse.specs.Grammar.{RequestHead, print_request}
use Rattle.hw_wire.specs.Requests.{BeginsWith}

-- a head that begins some of the bytes begins all
pub begins_all : (all bytes left rest : List ℕ) (head : RequestHead) → all ≡ bytes ++ left
    → BeginsWith bytes head rest → BeginsWith all head (rest ++ left)
begins_all all bytes left rest head cut begins = record {
  valid = begins.valid;
  spelled = cut ∙ ap (λ t. t ++ left) begins.spelled ∙ append_assoc (print_request head) rest left;
  short = begins.short;
}
