-- A head at the front of all bytes decides what a reading answers.
use Rattle.std.proofs.Common.{◌≡◌, ◌<◌, ◌≤◌, ◌⊎◌, inl, inr, ℕ, List, [], ◌++◌, length, take, drop, Ok, Err, arith, ap, subst, sym, ◌∙◌, append-nil, append_assoc, length-append, take-append-drop}
use Rattle.std.proofs.Math.Seq.{take-append_seam}
use Rattle.std.proofs.lemmas.List.{take-append-le}
use Rattle.httparse.specs.Grammar.{RequestHead, print_request, NeverHasRequest, HasNoRequest}
use Rattle.httparse.proofs.GrammarLemmas.{request_unique}
use Rattle.hw_wire.specs.Laws.{HeadsDecide, announced}
use Rattle.hw_wire.specs.Requests.{BeginsWith, IsCut, IsRefused, Says}
use Rattle.hw_wire.specs.declared.fields.HeadFault.{HeadFault}
use Rattle.hw_wire.specs.declared.fields.HeadFault.TheVariants as fault
use Rattle.hw_wire.specs.declared.requests.ReadEnd.TheVariants.{Request, End, Cut, BadHead, HeadTooLong, Chunked, BodyTooLong, ReadFault, NoMemory}
use Rattle.hw_wire.proofs.Begins.{begins_all}
use Rattle.hw_wire.proofs.Lengths.{some_head}

-- the front of a list that begins with both
front : (a b c d : List ℕ) → a ++ b ≡ c ++ d → length c ≤ length a → a ≡ c ++ drop (length c) a
front a b c d same few =
    let n = length c in
    sym (take-append-drop n a)
    ∙ ap (λ t. t ++ drop n a)
    (sym (take-append-le n a b few) ∙ ap (λ t. take n t) same ∙ take-append_seam c d)

-- a head that begins some of the bytes is the one that begins all
same_head : (all bytes left rest others : List ℕ) (head other : RequestHead) → all ≡ bytes ++ left
    → BeginsWith all head rest → BeginsWith bytes other others → (other ≡ head) × (others ++ left ≡ rest)
same_head all bytes left rest others head other cut begins inner =
    request_unique all other head (others ++ left) rest
    (inner.valid, (begins_all all bytes left others other cut inner).spelled)
    (begins.valid, begins.spelled)

refused : (fault : HeadFault) (all bytes left rest : List ℕ) (head : RequestHead) → all ≡ bytes ++ left
    → BeginsWith all head rest → IsRefused fault bytes → announced head ≡ Err fault
refused fault all bytes left rest head cut begins is =
    sym (ap announced (same_head all bytes left rest is.rest head is.head cut begins is.begins).0) ∙ is.wrong

ended : (all rest : List ℕ) (head : RequestHead) → BeginsWith all head rest → all ≡ [] → ⊥
ended all rest head begins none =
    absurd (omega (
      arith,
      some_head head,
      ap (λ t. length t) none,
      ap (λ t. length t) begins.spelled,
      length-append (print_request head) rest,
    ))

in_body : (all bytes rest : List ℕ) (head : RequestHead) → all ≡ bytes → BeginsWith all head rest
    → IsCut bytes → (wanted : ℕ) × (announced head ≡ Ok wanted) × (length rest < wanted)
in_body all bytes rest head cut begins (inl (some, few, inside)) =
    absurd (inside.0 head rest (begins.valid, sym cut ∙ begins.spelled))
in_body all bytes rest head cut begins (inr body) =
    let whole = cut ∙ sym (append-nil bytes) in
    let same = same_head all bytes [] rest body.rest head body.head whole begins body.begins in
    let few : length rest < body.wanted =
    omega (arith, body.few, ap (λ t. length t) same.1, length-append body.rest []) in
    (body.wanted, sym (ap announced same.0) ∙ body.announced, few)

bad_head : (all bytes left rest : List ℕ) (head : RequestHead) → all ≡ bytes ++ left
    → BeginsWith all head rest
    → ((length bytes ≤ 16384) × NeverHasRequest bytes) ⊎ IsRefused fault.BadHead bytes
    → announced head ≡ Err fault.BadHead
bad_head all bytes left rest head cut begins (inl (few, never)) =
    absurd (never left head rest (begins.valid, sym cut ∙ begins.spelled))
bad_head all bytes left rest head cut begins (inr is) =
    refused fault.BadHead all bytes left rest head cut begins is

too_long : (all bytes left rest : List ℕ) (head : RequestHead) → all ≡ bytes ++ left
    → BeginsWith all head rest → length bytes ≡ 16384 → HasNoRequest bytes → ⊥
too_long all bytes left rest head cut begins size none =
    let few : length (print_request head) ≤ length bytes = omega (arith, begins.short, size) in
    none head _ (begins.valid, front bytes left (print_request head) rest (sym cut ∙ begins.spelled) few)

pub decided : HeadsDecide
decided all rest head (Request request) bytes kept left begins cut ends =
    let same = same_head all bytes left rest _ head ends.head cut begins ends.begins in (
      subst (λ h. Says h _ _ _ _) same.0 ends.says,
      sym (ap announced same.0) ∙ ends.announced,
      sym same.1 ∙ append_assoc request.body.items kept left,
    )
decided all rest head End bytes kept left begins cut ends =
    ended all rest head begins (cut ∙ ap (λ t. t ++ left) ends.0 ∙ ends.1)
decided all rest head Cut bytes kept left begins cut ends =
    in_body all bytes rest head (cut ∙ ap (λ t. bytes ++ t) ends.1 ∙ append-nil bytes) begins ends.0
decided all rest head BadHead bytes kept left begins cut ends =
    bad_head all bytes left rest head cut begins ends
decided all rest head HeadTooLong bytes kept left begins cut ends =
    too_long all bytes left rest head cut begins ends.0 ends.1.0
decided all rest head Chunked bytes kept left begins cut ends =
    refused fault.Chunked all bytes left rest head cut begins ends
decided all rest head BodyTooLong bytes kept left begins cut ends =
    refused fault.BodyTooLong all bytes left rest head cut begins ends
decided all rest head ReadFault bytes kept left begins cut ends = tt
decided all rest head NoMemory bytes kept left begins cut ends = tt
