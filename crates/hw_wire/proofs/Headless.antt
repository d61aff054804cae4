-- Where no head that is short enough begins all bytes, their front decides what a reading answers.
use Rattle.std.proofs.Common.{◌≡◌, ◌≢◌, ◌<◌, ◌≤◌, ◌⊎◌, inl, inr, ℕ, List, [], ◌+◌, ◌-◌, ◌++◌, length, take, arith, ap, subst, sym, ◌∙◌, append-nil, append_assoc, length-append}
use Rattle.std.proofs.Math.Seq.{take-append_seam, take-append-add}
use Rattle.httparse.specs.Grammar.{RequestHead, HasNoRequest, MayBecomeRequest, NeverHasRequest}
use Rattle.hw_wire.specs.Laws.{FrontsDecide}
use Rattle.hw_wire.specs.Requests.{BeginsWith, IsCut, IsRefused}
use Rattle.hw_wire.specs.declared.fields.HeadFault.{HeadFault}
use Rattle.hw_wire.specs.declared.fields.HeadFault.TheVariants as fault
use Rattle.hw_wire.specs.declared.requests.ReadEnd.TheVariants.{Request, End, Cut, BadHead, HeadTooLong, Chunked, BodyTooLong, ReadFault, NoMemory}
use Rattle.hw_wire.proofs.Begins.{begins_all}

-- no head begins these bytes
abbrev IsWithout : List ℕ → Type 0
IsWithout all = (head : RequestHead) (rest : List ℕ) → BeginsWith all head rest → ⊥

unrefused : (fault : HeadFault) (all bytes left : List ℕ) → IsWithout all → all ≡ bytes ++ left
    → IsRefused fault bytes → ⊥
unrefused fault all bytes left without cut is =
    without is.head (is.rest ++ left) (begins_all all bytes left is.rest is.head cut is.begins)

in_head : (all bytes : List ℕ) → IsWithout all → all ≡ bytes → IsCut bytes
    → (all ≢ []) × (length all < 16384) × MayBecomeRequest all
in_head all bytes without same (inl (some, few, inside)) = (
  (λ none. some (sym same ∙ none)),
  omega (arith, few, ap (λ t. length t) same),
  subst MayBecomeRequest (sym same) inside.1,
)
in_head all bytes without same (inr body) =
    absurd (without body.head (body.rest ++ [])
    (begins_all all bytes [] body.rest body.head (same ∙ sym (append-nil bytes)) body.begins))

-- bytes that are no more than so many are in the front of that size
in_front : (all bytes left : List ℕ) (size : ℕ) → length bytes ≤ size → all ≡ bytes ++ left
    → take size all ≡ bytes ++ take (size - length bytes) left
in_front all bytes left size few cut =
    let whole : length bytes + (size - length bytes) ≡ size = omega (arith, few) in
    ap (λ t. take size t) cut
    ∙ ap (λ n. take n (bytes ++ left)) (sym whole)
    ∙ take-append-add bytes left (size - length bytes)

never_longer : (bytes more : List ℕ) → NeverHasRequest bytes → NeverHasRequest (bytes ++ more)
never_longer bytes more never others =
    subst HasNoRequest (sym (append_assoc bytes more others)) (never (more ++ others))

bad_front : (all bytes left : List ℕ) → IsWithout all → all ≡ bytes ++ left
    → ((length bytes ≤ 16384) × NeverHasRequest bytes) ⊎ IsRefused fault.BadHead bytes
    → NeverHasRequest (take 16384 all)
bad_front all bytes left without cut (inl (few, never)) =
    subst NeverHasRequest (sym (in_front all bytes left 16384 few cut)) (never_longer bytes _ never)
bad_front all bytes left without cut (inr is) =
    absurd (unrefused fault.BadHead all bytes left without cut is)

long_front : (all bytes left : List ℕ) → all ≡ bytes ++ left → length bytes ≡ 16384
    → MayBecomeRequest bytes → (16384 ≤ length all) × MayBecomeRequest (take 16384 all)
long_front all bytes left cut size may =
    let front : take 16384 all ≡ bytes =
    ap (λ t. take 16384 t) cut ∙ ap (λ n. take n (bytes ++ left)) (sym size)
    ∙ take-append_seam bytes left in (
      omega (arith, size, ap (λ t. length t) cut, length-append bytes left),
      subst MayBecomeRequest (sym front) may,
    )

pub headless : FrontsDecide
headless all (Request request) bytes kept left without cut ends =
    without ends.head _ (begins_all all bytes left _ ends.head cut ends.begins)
headless all End bytes kept left without cut ends = cut ∙ ap (λ t. t ++ left) ends.0 ∙ ends.1
headless all Cut bytes kept left without cut ends =
    let same : all ≡ bytes = cut ∙ ap (λ t. bytes ++ t) ends.1 ∙ append-nil bytes in
    in_head all bytes without same ends.0
headless all BadHead bytes kept left without cut ends = bad_front all bytes left without cut ends
headless all HeadTooLong bytes kept left without cut ends =
    long_front all bytes left cut ends.0 ends.1.1
headless all Chunked bytes kept left without cut ends =
    unrefused fault.Chunked all bytes left without cut ends
headless all BodyTooLong bytes kept left without cut ends =
    unrefused fault.BodyTooLong all bytes left without cut ends
headless all ReadFault bytes kept left without cut ends = tt
headless all NoMemory bytes kept left without cut ends = tt
