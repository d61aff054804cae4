-- Line feeds in lists of bytes, and the bytes of lines.
use Rattle.std.proofs.Common.{◌≡◌, ℕ, zero, suc, ◌+◌, ◌-◌, ◌<◌, ◌≤◌, Bool, true, false, cond, not, ltb, ◌||◌, ◌==◌, None, Some, List, [], ◌∷◌, ◌++◌, length, get_or, take, drop, refl, sym, ap, subst, ◌∙◌, arith, append_assoc, length-append, map, take-add, drop-cons, length-drop}
use Rattle.std.specs.List.{list_any, position, position_or_len}
use Rattle.std.proofs.Math.Seq.{take-suc, paste, take-append_seam, drop-append_seam}
use Rattle.std.proofs.lemmas.Bool.{eqb-true, ltb-false}
use Rattle.std.proofs.lemmas.List.{take_rest, take-append-drop, take-append-le, take-take, length-take-le, drop-take}
use Rattle.std.proofs.lemmas.List.Edits.{take-paste}
use Rattle.std.proofs.lemmas.List.Quantifiers.{position-Some}
use Rattle.std.proofs.lemmas.List.Folds.{list_any_more}
use Rattle.zm_run.specs.Inputs.{HasNoFeed, bytes_of}

abbrev pub is_feed : ℕ → Bool
is_feed byte = byte == 10

-- where no byte of the first so many is a line feed, these have none
no_feed_in : (bytes : List ℕ) (n : ℕ) → n ≤ length bytes → ((k : ℕ) → k < n → is_feed (get_or bytes k 0) ≡ false) → HasNoFeed (take n bytes)
no_feed_in bytes zero within none = refl
no_feed_in bytes (suc n) within none =
    let before = no_feed_in bytes n (omega arith) (λ k below. none k (omega arith)) in
    let here = none n (omega arith) in
    let more = list_any_more is_feed bytes n 0 (omega arith) in
    let next : n + 1 ≡ suc n = omega arith in
    subst (λ k. HasNoFeed (take k bytes)) next (more ∙ ap (λ b. b || is_feed (get_or bytes n 0)) before ∙ here)

-- where no byte is found, there is none
no_feed_found : (bytes : List ℕ) → length bytes ≤ position_or_len is_feed bytes → HasNoFeed bytes
no_feed_found [] within = refl
no_feed_found (byte ∷ bytes) within =
    let goes : (b : Bool) → (length bytes ≤ position_or_len is_feed bytes → HasNoFeed bytes)
    → suc (length bytes) ≤ cond (not b) (1 + position_or_len is_feed bytes) 0 → (b || list_any is_feed bytes) ≡ false =
    λ b. elim b as (λ v. (length bytes ≤ position_or_len is_feed bytes → HasNoFeed bytes)
    → suc (length bytes) ≤ cond (not v) (1 + position_or_len is_feed bytes) 0 → (v || list_any is_feed bytes) ≡ false)
    [ true ↦ λ more long. absurd (omega arith) | false ↦ λ more long. more (omega arith) ] in
    goes (is_feed byte) (no_feed_found bytes) within

-- what the place of the first line feed says
feed_found : (bytes : List ℕ) (at : ℕ) → position is_feed bytes ≡ Some at
    → (at < length bytes) × (HasNoFeed (take at bytes) × (get_or bytes at 0 ≡ 10))
feed_found bytes at found =
    let says = position-Some is_feed bytes at 0 found in
    (says.0, (no_feed_in bytes at (omega (arith, says.0)) says.2, eqb-true (get_or bytes at 0) 10 says.1))

feed_missing : (bytes : List ℕ) → position is_feed bytes ≡ None → HasNoFeed bytes
feed_missing bytes missing =
    let place = position_or_len is_feed bytes in
    let goes : (b : Bool) → ltb place (length bytes) ≡ b → cond b (Some place) None ≡ None → HasNoFeed bytes =
    λ b. elim b as (λ v. ltb place (length bytes) ≡ v → cond v (Some place) None ≡ None → HasNoFeed bytes)
    [ true ↦ λ test same. cc | false ↦ λ test same. no_feed_found bytes (ltb-false place (length bytes) test) ] in
    goes (ltb place (length bytes)) refl missing

-- there is a line feed, the first one
pub record IsFeedAt (bytes : List ℕ) (at : ℕ) : Type 0 where
  pub below : at < length bytes
  pub no_feed : HasNoFeed (take at bytes)
  pub feed : get_or bytes at 0 ≡ 10

-- what the search of a feed behind the first so many bytes says
pub feed_behind : (bytes : List ℕ) (used at : ℕ) → Some at ≡ position is_feed (take (length bytes - used) (drop used bytes)) → IsFeedAt (drop used bytes) at
feed_behind bytes used at found =
    let says = feed_found (drop used bytes) at (sym (found ∙ ap (λ t. position is_feed t) (take_rest bytes used))) in
    record { below = says.0; no_feed = says.1.0; feed = says.1.1 }

pub no_feed_behind : (bytes : List ℕ) (used : ℕ) → None ≡ position is_feed (take (length bytes - used) (drop used bytes)) → HasNoFeed (drop used bytes)
no_feed_behind bytes used missing = feed_missing (drop used bytes) (sym (missing ∙ ap (λ t. position is_feed t) (take_rest bytes used)))

-- a line behind the first so many bytes, with its feed
pub line_taken : (bytes : List ℕ) (used n : ℕ) → n < length (drop used bytes) → get_or (drop used bytes) n 0 ≡ 10
    → take (used + n + 1) bytes ≡ take used bytes ++ (take n (drop used bytes) ++ 10 ∷ [])
line_taken bytes used n below feed =
    let regroup : used + n + 1 ≡ used + suc n = omega arith in
    let first = take-add used (suc n) bytes in
    let last = take-suc (drop used bytes) n 0 below in
    ap (λ k. take k bytes) regroup ∙ first ∙ ap (λ front. take used bytes ++ front) (last ∙ ap (λ byte. take n (drop used bytes) ++ byte ∷ []) feed)

-- a line here, its feed, and more
pub line_begins : (bytes : List ℕ) (n : ℕ) → n < length bytes → get_or bytes n 0 ≡ 10 → bytes ≡ take n bytes ++ 10 ∷ drop (suc n) bytes
line_begins bytes n below feed =
    let split = take-append-drop n bytes in
    let rest = drop-cons bytes n 0 below in
    sym split ∙ ap (λ back. take n bytes ++ back) (rest ∙ ap (λ byte. byte ∷ drop (suc n) bytes) feed)

-- lines have at least as many bytes as there are lines
pub lines_within : (lines : List (List ℕ)) → length lines ≤ length (bytes_of lines)
lines_within [] = omega arith
lines_within (line ∷ before) =
    let rest = lines_within before in
    let split = length-append (bytes_of before) (line ++ 10 ∷ []) in
    let last = length-append line (10 ∷ []) in
    omega arith

-- the front of a buffer after a read into its middle
pub filled : (buffer into rest more : List ℕ) (held count room : ℕ) → held ≤ length buffer → count ≤ length into → held + count ≤ room
    → take (held + count) (take room ((take held buffer ++ (into ++ rest)) ++ more)) ≡ take held buffer ++ take count into
filled buffer into rest more held count room within few fits =
    let front = take held buffer in
    let back = (into ++ rest) ++ more in
    let size : length front ≡ held = length-take-le held buffer within in
    let first : take held (front ++ back) ≡ front = subst (λ n. take n (front ++ back) ≡ front) size (take-append_seam front back) in
    let others : drop held (front ++ back) ≡ back = subst (λ n. drop n (front ++ back) ≡ back) size (drop-append_seam front back) in
    let last : take count back ≡ take count into =
    ap (λ t. take count t) (append_assoc into rest more) ∙ take-append-le count into (rest ++ more) few in
    take-take (held + count) room ((front ++ (into ++ rest)) ++ more) fits
    ∙ ap (λ t. take (held + count) t) (append_assoc front (into ++ rest) more)
    ∙ take-add held count (front ++ back)
    ∙ ap (λ t. t ++ take count (drop held (front ++ back))) first
    ∙ ap (λ t. front ++ take count t) others
    ∙ ap (λ t. front ++ t) last

-- the front of a buffer after the first bytes were moved out
pub consumed : (buffer : List ℕ) (used held : ℕ) → used ≤ held → held ≤ length buffer
    → take (held - used) (paste buffer 0 (drop used buffer) (held - used)) ≡ drop used (take held buffer)
consumed buffer used held ordered within =
    let rest = held - used in
    let zero_more : 0 + rest ≡ rest = omega arith in
    let all : used + rest ≡ held = omega arith in
    let enough : rest ≤ length (drop used buffer) = omega (arith, length-drop used buffer) in
    let moved : take rest (paste buffer 0 (drop used buffer) rest) ≡ take rest (drop used buffer) =
    subst (λ n. take n (paste buffer 0 (drop used buffer) rest) ≡ take rest (drop used buffer)) zero_more
    (take-paste buffer 0 (drop used buffer) rest (omega arith) enough) in
    moved ∙ sym (drop-take used rest buffer) ∙ ap (λ n. drop used (take n buffer)) all

-- a list of one element
pub one_mapped : {X Y : Type 0} (f : X → Y) (xs : List X) (x : X) → length xs ≡ 1 → map f xs ≡ f (get_or xs 0 x) ∷ []
one_mapped f [] x one = absurd (omega arith)
one_mapped f (y ∷ []) x one = refl
one_mapped f (y ∷ z ∷ xs) x one = absurd (omega arith)
