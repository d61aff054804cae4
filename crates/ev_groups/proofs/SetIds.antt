-- An id that is set into rising ids stands behind those below it.
use Rattle.std.proofs.Common.{◌≡◌, ◌<◌, ℕ, zero, suc, true, false, cond, ◌&&◌, List, [], ◌∷◌, ◌++◌, length, take, drop, get_or, sym, ap, refl, ◌∙◌, drop-cons, arith}
use Rattle.std.proofs.Math.Seq.{drop-length}
use Rattle.std.specs.Prelude.{nat_lt, ◌==◌}
use Rattle.std.specs.List.{insert, list_all}
use Rattle.std.proofs.lemmas.Bool.{and_parts}
use Rattle.std.proofs.lemmas.Bool.Decides.{nat_tests}
use Rattle.std.proofs.lemmas.List.{take-append-drop}
use Rattle.ev_base.specs.declared.ids.MessageId.{MessageId}
use Rattle.ev_groups.specs.Groups.{with_id}
use Rattle.ev_groups.specs.Places.{are_below}

-- ids below the new one stay before it
passes_below : (at : ℕ) (ids : List MessageId) (new : MessageId) → are_below at ids new ≡ true → with_id ids new ≡ take at ids ++ with_id (drop at ids) new
passes_below zero ids new below = refl
passes_below (suc at) [] new below = refl
passes_below (suc at) (id ∷ ids) new below =
    let parts = and_parts (nat_lt id.0 new.0) (are_below at ids new) below in
    let first : nat_lt id.0 new.0 ≡ true = parts.0 in
    let less : nat_lt new.0 id.0 ≡ false = grind (arith, nat_tests) in
    let equal : (new.0 == id.0) ≡ false = grind (arith, nat_tests) in
    (λ i. cond (less i) (new ∷ id ∷ ids) (cond (equal i) (id ∷ ids) (id ∷ with_id ids new)))
    ∙ ap (λ l. id ∷ l) (passes_below at ids new parts.1)

-- it is put where the next one is above it, or there is none
pub with_id-new : (ids : List MessageId) (at : ℕ) (new : MessageId) → are_below at ids new ≡ true → at ≡ length ids → with_id ids new ≡ insert ids at new
with_id-new ids at new below end =
    let none : drop at ids ≡ [] = ap (λ n. drop n ids) end ∙ drop-length ids in
    passes_below at ids new below ∙ ap (λ l. take at ids ++ with_id l new) none ∙ sym (ap (λ l. take at ids ++ new ∷ l) none)

pub with_id-between : (ids : List MessageId) (at : ℕ) (new d : MessageId) → are_below at ids new ≡ true → at < length ids → new.0 < (get_or ids at d).0 → with_id ids new ≡ insert ids at new
with_id-between ids at new d below within above =
    let next : drop at ids ≡ get_or ids at d ∷ drop (suc at) ids = drop-cons ids at d within in
    let less : nat_lt new.0 (get_or ids at d).0 ≡ true = grind (arith, nat_tests) in
    passes_below at ids new below
    ∙ ap (λ l. take at ids ++ with_id l new) next
    ∙ ap (λ test. take at ids ++ cond test (new ∷ get_or ids at d ∷ drop (suc at) ids) (cond (new.0 == (get_or ids at d).0) (get_or ids at d ∷ drop (suc at) ids) (get_or ids at d ∷ with_id (drop (suc at) ids) new))) less
    ∙ ap (λ l. take at ids ++ new ∷ l) (sym next)

-- and it may be there already
pub with_id-old : (ids : List MessageId) (at : ℕ) (new d : MessageId) → are_below at ids new ≡ true → at < length ids → new.0 ≡ (get_or ids at d).0 → with_id ids new ≡ ids
with_id-old ids at new d below within same =
    let next : drop at ids ≡ get_or ids at d ∷ drop (suc at) ids = drop-cons ids at d within in
    let less : nat_lt new.0 (get_or ids at d).0 ≡ false = grind (arith, nat_tests) in
    let equal : (new.0 == (get_or ids at d).0) ≡ true = grind (arith, nat_tests) in
    passes_below at ids new below
    ∙ ap (λ l. take at ids ++ with_id l new) next
    ∙ (λ i. take at ids ++ cond (less i) (new ∷ get_or ids at d ∷ drop (suc at) ids) (cond (equal i) (get_or ids at d ∷ drop (suc at) ids) (get_or ids at d ∷ with_id (drop (suc at) ids) new)))
    ∙ ap (λ l. take at ids ++ l) (sym next)
    ∙ take-append-drop at ids

-- what is below one is below a greater one
pub below-further : (at : ℕ) (ids : List MessageId) (last new : MessageId) → last.0 < new.0 → are_below at ids last ≡ true → are_below at ids new ≡ true
below-further at ids last new less below = go (take at ids) below
  where
    go : (those : List MessageId) → list_all (λ (id : MessageId). nat_lt id.0 last.0) those ≡ true → list_all (λ (id : MessageId). nat_lt id.0 new.0) those ≡ true
    go [] all = refl
    go (id ∷ those) all =
        let parts = and_parts (nat_lt id.0 last.0) (list_all (λ (other : MessageId). nat_lt other.0 last.0) those) all in
        let first : nat_lt id.0 last.0 ≡ true = parts.0 in
        let one : nat_lt id.0 new.0 ≡ true = grind (arith, nat_tests) in
        λ i. (one i && go those parts.1 i)
