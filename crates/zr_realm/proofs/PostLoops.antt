-- Loops over the ids of a change.
use Rattle.std.proofs.Common.{◌≡◌, ℕ, ◌+◌, ◌-◌, ◌<◌, suc, List, [], ◌∷◌, ◌++◌, fold, get_or, length, replicate, take, sym, ap, ◌∙◌, arith}
use Rattle.std.proofs.lemmas.List.{map-append, take_more}
use Rattle.std.proofs.lemmas.List.Sums.{fold-append}
use Rattle.ev_base.specs.declared.ids.MessageId.{MessageId}
use Rattle.zr_realm.specs.Parts.{messages_of}

module _ (numbers : List ℕ) (at number default : ℕ) (within : at < length numbers) (is : number ≡ get_or numbers at default) where
  one_more : take (at + 1) numbers ≡ take at numbers ++ number ∷ []
  one_more = take_more numbers at default within ∙ ap (λ n. take at numbers ++ n ∷ []) (sym is)

  -- one more message
  pub fold_more : {C : Type 0} (step : C → MessageId → C) (start : C)
      → fold step start (messages_of (take (at + 1) numbers)) ≡ step (fold step start (messages_of (take at numbers))) (record { 0 = number })
  fold_more step start =
      ap (λ taken. fold step start (messages_of taken)) one_more
      ∙ ap (fold step start) (map-append (λ n. record { 0 = n }) (take at numbers) (number ∷ []))
      ∙ fold-append step start (messages_of (take at numbers)) (record { 0 = number } ∷ [])

-- the next of equal texts
pub next_text : (count at : ℕ) (text next : List ℕ) (before rest : List (List ℕ)) → at < count → before ≡ replicate (count - at) text → before ≡ next ∷ rest
    → (next ≡ text) × (rest ≡ replicate (count - (at + 1)) text)
next_text count at text next before rest within all first =
    let more : count - at ≡ suc (count - (at + 1)) = omega arith in
    let same : next ∷ rest ≡ text ∷ replicate (count - (at + 1)) text = sym first ∙ all ∙ ap (λ n. replicate n text) more in
    (cc, cc)
