-- What is left of a list by a closure that answers what a test does.
use Rattle.std.proofs.Common.{◌≡◌, Bool, true, false, cond, List, [], ◌∷◌, length, filter, ap, refl, ◌∙◌, arith}
use denote.Param.Members.{Mut}
use denote.Ref.{Bor}
use Rattle.std.specs.Fn.{CalledAt, ComputesKey}
use Rattle.std.specs.List.{items_where_true}
use Rattle.std.specs.List.Retain.{IsFiltered, ReturnsInTurn}

module _ {F X : Type 0} (g : Mut F (Bor X × Unit {0}) Bool) (test : X → Bool) where
  -- one call answers what the test does, and so do those after it
  one_call : (f : F) (x : X) (b : Bool) (f' : F) → ComputesKey g test f → CalledAt g f x b f' → (b ≡ test x) × ComputesKey g test f'
  one_call f x b f' computes call =
      let step = λ (args : List (Bor X × Unit {0})). computes.at ((call.shown, tt) ∷ args) b f' call.called in
      ((step []).0 ∙ ap test call.shows, record { at = λ args. (step args).1 })

  kept_in_turn : (xs : List X) (bs : List Bool) (f last : F) → length bs ≡ length xs → ComputesKey g test f → ReturnsInTurn (CalledAt g) f bs xs last → items_where_true bs xs ≡ filter test xs
  kept_in_turn [] [] f last long computes calls = refl
  kept_in_turn [] (b ∷ bs) f last long computes calls = refl
  kept_in_turn (x ∷ xs) [] f last long computes calls = absurd (omega (arith, long))
  kept_in_turn (x ∷ xs) (b ∷ bs) f last long computes calls =
      let (f', call, others) = calls in
      let answer = one_call f x b f' computes call in
      go b answer.0 (kept_in_turn xs bs f' last (omega (arith, long)) answer.1 others)
    where
      go : (b : Bool) → b ≡ test x → items_where_true bs xs ≡ filter test xs → items_where_true (b ∷ bs) (x ∷ xs) ≡ cond (test x) (x ∷ filter test xs) (filter test xs)
      go true is rest = rw (← is) (ap (λ ys. x ∷ ys) rest)
      go false is rest = rw (← is) rest

  pub filter_from_calls : (f : F) (xs ys : List X) → ComputesKey g test f → IsFiltered (CalledAt g) f xs ys → ys ≡ filter test xs
  filter_from_calls f xs ys computes (bs, last, long, calls, is) = is ∙ kept_in_turn xs bs f last long computes calls
