-- Steps that settle: a list of them done again leaves what it left.
use Rattle.std.proofs.Common.{◌≡◌, List, [], ◌∷◌, ◌++◌, fold, sym, ap, refl, ◌∙◌, append_assoc}
use Rattle.std.proofs.lemmas.List.Sums.{fold-append}
use Rattle.ev_types.specs.Settling.{Settles}

module _ {C W : Type 0} (step : C → W → C) (settles : Settles step) where
  -- a step that comes again after others may be left out before them
  later_again : (c : C) (w : W) (between : List W) → step (fold step (step c w) between) w ≡ step (fold step c between) w
  later_again c w [] = settles.again c w
  later_again c w (x ∷ between) =
      sym (later_again (step (step c w) x) w between)
      ∙ ap (λ d. step (fold step d between) w) (settles.past c w x)
      ∙ later_again (step c x) w between

  -- and so may one that is among those that follow
  again_among : (c : C) (w : W) (before after : List W) → fold step (step c w) (before ++ w ∷ after) ≡ fold step c (before ++ w ∷ after)
  again_among c w before after =
      fold-append step (step c w) before (w ∷ after)
      ∙ ap (λ d. fold step d after) (later_again c w before)
      ∙ sym (fold-append step c before (w ∷ after))

  -- and so may a list of them
  all_among : (c : C) (before after : List W) → fold step (fold step c after) (before ++ after) ≡ fold step c (before ++ after)
  all_among c before [] = refl
  all_among c before (w ∷ after) =
      let grouped = append_assoc before (w ∷ []) after in
      ap (fold step (fold step (step c w) after)) (sym grouped)
      ∙ all_among (step c w) (before ++ w ∷ []) after
      ∙ ap (fold step (step c w)) grouped
      ∙ again_among c w before after

  -- steps done again leave what they left
  pub fold-again : (c : C) (steps : List W) → fold step (fold step c steps) steps ≡ fold step c steps
  fold-again c steps = all_among c [] steps
