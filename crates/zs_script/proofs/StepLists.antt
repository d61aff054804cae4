-- Lines spell one list of steps at most.
use Rattle.std.proofs.Common.{◌≡◌, ℕ, List, [], ◌∷◌, refl, sym, ◌∙◌, subst, inl, inr}
use Rattle.zs_script.specs.declared.step.Step.{Step}
use Rattle.zs_script.specs.Grammar.{Spells}
use Rattle.zs_script.specs.Scripts.{AreSpelled, setting_of}
use Rattle.zs_script.proofs.Meanings.{one_step, passed_over}

-- the same line spells one step, after the same steps
one_more : (line : List ℕ) (a b : Step) (earlier others : List Step) → Spells (setting_of earlier) line a → Spells (setting_of others) line b → earlier ≡ others → a ∷ earlier ≡ b ∷ others
one_more line a b earlier others is_a is_b same =
    let P : List Step → Type 0 = λ steps. Spells (setting_of steps) line b in
    let step = one_step (setting_of earlier) line a b is_a (subst P (sym same) is_b) in
    λ i. step i ∷ same i

pub one_list : (lines : List (List ℕ)) (a b : List Step) → AreSpelled lines a → AreSpelled lines b → a ≡ b
one_list [] a b is_a is_b = is_a ∙ sym is_b
one_list (line ∷ lines) [] [] is_a is_b = refl
one_list (line ∷ lines) [] (y ∷ b) is_a (inl is_b) = one_list lines [] (y ∷ b) is_a.1 is_b.1
one_list (line ∷ lines) [] (y ∷ b) is_a (inr is_b) = absurd (passed_over (setting_of b) line y is_a.0 is_b.0)
one_list (line ∷ lines) (x ∷ a) [] (inl is_a) is_b = one_list lines (x ∷ a) [] is_a.1 is_b.1
one_list (line ∷ lines) (x ∷ a) [] (inr is_a) is_b = absurd (passed_over (setting_of a) line x is_b.0 is_a.0)
one_list (line ∷ lines) (x ∷ a) (y ∷ b) (inl is_a) (inl is_b) = one_list lines (x ∷ a) (y ∷ b) is_a.1 is_b.1
one_list (line ∷ lines) (x ∷ a) (y ∷ b) (inl is_a) (inr is_b) = absurd (passed_over (setting_of b) line y is_a.0 is_b.0)
one_list (line ∷ lines) (x ∷ a) (y ∷ b) (inr is_a) (inl is_b) = absurd (passed_over (setting_of a) line x is_b.0 is_a.0)
one_list (line ∷ lines) (x ∷ a) (y ∷ b) (inr is_a) (inr is_b) =
    one_more line x y a b is_a.0 is_b.0 (one_list lines a b is_a.1 is_b.1)
