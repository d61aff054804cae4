-- Lists that grow by what is made of one element after another.
use Rattle.std.proofs.Common.{◌≡◌, ◌∙◌, ℕ, ◌+◌, ◌<◌, List, [], ◌∷◌, ◌++◌, length, get_or, take, flat_map, append_assoc, append-nil, ap, sym}
use Rattle.std.proofs.lemmas.List.Concat.{flat_map-append}
use Rattle.ev_laws.proofs.Loops.{take_next}

module _ {X E : Type 0} (make : X → List E) (xs : List X) (i : ℕ) (x : X) (start now next : List E) where
  pub flat_map_more : now ≡ start ++ flat_map make (take i xs) → next ≡ now ++ make x → i < length xs → x ≡ get_or xs i x → next ≡ start ++ flat_map make (take (i + 1) xs)
  flat_map_more so_far more within is =
      more
      ∙ ap (λ l. l ++ make x) so_far
      ∙ append_assoc start (flat_map make (take i xs)) (make x)
      ∙ ap (λ l. start ++ (flat_map make (take i xs) ++ l)) (sym (append-nil (make x)))
      ∙ ap (λ l. start ++ l) (sym (flat_map-append make (take i xs) (x ∷ [])))
      ∙ ap (λ l. start ++ flat_map make l) (sym (take_next xs i x within is))
