-- Lists that grow by an item after another.
use Rattle.std.proofs.Common.{◌≡◌, ℕ, ◌+◌, ◌<◌, List, [], ◌∷◌, ◌++◌, length, take, get_or, map, flat_map, ap, sym, ◌∙◌, append_assoc, append-nil, arith}
use Rattle.std.proofs.lemmas.Grind.{common_steps}
use Rattle.std.proofs.lemmas.List.{map-append}
use Rattle.std.proofs.lemmas.List.Concat.{flat_map-append}

module _ {X : Type 0} (xs : List X) (i : ℕ) (x : X) (within : i < length xs) (is : x ≡ get_or xs i x) where
  -- the items up to the next place
  pub take_next : take (i + 1) xs ≡ take i xs ++ x ∷ []
  take_next = grind (arith, common_steps)

module _ {X Y : Type 0} (xs : List X) (i : ℕ) (x : X) (within : i < length xs) (is : x ≡ get_or xs i x) where
  -- what is made of them
  pub map_next : (make : X → Y) (start now next : List Y) → now ≡ start ++ map make (take i xs) → next ≡ now ++ make x ∷ []
      → next ≡ start ++ map make (take (i + 1) xs)
  map_next make start now next grown more =
      more ∙ ap (λ l. l ++ make x ∷ []) grown ∙ append_assoc start (map make (take i xs)) (make x ∷ [])
      ∙ ap (λ l. start ++ l) (sym (ap (map make) (take_next xs i x within is) ∙ map-append make (take i xs) (x ∷ [])))

  pub flat_map_next : (make : X → List Y) (start now next : List Y) → now ≡ start ++ flat_map make (take i xs) → next ≡ now ++ make x
      → next ≡ start ++ flat_map make (take (i + 1) xs)
  flat_map_next make start now next grown more =
      more ∙ ap (λ l. l ++ make x) grown ∙ append_assoc start (flat_map make (take i xs)) (make x)
      ∙ ap (λ l. start ++ l) (ap (λ l. flat_map make (take i xs) ++ l) (sym (append-nil (make x))) ∙ sym (ap (flat_map make) (take_next xs i x within is) ∙ flat_map-append make (take i xs) (x ∷ [])))
