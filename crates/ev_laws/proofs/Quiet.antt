-- Lists of events that change nothing in a section.
use Rattle.std.proofs.Common.{◌≡◌, Bool, true, false, List, [], ◌∷◌, ◌++◌, map, flat_map, fold, Ordering, ap, refl, ◌∙◌}
use Rattle.std.proofs.lemmas.List.Sums.{fold-append}
use Rattle.ev_rows.specs.Rows.{gained, kept, lost, keyed_events, one_of}
use Rattle.ev_types.specs.declared.event.Event.{Event}
use Rattle.ev_types.specs.Changes.{unless}

-- no event of the list changes anything
pub record Quiet {C : Type 0} (step : C → Event → C) (events : List Event) : Type 0 where
  pub leaves : (c : C) → fold step c events ≡ c

module _ {C : Type 0} (step : C → Event → C) where
  -- quiet events may be left out
  pub skip_front : (a b : List Event) → Quiet step a → (c : C) → fold step c (a ++ b) ≡ fold step c b
  skip_front a b quiet c = fold-append step c a b ∙ ap (λ d. fold step d b) (quiet.leaves c)

  pub skip_back : (a b : List Event) → Quiet step b → (c : C) → fold step c (a ++ b) ≡ fold step c a
  skip_back a b quiet c = fold-append step c a b ∙ quiet.leaves (fold step c a)

  pub quiet_nil : Quiet step []
  quiet_nil = record { leaves = λ c. refl }

  pub quiet_append : (a b : List Event) → Quiet step a → Quiet step b → Quiet step (a ++ b)
  quiet_append a b first second = record { leaves = λ c. skip_front a b first c ∙ second.leaves c }

  pub quiet_event : (event : Event) → ((c : C) → step c event ≡ c) → Quiet step (event ∷ [])
  quiet_event event still = record { leaves = still }

  pub quiet_unless : (same : Bool) (event : Event) → ((c : C) → step c event ≡ c) → Quiet step (unless same event)
  quiet_unless true event still = quiet_nil
  quiet_unless false event still = quiet_event event still

  module _ {X : Type 0} where
    pub quiet_one_of : (make : List X → Event) (xs : List X) → ((ys : List X) (c : C) → step c (make ys) ≡ c) → Quiet step (one_of make xs)
    quiet_one_of make [] still = quiet_nil
    quiet_one_of make (x ∷ xs) still = quiet_event (make (x ∷ xs)) (still (x ∷ xs))

    pub quiet_map : (make : X → Event) (xs : List X) → ((x : X) (c : C) → step c (make x) ≡ c) → Quiet step (map make xs)
    quiet_map make [] still = quiet_nil
    quiet_map make (x ∷ xs) still = quiet_append (make x ∷ []) (map make xs) (quiet_event (make x) (still x)) (quiet_map make xs still)

    pub quiet_flat_map : (make : X → List Event) (xs : List X) → ((x : X) → Quiet step (make x)) → Quiet step (flat_map make xs)
    quiet_flat_map make [] still = quiet_nil
    quiet_flat_map make (x ∷ xs) still = quiet_append (make x) (flat_map make xs) (still x) (quiet_flat_map make xs still)

  module _ {K V : Type 0} (cmp : K → K → Ordering) (create : List (K × V) → List Event) (change : K × (V × V) → List Event) (delete : List (K × V) → List Event) where
    pub quiet_keyed : (before after : List (K × V)) → ((rows : List (K × V)) → Quiet step (create rows)) → ((row : K × (V × V)) → Quiet step (change row))
        → ((rows : List (K × V)) → Quiet step (delete rows)) → Quiet step (keyed_events cmp create change delete before after)
    quiet_keyed before after created changed deleted =
        quiet_append (create (gained cmp before after) ++ flat_map change (kept cmp before after)) (delete (lost cmp before after))
        (quiet_append (create (gained cmp before after)) (flat_map change (kept cmp before after)) (created (gained cmp before after)) (quiet_flat_map change (kept cmp before after) changed))
        (deleted (lost cmp before after))
