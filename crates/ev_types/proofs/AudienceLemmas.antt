-- The events for a user, part by part.
use Rattle.std.proofs.Common.{◌≡◌, ℕ, ◌+◌, ◌<◌, true, false, List, [], ◌∷◌, ◌++◌, length, take, get_or, Option, Some, ap, sym, ◌∙◌, append-nil}
use Rattle.std.specs.List.{cons_option, filter_map}
use Rattle.std.proofs.lemmas.List.{take_more}
use Rattle.std.proofs.lemmas.List.Elements.{filter_map-append}
use Rattle.ev_base.specs.declared.ids.UserId.{UserId}
use Rattle.ev_rows.specs.Rows.{only_if}
use Rattle.ev_types.specs.declared.event.Event.{Event}
use Rattle.ev_types.specs.declared.notice.Part.{Part}
use Rattle.ev_types.specs.Audiences.{has_user}

-- what a user hears of a part
abbrev pub heard : UserId → Part → Option Event
heard user part = only_if (has_user user part.audience) (Some part.event)

module _ (user : UserId) (parts : List Part) (i : ℕ) (part : Part) (below : i < length parts) (is : part ≡ get_or parts i part) where
  one_more : filter_map (heard user) (take (i + 1) parts) ≡ filter_map (heard user) (take i parts) ++ cons_option (heard user part) []
  one_more =
      ap (filter_map (heard user)) (take_more parts i part below)
      ∙ filter_map-append (heard user) (take i parts) (get_or parts i part ∷ [])
      ∙ ap (λ next. filter_map (heard user) (take i parts) ++ cons_option (heard user next) []) (sym is)

  module _ (events : List Event) (so_far : events ≡ filter_map (heard user) (take i parts)) where
    -- the next part, where its audience has the user
    pub heard_more : (copy : Event) → copy ≡ part.event → true ≡ has_user user part.audience → events ++ copy ∷ [] ≡ filter_map (heard user) (take (i + 1) parts)
    heard_more copy same has =
        ap (λ before. before ++ copy ∷ []) so_far
        ∙ ap (λ event. filter_map (heard user) (take i parts) ++ event ∷ []) same
        ∙ ap (λ b. filter_map (heard user) (take i parts) ++ cons_option (only_if b (Some part.event)) []) has
        ∙ sym one_more

    -- and where it hasn't
    pub unheard_more : false ≡ has_user user part.audience → events ≡ filter_map (heard user) (take (i + 1) parts)
    unheard_more hasnt =
        so_far
        ∙ sym (append-nil (filter_map (heard user) (take i parts)))
        ∙ ap (λ b. filter_map (heard user) (take i parts) ++ cons_option (only_if b (Some part.event)) []) hasnt
        ∙ sym one_more
