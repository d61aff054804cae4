-- Parts by their sections.
use Rattle.std.proofs.Common.{◌≡◌, ◌∙◌, Bool, true, false, if◌then◌else◌, ◌&&◌, List, ap, refl}
use Rattle.std.specs.List.{list_any}
use Rattle.ev_types.specs.declared.section.Section.{Section}
use Rattle.ev_types.specs.OneSection.{same_section}
use Rattle.ev_types.proofs.SectionLemmas.{same_section_is}

module _ {X : Type 0} (asked : List Section) (which own : Section) (new old : X) where
  -- a section that isn't asked for is not put
  pub not_put : list_any (same_section own) asked ≡ false → old ≡ (if list_any (same_section which) asked && same_section which own then new else old)
  not_put unasked = go (same_section which own) refl
    where
      both_off : (b : Bool) → old ≡ (if b && false then new else old)
      both_off true = refl
      both_off false = refl

      go : (same : Bool) → same_section which own ≡ same → old ≡ (if list_any (same_section which) asked && same then new else old)
      go true is =
          let off : list_any (same_section which) asked ≡ false = ap (λ (s : Section). list_any (same_section s) asked) (same_section_is which own is) ∙ unasked in
          rw off refl
      go false is = both_off (list_any (same_section which) asked)

  -- one that is asked for is
  pub is_put : list_any (same_section own) asked ≡ true
      → (if same_section which own then new else old) ≡ (if list_any (same_section which) asked && same_section which own then new else old)
  is_put on = go (same_section which own) refl
    where
      both_off : (b : Bool) → old ≡ (if b && false then new else old)
      both_off true = refl
      both_off false = refl

      go : (same : Bool) → same_section which own ≡ same
          → (if same then new else old) ≡ (if list_any (same_section which) asked && same then new else old)
      go true is =
          let asks : list_any (same_section which) asked ≡ true = ap (λ (s : Section). list_any (same_section s) asked) (same_section_is which own is) ∙ on in
          rw asks refl
      go false is = both_off (list_any (same_section which) asked)
