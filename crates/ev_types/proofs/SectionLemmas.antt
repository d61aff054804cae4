-- Sections that are the same.
use Rattle.std.proofs.Common.{◌≡◌, true, true≢false, sym, refl}
use Rattle.ev_types.specs.declared.section.Section.{Section}
use Rattle.ev_types.specs.declared.section.Section.TheVariants as section
use Rattle.ev_types.specs.OneSection.{same_section}

-- two sections that are the same are one
pub same_section_is : (which other : Section) → same_section which other ≡ true → which ≡ other
same_section_is section.Realm section.Realm same = refl
same_section_is section.RealmUsers section.RealmUsers same = refl
same_section_is section.Streams section.Streams same = refl
same_section_is section.Subscriptions section.Subscriptions same = refl
same_section_is section.Subscribers section.Subscribers same = refl
same_section_is section.Messages section.Messages same = refl
same_section_is section.Reactions section.Reactions same = refl
same_section_is section.StarredMessages section.StarredMessages same = refl
same_section_is section.UnreadMessages section.UnreadMessages same = refl
same_section_is which other same = absurd (true≢false (sym same))
