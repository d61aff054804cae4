-- Events applied to one section of a view.
use Rattle.std.proofs.Common.{◌≡◌, Bool, true, false, cond, List, [], ◌∷◌, ◌++◌, refl, ap, sym, ◌∙◌}
use Rattle.std.proofs.lemmas.Grind.{fold-append}
use Rattle.ev_types.specs.declared.event.Event.{Event}
use Rattle.ev_types.specs.declared.event.Event.TheVariants.{Heartbeat}
use Rattle.ev_types.specs.declared.kind.Types.{Types}
use Rattle.ev_types.specs.declared.section.Section.{Section}
use Rattle.ev_types.specs.declared.section.Section.TheVariants as section
use Rattle.ev_types.specs.declared.state.Rows.{Rows}
use Rattle.ev_types.specs.declared.state.Rows.TheVariants as of_section
use Rattle.ev_types.specs.Sections.{Sections}
use Rattle.ev_types.specs.Laws.{WritesNothing}
use Rattle.ev_types.specs.Feeders.{kind_of, receives, covers}
use Rattle.ev_types.specs.Applying.{applied}
use Rattle.ev_types.specs.EventWrites.{realm_after, user_rules, user_writes, stream_rules, stream_writes, subscription_rules, subscription_writes, subscriber_rules, subscriber_writes, message_rules, message_writes, reaction_rules, reaction_writes, starred_rules, starred_writes, unread_rules, unread_writes}
use Rattle.ev_types.proofs.SectionsSettle.{rows_applied-append}
use Rattle.ev_types.proofs.FeederLemmas.{quiet_unless_received}
use Rattle.zw_views.specs.Views.{section_of}
use Rattle.ev_types.specs.OneSection.{rows_after, received}

-- a section of a view after events is that section of the view after them
pub rows_after-section : (which : Section) (events : List Event) (view : Sections) → rows_after events (section_of which view) ≡ section_of which (applied events view)
rows_after-section section.Realm events view = refl
rows_after-section section.RealmUsers events view = refl
rows_after-section section.Streams events view = refl
rows_after-section section.Subscriptions events view = refl
rows_after-section section.Subscribers events view = refl
rows_after-section section.Messages events view = refl
rows_after-section section.Reactions events view = refl
rows_after-section section.StarredMessages events view = refl
rows_after-section section.UnreadMessages events view = refl

-- some events and then others
pub rows_after-append : (before after : List Event) (rows : Rows) → rows_after (before ++ after) rows ≡ rows_after after (rows_after before rows)
rows_after-append before after (of_section.Realm realm) = ap of_section.Realm (fold-append realm_after realm before after)
rows_after-append before after (of_section.RealmUsers rows) = ap of_section.RealmUsers (rows_applied-append user_rules user_writes before after rows)
rows_after-append before after (of_section.Streams rows) = ap of_section.Streams (rows_applied-append stream_rules stream_writes before after rows)
rows_after-append before after (of_section.Subscriptions rows) = ap of_section.Subscriptions (rows_applied-append subscription_rules subscription_writes before after rows)
rows_after-append before after (of_section.Subscribers rows) = ap of_section.Subscribers (rows_applied-append subscriber_rules subscriber_writes before after rows)
rows_after-append before after (of_section.Messages rows) = ap of_section.Messages (rows_applied-append message_rules message_writes before after rows)
rows_after-append before after (of_section.Reactions rows) = ap of_section.Reactions (rows_applied-append reaction_rules reaction_writes before after rows)
rows_after-append before after (of_section.StarredMessages rows) = ap of_section.StarredMessages (rows_applied-append starred_rules starred_writes before after rows)
rows_after-append before after (of_section.UnreadMessages rows) = ap of_section.UnreadMessages (rows_applied-append unread_rules unread_writes before after rows)

-- an event that writes nothing in a section
quiet : (which : Section) (event : Event) (view : Sections) → WritesNothing which event → rows_after (event ∷ []) (section_of which view) ≡ section_of which view
quiet section.Realm event view none = ap of_section.Realm (none view.realm)
quiet section.RealmUsers event view none = rw none refl
quiet section.Streams event view none = rw none refl
quiet section.Subscriptions event view none = rw none refl
quiet section.Subscribers event view none = rw none refl
quiet section.Messages event view none = rw none refl
quiet section.Reactions event view none = rw none refl
quiet section.StarredMessages event view none = rw none refl
quiet section.UnreadMessages event view none = rw none refl

-- what a queue receives is enough for the sections that its types cover
pub received_enough : (types : Types) (which : Section) → covers types which ≡ true → (events : List Event) (view : Sections)
    → rows_after (received types events) (section_of which view) ≡ rows_after events (section_of which view)
received_enough types which covered [] view = refl
received_enough types which covered (event ∷ events) view = go (received_enough types which covered events (applied (event ∷ []) view)) (receives types (kind_of event)) refl
  where
    one : Sections
    one = applied (event ∷ []) view

    whole : rows_after events (section_of which one) ≡ rows_after (event ∷ events) (section_of which view)
    whole = ap (rows_after events) (sym (rows_after-section which (event ∷ []) view)) ∙ sym (rows_after-append (event ∷ []) events (section_of which view))

    go : rows_after (received types events) (section_of which one) ≡ rows_after events (section_of which one)
        → (receives_it : Bool) → receives types (kind_of event) ≡ receives_it
        → rows_after (cond receives_it (event ∷ received types events) (received types events)) (section_of which view) ≡ rows_after (event ∷ events) (section_of which view)
    go inner true is =
        rows_after-append (event ∷ []) (received types events) (section_of which view)
        ∙ ap (rows_after (received types events)) (rows_after-section which (event ∷ []) view)
        ∙ inner ∙ whole
    go inner false is =
        let none = quiet_unless_received types which event covered is in
        let stays : section_of which view ≡ section_of which one = sym (quiet which event view none) ∙ rows_after-section which (event ∷ []) view in
        ap (rows_after (received types events)) stays ∙ inner ∙ whole

-- a heartbeat writes nothing
pub beats_quietly : (which : Section) (view : Sections) → rows_after (Heartbeat ∷ []) (section_of which view) ≡ section_of which view
beats_quietly section.Realm view = refl
beats_quietly section.RealmUsers view = refl
beats_quietly section.Streams view = refl
beats_quietly section.Subscriptions view = refl
beats_quietly section.Subscribers view = refl
beats_quietly section.Messages view = refl
beats_quietly section.Reactions view = refl
beats_quietly section.StarredMessages view = refl
beats_quietly section.UnreadMessages view = refl
