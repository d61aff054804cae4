-- What the items of a queue do to a section, where changes of flags are grouped.
use Rattle.std.proofs.Common.{◌≡◌, ℕ, Bool, true, false, List, [], ◌++◌, append_assoc, fold, ap, sym, ◌∙◌}
use Rattle.ev_types.specs.declared.event.Event.{Event}
use Rattle.ev_types.specs.declared.section.Section.{Section}
use Rattle.ev_types.specs.Sections.{Sections, SectionsSorted}
use Rattle.ev_types.specs.Applying.{applied}
use Rattle.ev_types.proofs.SectionsSettle.{applied-append, rise-applied}
use Rattle.zw_views.specs.Views.{section_of}
use Rattle.ev_types.specs.OneSection.{rows_after}
use Rattle.ev_groups.specs.Items.{Numbered, numbered, events_of}
use Rattle.ev_groups.specs.Groups.{with_event}
use Rattle.ev_groups.proofs.GroupedApply.{applied-together}
use Rattle.zw_traces.specs.Account.{Account, with_events, with_beat, is_beat, beats}
use Rattle.ev_groups.proofs.Ids.{events_of-append, events_of-numbered}
use Rattle.zw_laws.proofs.OneSections.{beats_quietly, rows_after-section}

pub does-append : (xs ys : List Numbered) (view : Sections) → applied (events_of (xs ++ ys)) view ≡ applied (events_of ys) (applied (events_of xs) view)
does-append xs ys view = ap (λ (events : List Event). applied events view) (events_of-append xs ys) ∙ applied-append (events_of xs) (events_of ys) view

-- new events do after the open items what they do, with any of the items before the cut
items_more : (early late : List Numbered) (used : ℕ) (events : List Event) (view : Sections) → SectionsSorted view
    → applied (events_of (early ++ fold with_event late (numbered used events))) view ≡ applied events (applied (events_of (early ++ late)) view)
items_more early late used events view sorted =
    let new = numbered used events in
    does-append early (fold with_event late new) view
    ∙ applied-together late new (applied (events_of early) view) (rise-applied (events_of early) view sorted)
    ∙ sym (does-append early (late ++ new) view)
    ∙ ap (λ (list : List Numbered). applied (events_of list) view) (sym (append_assoc early late new))
    ∙ does-append (early ++ late) new view
    ∙ ap (λ (list : List Event). applied list (applied (events_of (early ++ late)) view)) (events_of-numbered used events)

-- the same for a section
pub rows_more : (early : List Numbered) (a : Account) (events : List Event) (which : Section) (view : Sections) → SectionsSorted view
    → rows_after (events_of (early ++ (with_events events a).open_items)) (section_of which view)
    ≡ rows_after events (rows_after (events_of (early ++ a.open_items)) (section_of which view))
rows_more early a events which view sorted =
    rows_after-section which (events_of (early ++ (with_events events a).open_items)) view
    ∙ ap (section_of which) (items_more early a.open_items a.next events view sorted)
    ∙ sym (rows_after-section which events (applied (events_of (early ++ a.open_items)) view))
    ∙ ap (rows_after events) (sym (rows_after-section which (events_of (early ++ a.open_items)) view))

pub quiet_beats : (test : Bool) (which : Section) (view : Sections) → rows_after (beats test) (section_of which view) ≡ section_of which view
quiet_beats true which view = beats_quietly which view
quiet_beats false which view = rows_after-section which [] view

-- a heartbeat does nothing
pub beat_does : (early : List Numbered) (after : ℕ) (beat : Bool) (a : Account) (which : Section) (view : Sections) → SectionsSorted view
    → rows_after (events_of (early ++ (with_beat after beat a).open_items)) (section_of which view) ≡ rows_after (events_of (early ++ a.open_items)) (section_of which view)
beat_does early after beat a which view sorted =
    let events = events_of (early ++ a.open_items) in
    rows_more early a (beats (is_beat after beat a)) which view sorted
    ∙ ap (rows_after (beats (is_beat after beat a))) (rows_after-section which events view)
    ∙ quiet_beats (is_beat after beat a) which (applied events view)
    ∙ sym (rows_after-section which events view)
