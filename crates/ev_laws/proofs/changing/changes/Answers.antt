use Rattle.std.proofs.Common.{◌≡◌, ◌∙◌, ◌++◌, ap}
use Rattle.ev_types.specs.Sections.{Sections}
use Rattle.ev_types.specs.Changes.{changes_between}
use Rattle.ev_laws.specs.Compared.{compared, sections_in}
use Rattle.ev_laws.proofs.Loops.{joined}
use Rattle.ev_laws.proofs.changing.changes.Goals as goal

-- the views are compared by their sections without the starred and the unread messages, which no event tells of
pub returns : goal.returns
returns c = λ old new old_whole new_whole.
    let told = joined _ _ _ _ _ c.in_ok-push_people_and_streams.ensures c.in_ok-push_messages.ensures in
    let before : sections_in c.new-before.result ≡ compared old = c.new-before.ensures old old_whole in
    let after : sections_in c.new-after.result ≡ compared new = c.new-after.ensures new new_whole in
    told
    ∙ ap (λ l. l ++ changes_between (sections_in c.new-before.result) (sections_in c.new-after.result)) c.new-events.ensures.items
    ∙ ap (λ (s : Sections). changes_between s (sections_in c.new-after.result)) before
    ∙ ap (λ (s : Sections). changes_between (compared old) s) after
