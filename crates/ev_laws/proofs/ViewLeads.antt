-- What changed between two views leads from the first to the second.
use Rattle.std.proofs.Common.{◌≡◌, ◌∙◌}
use Rattle.ev_types.specs.Sections.{Sections}
use Rattle.ev_types.specs.Applying.{applied}
use Rattle.ev_types.proofs.SectionsSettle.{applied-again}
use Rattle.ev_types.specs.Changes.{changes_between}
use Rattle.ev_types.specs.Comparable.{Comparable}
use Rattle.ev_laws.proofs.PeopleLead.{realm_leads, users_lead, streams_lead, subscriptions_lead}
use Rattle.ev_laws.proofs.SubscribersLead.{subscribers_lead}
use Rattle.ev_laws.proofs.MessagesLead.{messages_lead}
use Rattle.ev_laws.proofs.MarksLead.{starred_lead, unread_lead}
use Rattle.ev_laws.proofs.ReactionsLead.{reactions_lead}

pub view_leads : (before after : Sections) → Comparable before after → applied (changes_between before after) before ≡ after
view_leads before after comparable = λ i. record {
  realm = realm_leads before after i;
  realm_users = users_lead before after comparable i;
  streams = streams_lead before after comparable i;
  subscriptions = subscriptions_lead before after comparable i;
  subscribers = subscribers_lead before after comparable i;
  messages = messages_lead before after comparable i;
  reactions = reactions_lead before after comparable i;
  starred_messages = starred_lead before after comparable i;
  unread_messages = unread_lead before after comparable i;
}

-- and leaves it when it is applied again
pub view_settles : (before after : Sections) → Comparable before after → applied (changes_between before after) (applied (changes_between before after) before) ≡ after
view_settles before after comparable = applied-again (changes_between before after) before comparable.before_coheres.rises ∙ view_leads before after comparable
