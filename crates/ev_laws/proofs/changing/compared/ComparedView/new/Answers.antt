use Rattle.std.proofs.Common.{◌∙◌, [], is_some, ap, sym}
use Rattle.std.proofs.lemmas.Option.{same_Some}
use Rattle.ev_types.specs.Sections.{SomeSections}
use Rattle.ev_laws.proofs.Whole.{rows_there, table_there}
use Rattle.ev_laws.proofs.changing.compared.ComparedView.new.Goals as goal

pub there-realm-requires : goal.there-realm-requires
there-realm-requires c = ap (λ (s : SomeSections). is_some s.realm) c.requires.1

pub there-realm_users-requires : goal.there-realm_users-requires
there-realm_users-requires c = table_there _ _ (ap (λ (s : SomeSections). s.realm_users) c.requires.1)

pub there-streams-requires : goal.there-streams-requires
there-streams-requires c = table_there _ _ (ap (λ (s : SomeSections). s.streams) c.requires.1)

pub there-subscriptions-requires : goal.there-subscriptions-requires
there-subscriptions-requires c = table_there _ _ (ap (λ (s : SomeSections). s.subscriptions) c.requires.1)

pub there-subscribers-requires : goal.there-subscribers-requires
there-subscribers-requires c = table_there _ _ (ap (λ (s : SomeSections). s.subscribers) c.requires.1)

pub there-messages-requires : goal.there-messages-requires
there-messages-requires c = table_there _ _ (ap (λ (s : SomeSections). s.messages) c.requires.1)

pub there-reactions-requires : goal.there-reactions-requires
there-reactions-requires c = table_there _ _ (ap (λ (s : SomeSections). s.reactions) c.requires.1)

pub returns : goal.returns
returns c = λ view whole.
    let realm = same_Some _ _ (sym c.there-realm.ensures ∙ ap (λ (s : SomeSections). s.realm) whole) in
    let realm_users = rows_there _ _ _ c.there-realm_users.ensures (ap (λ (s : SomeSections). s.realm_users) whole) in
    let streams = rows_there _ _ _ c.there-streams.ensures (ap (λ (s : SomeSections). s.streams) whole) in
    let subscriptions = rows_there _ _ _ c.there-subscriptions.ensures (ap (λ (s : SomeSections). s.subscriptions) whole) in
    let subscribers = rows_there _ _ _ c.there-subscribers.ensures (ap (λ (s : SomeSections). s.subscribers) whole) in
    let messages = rows_there _ _ _ c.there-messages.ensures (ap (λ (s : SomeSections). s.messages) whole) in
    let reactions = rows_there _ _ _ c.there-reactions.ensures (ap (λ (s : SomeSections). s.reactions) whole) in
    λ i. record {
      realm = realm i;
      realm_users = realm_users i;
      streams = streams i;
      subscriptions = subscriptions i;
      subscribers = subscribers i;
      messages = messages i;
      reactions = reactions i;
      starred_messages = [];
      unread_messages = [];
    }
