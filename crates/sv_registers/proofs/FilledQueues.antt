-- Filling a queue in registration.
use Rattle.std.proofs.Common.{◌≡◌, ℕ, zero, suc, ◌+◌, ◌<◌, max, Bool, true, false, Option, None, Some, List, [], ◌∷◌, ◌++◌, length, take, drop, get_or, Result, Ok, Err, refl, ap, sym, subst, ◌∙◌, inl, inr, append_assoc, append-nil, MatchBool, true≢false, arith}
use Rattle.std.specs.Prelude.{IsErr}
use Rattle.ev_rows.specs.declared.memory.NoMemory.{NoMemory}
use Rattle.ev_base.specs.declared.ids.UserId.{UserId}
use Rattle.ev_base.specs.declared.ids.QueueId.{QueueId}
use Rattle.ev_types.specs.declared.section.Section.{Section}
use Rattle.zw_traces.specs.declared.realm.RealmInput.{RealmInput}
use Rattle.zw_traces.specs.declared.shard.ShardInput.{ShardInput}
use Rattle.zw_traces.specs.declared.realm.RealmInput.TheVariants.{Fetch, NoticeAll, Take}
use Rattle.zw_traces.specs.declared.realm.RealmReply.{RealmReply}
use Rattle.zw_traces.specs.declared.realm.RealmReply.TheVariants as realm_reply
use Rattle.zw_traces.specs.declared.shard.FetchedSection.{FetchedSection}
use Rattle.zw_traces.specs.declared.shard.ShardInput.TheVariants.{Finish, Push}
use Rattle.zw_traces.specs.declared.shard.ShardReply.{ShardReply}
use Rattle.zw_traces.specs.declared.shard.ShardReply.TheVariants.{Pushed}
use Rattle.zw_backend.specs.Seen.{Seen, of_realm, of_shard}
use Rattle.zw_backend.specs.Backends.{After, IsKnown, Sights}
use Rattle.sv_calls.specs.Flows.{Any, AsksRealm, AsksShard, Goes, HasShard, IsReady, IsServing}
use Rattle.sv_calls.specs.Pushing.{CatchesUp, PushesFrom, PushesNext, Rounds, TakesFrom}
use Rattle.sv_registers.specs.Openings.{Deletes, Opens}
use Rattle.sv_registers.specs.Fetches.{Fetches, FetchesAll, FetchesOne, FetchesSome, latest, sections}
use Rattle.sv_registers.specs.Registrations.{Completes, EndsAs, FetchesShort, Fills, FillsOrDeletes, Finishes, InRegistration, Registers, is_given_up}
use Rattle.sv_registers.specs.declared.opening.Opened.{Opened}
use Rattle.sv_registers.specs.declared.opening.Registration.{Registration}
use Rattle.sv_registers.specs.declared.registration.Registered.{Registered}
use Rattle.sv_registers.specs.declared.registration.Registered.TheVariants as registered
use Rattle.sv_registers.proofs.Growing.{fetched_in_registration, may_finish, still_in_registration}
use Rattle.sv_registers.proofs.OpenedQueues.{opening_leads}

-- a list around one of its elements
pub split_at : (list : List Section) (index : ℕ) (other : Section) → index < length list → list ≡ take index list ++ get_or list index other ∷ drop (index + 1) list
split_at [] index other within = absurd (omega arith)
split_at (x ∷ xs) zero other within = refl
split_at (x ∷ xs) (suc index) other within =
    let next : suc (index + 1) ≡ suc index + 1 = omega arith in
    subst (λ n. x ∷ xs ≡ x ∷ (take index xs ++ get_or xs index other ∷ drop n (x ∷ xs))) next (ap (λ rest. x ∷ rest) (split_at xs index other (omega arith)))

pub take_more : (list : List Section) (index : ℕ) (other : Section) → index < length list → take (index + 1) list ≡ take index list ++ get_or list index other ∷ []
take_more [] index other within = absurd (omega arith)
take_more (x ∷ xs) zero other within = refl
take_more (x ∷ xs) (suc index) other within =
    let next : suc (index + 1) ≡ suc index + 1 = omega arith in
    subst (λ n. take n (x ∷ xs) ≡ x ∷ (take index xs ++ get_or xs index other ∷ [])) next (ap (λ rest. x ∷ rest) (take_more xs index other (omega arith)))

-- an error by any name
pub fails_so : (a c : Sights) (user : UserId) (asked : List Section) (result : Result (Option (List FetchedSection)) NoMemory) → IsErr result
    → ((other : NoMemory) → Goes a Any (FetchesAll user asked (Err other)) c) → Goes a Any (FetchesAll user asked result) c
fails_so a c user asked (Ok found) failed goes = absurd (true≢false (sym failed))
fails_so a c user asked (Err other) failed goes = goes other

-- one part more
fetches_more : (user : UserId) (parts : List FetchedSection) (part : FetchedSection) (a b c : Seen) → Fetches user parts a b
    → AsksRealm (Fetch user part.section) (realm_reply.Section part.rows part.at) b c → Fetches user (parts ++ part ∷ []) a c
fetches_more user [] part a b c first asks = (c, subst (λ x. AsksRealm (Fetch user part.section) (realm_reply.Section part.rows part.at) x c) first asks, refl)
fetches_more user (one ∷ parts) part a b c first asks = (first.0, first.1, fetches_more user parts part first.0 b c first.2 asks)

sections_more : (parts : List FetchedSection) (part : FetchedSection) → sections (parts ++ part ∷ []) ≡ sections parts ++ part.section ∷ []
sections_more [] part = refl
sections_more (one ∷ parts) part = ap (λ rest. one.section ∷ rest) (sections_more parts part)

-- a reply that has a part
asks_part : (user : UserId) (section : Section) (part : FetchedSection) (a b : Seen) → FetchesOne user section (Ok (Some part)) a b
    → AsksRealm (Fetch user part.section) (realm_reply.Section part.rows part.at) a b
asks_part user section part a b one =
    subst (λ s. AsksRealm (Fetch user s) (realm_reply.Section part.rows part.at) a b) (sym one.1.0) (subst (λ told. AsksRealm (Fetch user section) told a b) one.1.1 one.2)

pub fetches_on : (a b c : Sights) (user : UserId) (parts : List FetchedSection) (section : Section) (part : FetchedSection)
    → Goes a Any (Fetches user parts) b → Goes b Any (FetchesOne user section (Ok (Some part))) c → Goes a Any (Fetches user (parts ++ part ∷ [])) c
fetches_on a b c user parts section part so_far goes before holds any =
    let one = so_far before holds tt in
    let two = goes one.seen one.holds tt in
    record { seen = two.seen; holds = two.holds; done = fetches_more user parts part before one.seen two.seen one.done (asks_part user section part one.seen two.seen two.done) }

pub sections_on : (asked : List Section) (index : ℕ) (parts : List FetchedSection) (section : Section) (part : FetchedSection)
    → sections parts ≡ take index asked → take (index + 1) asked ≡ take index asked ++ section ∷ [] → part.section ≡ section
    → sections (parts ++ part ∷ []) ≡ take (index + 1) asked
sections_on asked index parts section part so_far next is =
    sections_more parts part ∙ ap (λ front. front ++ part.section ∷ []) so_far ∙ ap (λ s. take index asked ++ s ∷ []) is ∙ sym next

-- the section of a part that was fetched
pub part_section : (b c : Sights) (user : UserId) (section : Section) (part : FetchedSection) → IsKnown b → Goes b Any (FetchesOne user section (Ok (Some part))) c → part.section ≡ section
part_section b c user section part known goes = (goes known.0 known.1 tt).done.1.0

pub known_on : (b c : Sights) (does : Seen → Seen → Type 0) → IsKnown b → Goes b Any does c → IsKnown c
known_on b c does known goes = let one = goes known.0 known.1 tt in (one.seen, one.holds)

pub fetches_some : (a b c : Sights) (user : UserId) (asked : List Section) (parts : List FetchedSection) (section : Section) (others : List Section) (told : RealmReply)
    → asked ≡ sections parts ++ section ∷ others → Goes a Any (Fetches user parts) b
    → Goes b Any (λ x y. AsksRealm (Fetch user section) told x y) c → Goes a Any (FetchesSome user asked told) c
fetches_some a b c user asked parts section others told in_order so_far goes before holds any =
    let one = so_far before holds tt in
    let two = goes one.seen one.holds tt in
    record {
      seen = two.seen;
      holds = two.holds;
      done = record { parts = parts; which = section; others = others; in_order = in_order; between = one.seen; fetches = one.done; asks = two.done };
    }

-- the front of a list, its next element and the rest
pub front_and_rest : (asked : List Section) (index : ℕ) (parts : List FetchedSection) (section : Section) (others : List Section)
    → sections parts ≡ take index asked → asked ≡ take index asked ++ section ∷ others → asked ≡ sections parts ++ section ∷ others
front_and_rest asked index parts section others so_far split = split ∙ ap (λ front. front ++ section ∷ others) (sym so_far)

-- the last fetch is refused
pub fetches_refused : (a b c : Sights) (user : UserId) (asked : List Section) (parts : List FetchedSection) (section : Section) (others : List Section)
    → asked ≡ sections parts ++ section ∷ others → Goes a Any (Fetches user parts) b
    → Goes b Any (FetchesOne user section (Ok None)) c → Goes a Any (FetchesAll user asked (Ok None)) c
fetches_refused a b c user asked parts section others in_order so_far goes =
    fetches_some a b c user asked parts section others realm_reply.FetchRefused in_order so_far
    (λ before holds any. let one = goes before holds tt in
    record { seen = one.seen; holds = one.holds; done = subst (λ told. AsksRealm (Fetch user section) told before one.seen) one.done.1 one.done.2 })

-- or there is no memory for it
pub fetches_none : (a b c : Sights) (user : UserId) (asked : List Section) (parts : List FetchedSection) (section : Section) (others : List Section) (none other : NoMemory)
    → asked ≡ sections parts ++ section ∷ others → Goes a Any (Fetches user parts) b
    → Goes b Any (FetchesOne user section (Err none)) c → Goes a Any (FetchesAll user asked (Err other)) c
fetches_none a b c user asked parts section others none other in_order so_far goes before holds any =
    let one = so_far before holds tt in
    let two = goes one.seen one.holds tt in
    record {
      seen = two.seen;
      holds = two.holds;
      done = (two.done.0, record { parts = parts; which = section; others = others; in_order = in_order; between = one.seen; fetches = one.done; asks = two.done.1 });
    }

-- or none to keep it
pub fetches_lost : (a b c : Sights) (user : UserId) (asked : List Section) (parts : List FetchedSection) (section : Section) (others : List Section) (part : FetchedSection) (other : NoMemory)
    → asked ≡ sections parts ++ section ∷ others → Goes a Any (Fetches user parts) b
    → Goes b Any (FetchesOne user section (Ok (Some part))) c → Goes a Any (FetchesAll user asked (Err other)) c
fetches_lost a b c user asked parts section others part other in_order so_far goes before holds any =
    let one = so_far before holds tt in
    let two = goes one.seen one.holds tt in
    record {
      seen = two.seen;
      holds = two.holds;
      done = (two.done.0, record { parts = parts; which = section; others = others; in_order = in_order; between = one.seen; fetches = one.done; asks = two.done.2 });
    }

-- all fetches of a queue in registration
fetches_lead : (shard : ℕ) (user : UserId) (queue : QueueId) (done parts : List FetchedSection) (before after : Seen) → Fetches user parts before after
    → InRegistration shard user queue done before → InRegistration shard user queue (done ++ parts) after
fetches_lead shard user queue done [] before after fetches known =
    subst (λ list. InRegistration shard user queue list after) (sym (append-nil done)) (subst (InRegistration shard user queue done) (sym fetches) known)
fetches_lead shard user queue done (part ∷ parts) before after fetches known =
    subst (λ list. InRegistration shard user queue list after) (append_assoc done (part ∷ []) parts)
    (fetches_lead shard user queue (done ++ part ∷ []) parts fetches.0 after fetches.2
    (fetched_in_registration shard user queue done part before fetches.0 fetches.1 known))

-- rounds leave it in registration
round_leads : (shard : ℕ) (user : UserId) (queue : QueueId) (parts : List FetchedSection) (at first position : ℕ) (before after : Seen) → PushesFrom at first (Pushed position) before after
    → InRegistration shard user queue parts before → InRegistration shard user queue parts after
round_leads shard user queue parts at first position before after pushes known =
    still_in_registration shard user queue parts pushes.taken (of_shard at (record { input = Push first pushes.notices; reply = Pushed position })) after pushes.pushes
    (still_in_registration shard user queue parts pushes.takes.announced (of_realm (record { input = Take first; reply = realm_reply.Notices first pushes.notices })) pushes.taken pushes.takes.takes
    (still_in_registration shard user queue parts before (of_realm (record { input = NoticeAll; reply = pushes.takes.told })) pushes.takes.announced pushes.takes.announces known))

rounds_lead : (shard : ℕ) (user : UserId) (queue : QueueId) (parts : List FetchedSection) (at have need : ℕ) (positions : List ℕ) (reached : ℕ) (before after : Seen)
    → Rounds at have need positions reached before after → InRegistration shard user queue parts before → InRegistration shard user queue parts after
rounds_lead shard user queue parts at have need [] reached before after rounds known = subst (InRegistration shard user queue parts) (sym rounds.1) known
rounds_lead shard user queue parts at have need (position ∷ earlier) reached before after rounds known =
    round_leads shard user queue parts at (position + 1) reached rounds.0 after rounds.3
    (rounds_lead shard user queue parts at have need earlier position before rounds.0 rounds.1 known)

pub catching_leads : (shard : ℕ) (user : UserId) (queue : QueueId) (parts : List FetchedSection) (at have need reached : ℕ) (before after : Seen)
    → CatchesUp at have need (Ok reached) before after → InRegistration shard user queue parts before → InRegistration shard user queue parts after
catching_leads shard user queue parts at have need reached before after catches known =
    rounds_lead shard user queue parts at have need catches.1 reached before after catches.2 known

-- the finish
pub finishes_queue : (a b : Sights) (shard : ℕ) (user : UserId) (queue : QueueId) (parts : List FetchedSection) (told : ShardReply) (result : Registered)
    → After a (of_shard shard (record { input = Finish queue parts; reply = told })) b → EndsAs queue told result
    → Goes a (InRegistration shard user queue parts) (Finishes shard queue parts result) b
finishes_queue a b shard user queue parts told result after ends before holds known =
    let went = after before holds (may_finish shard user queue parts told before known) in
    record { seen = went.seen; holds = went.holds; done = (told, ends, went.extends) }

pub ready_to_catch_up : (a : Sights) (shard : ℕ) (user : UserId) (queue : QueueId) (parts : List FetchedSection) → IsReady a (InRegistration shard user queue parts) → IsReady a (HasShard shard)
ready_to_catch_up a shard user queue parts ready = (ready.0, ready.1, ready.2.serves.0)

pub ready_to_finish : (a b : Sights) (shard : ℕ) (user : UserId) (queue : QueueId) (parts : List FetchedSection) (have need reached : ℕ) → IsReady a (InRegistration shard user queue parts)
    → Goes a (HasShard shard) (CatchesUp shard have need (Ok reached)) b → IsReady b (InRegistration shard user queue parts)
ready_to_finish a b shard user queue parts have need reached ready goes =
    let one = goes ready.0 ready.1 ready.2.serves.0 in
    (one.seen, one.holds, catching_leads shard user queue parts shard have need reached ready.0 one.seen one.done ready.2)

pub completes : (a b c : Sights) (shard : ℕ) (user : UserId) (opened : Opened) (parts : List FetchedSection) (seen need reached : ℕ) (result : Registered) → need ≡ max seen (latest parts)
    → Goes a (HasShard shard) (CatchesUp shard opened.position need (Ok reached)) b
    → Goes b (InRegistration shard user opened.queue parts) (Finishes shard opened.queue parts result) c
    → Goes a (InRegistration shard user opened.queue parts) (Completes shard opened parts seen result) c
completes a b c shard user opened parts seen need reached result is first second before holds known =
    let one = first before holds known.serves.0 in
    let two = second one.seen one.holds (catching_leads shard user opened.queue parts shard opened.position need reached before one.seen one.done known) in
    let caught : CatchesUp shard opened.position (max seen (latest parts)) (Ok reached) before one.seen = subst (λ n. CatchesUp shard opened.position n (Ok reached) before one.seen) is one.done in
    record { seen = two.seen; holds = two.holds; done = inl (record { reached = reached; caught = one.seen; catches_up = caught; finishes = two.done }) }

pub completes_not : (a b : Sights) (shard : ℕ) (user : UserId) (opened : Opened) (parts : List FetchedSection) (seen need : ℕ) (none : NoMemory) → need ≡ max seen (latest parts)
    → Goes a (HasShard shard) (CatchesUp shard opened.position need (Err none)) b
    → Goes a (InRegistration shard user opened.queue parts) (Completes shard opened parts seen registered.NoMemory) b
completes_not a b shard user opened parts seen need none is first before holds known =
    let one = first before holds known.serves.0 in
    let short : CatchesUp shard opened.position (max seen (latest parts)) (Err none) before one.seen = subst (λ n. CatchesUp shard opened.position n (Err none) before one.seen) is one.done in
    record { seen = one.seen; holds = one.holds; done = inr (refl, none, short) }

-- the filling
pub ready_to_complete : (a b : Sights) (shard : ℕ) (user : UserId) (queue : QueueId) (asked : List Section) (parts : List FetchedSection) (found : Option (List FetchedSection)) → found ≡ Some parts → IsReady a (InRegistration shard user queue [])
    → Goes a Any (FetchesAll user asked (Ok found)) b → IsReady b (InRegistration shard user queue parts)
ready_to_complete a b shard user queue asked parts found is ready goes =
    let one = goes ready.0 ready.1 tt in
    let all : FetchesAll user asked (Ok (Some parts)) ready.0 one.seen = subst (λ f. FetchesAll user asked (Ok f) ready.0 one.seen) is one.done in
    (one.seen, one.holds, fetches_lead shard user queue [] parts ready.0 one.seen all.1 ready.2)

pub fills : (a b c : Sights) (shard : ℕ) (user : UserId) (opened : Opened) (asked : List Section) (parts : List FetchedSection) (found : Option (List FetchedSection)) (seen : ℕ) (result : Registered) → found ≡ Some parts
    → Goes a Any (FetchesAll user asked (Ok found)) b → Goes b (InRegistration shard user opened.queue parts) (Completes shard opened parts seen result) c
    → Goes a (InRegistration shard user opened.queue []) (Fills shard user opened asked seen result) c
fills a b c shard user opened asked parts found seen result is first second before holds known =
    let one = first before holds tt in
    let all : FetchesAll user asked (Ok (Some parts)) before one.seen = subst (λ f. FetchesAll user asked (Ok f) before one.seen) is one.done in
    let two = second one.seen one.holds (fetches_lead shard user opened.queue [] parts before one.seen all.1 known) in
    record { seen = two.seen; holds = two.holds; done = inl (record { parts = parts; in_order = all.0; fetched = one.seen; fetches = all.1; completes = two.done }) }

pub fills_refused : (a b : Sights) (shard : ℕ) (user : UserId) (opened : Opened) (asked : List Section) (seen : ℕ) → Goes a Any (FetchesAll user asked (Ok None)) b
    → Goes a (InRegistration shard user opened.queue []) (Fills shard user opened asked seen registered.FetchRefused) b
fills_refused a b shard user opened asked seen first before holds known =
    let one = first before holds tt in
    record { seen = one.seen; holds = one.holds; done = inr one.done }

pub fills_not : (a b : Sights) (shard : ℕ) (user : UserId) (opened : Opened) (asked : List Section) (seen : ℕ) (none : NoMemory) → Goes a Any (FetchesAll user asked (Err none)) b
    → Goes a (InRegistration shard user opened.queue []) (Fills shard user opened asked seen registered.NoMemory) b
fills_not a b shard user opened asked seen none first before holds known =
    let one = first before holds tt in
    record { seen = one.seen; holds = one.holds; done = inr one.done }

-- however a filling ends, its shard serves the user
module _ (shard : ℕ) (user : UserId) (queue : QueueId) where
  asks_realm_serves : (parts : List FetchedSection) (input : RealmInput) (told : RealmReply) (before after : Seen) → AsksRealm input told before after
      → InRegistration shard user queue parts before → InRegistration shard user queue parts after
  asks_realm_serves parts input told before after asks known = still_in_registration shard user queue parts before (of_realm (record { input = input; reply = told })) after asks known

  asks_shard_serves : (parts : List FetchedSection) (at : ℕ) (input : ShardInput) (told : ShardReply) (before after : Seen) → AsksShard at input told before after
      → InRegistration shard user queue parts before → InRegistration shard user queue parts after
  asks_shard_serves parts at input told before after asks known = still_in_registration shard user queue parts before (of_shard at (record { input = input; reply = told })) after asks known

  takes_serve : (parts : List FetchedSection) (first : ℕ) (told : RealmReply) (before after : Seen) → TakesFrom first told before after
      → InRegistration shard user queue parts before → InRegistration shard user queue parts after
  takes_serve parts first told before after takes known =
      asks_realm_serves parts (Take first) told takes.announced after takes.takes (asks_realm_serves parts NoticeAll takes.told before takes.announced takes.announces known)

  stops_serve : (parts : List FetchedSection) (at first : ℕ) (none : NoMemory) (before after : Seen) → PushesNext at first (Err none) before after
      → InRegistration shard user queue parts before → InRegistration shard user queue parts after
  stops_serve parts at first none before after (inl takes) known = takes_serve parts first takes.0 before after takes.1 known
  stops_serve parts at first none before after (inr pushes) known =
      asks_shard_serves parts at (Push first pushes.1.notices) pushes.0 pushes.1.taken after pushes.1.pushes
      (takes_serve parts first (realm_reply.Notices first pushes.1.notices) before pushes.1.taken pushes.1.takes known)

  short_serves : (parts : List FetchedSection) (at have need : ℕ) (none : NoMemory) (before after : Seen) → CatchesUp at have need (Err none) before after
      → InRegistration shard user queue parts before → InRegistration shard user queue parts after
  short_serves parts at have need none before after short known =
      stops_serve parts at (short.1 + 1) none short.2 after short.5 (rounds_lead shard user queue parts at have need short.0 short.1 before short.2 short.3 known)

  completes_serve : (parts : List FetchedSection) (opened : Opened) (seen : ℕ) (result : Registered) (before after : Seen) → Completes shard opened parts seen result before after
      → InRegistration shard user queue parts before → IsServing user shard after
  completes_serve parts opened seen result before after (inl all) known =
      (asks_shard_serves parts shard (Finish opened.queue parts) all.finishes.0 all.caught after all.finishes.2
      (catching_leads shard user queue parts shard opened.position (max seen (latest parts)) all.reached before all.caught all.catches_up known)).serves
  completes_serve parts opened seen result before after (inr short) known =
      (short_serves parts shard opened.position (max seen (latest parts)) short.1 before after short.2 known).serves

  some_serve : (asked : List Section) (told : RealmReply) (before after : Seen) → FetchesSome user asked told before after
      → InRegistration shard user queue [] before → IsServing user shard after
  some_serve asked told before after some known =
      (asks_realm_serves some.parts (Fetch user some.which) told some.between after some.asks
      (fetches_lead shard user queue [] some.parts before some.between some.fetches known)).serves

  short_fetches_serve : (asked : List Section) (result : Registered) (before after : Seen) → FetchesShort user asked result before after
      → InRegistration shard user queue [] before → IsServing user shard after
  short_fetches_serve asked registered.FetchRefused before after short known = some_serve asked realm_reply.FetchRefused before after short known
  short_fetches_serve asked registered.NoMemory before after short known = some_serve asked short.0 before after short.1 known
  short_fetches_serve asked (registered.Finished other last state) before after short known = absurd short
  short_fetches_serve asked (registered.BadQueue other) before after short known = absurd short
  short_fetches_serve asked registered.TooManyQueues before after short known = absurd short
  short_fetches_serve asked registered.OpensSpent before after short known = absurd short

  fills_serve : (opened : Opened) (asked : List Section) (seen : ℕ) (result : Registered) (before after : Seen) → Fills shard user opened asked seen result before after
      → InRegistration shard user queue [] before → IsServing user shard after
  fills_serve opened asked seen result before after (inl all) known =
      completes_serve all.parts opened seen result all.fetched after all.completes (fetches_lead shard user queue [] all.parts before all.fetched all.fetches known)
  fills_serve opened asked seen result before after (inr short) known = short_fetches_serve asked result before after short known

pub ready_to_delete : (a b : Sights) (shard : ℕ) (user : UserId) (opened : Opened) (asked : List Section) (seen : ℕ) (result : Registered)
    → IsReady a (InRegistration shard user opened.queue []) → Goes a (InRegistration shard user opened.queue []) (Fills shard user opened asked seen result) b
    → IsReady b (IsServing user shard)
ready_to_delete a b shard user opened asked seen result ready goes =
    let one = goes ready.0 ready.1 ready.2 in
    (one.seen, one.holds, fills_serve shard user opened.queue opened asked seen result ready.0 one.seen one.done ready.2)

where_true : (test : Bool) (then other : Type 0) → test ≡ true → then → MatchBool test then other
where_true true then other is holds = holds
where_true false then other is holds = absurd (true≢false (sym is))

where_false : (test : Bool) (then other : Type 0) → test ≡ false → other → MatchBool test then other
where_false false then other is holds = holds
where_false true then other is holds = absurd (true≢false is)

pub fills_and_deletes : (a b c : Sights) (shard : ℕ) (user : UserId) (opened : Opened) (asked : List Section) (seen : ℕ) (result : Registered) → is_given_up result ≡ true
    → Goes a (InRegistration shard user opened.queue []) (Fills shard user opened asked seen result) b → Goes b (IsServing user shard) (Deletes shard user opened.queue) c
    → Goes a (InRegistration shard user opened.queue []) (FillsOrDeletes shard user opened asked seen result) c
fills_and_deletes a b c shard user opened asked seen result given first second before holds known =
    let one = first before holds known in
    let two = second one.seen one.holds (fills_serve shard user opened.queue opened asked seen result before one.seen one.done known) in
    record {
      seen = two.seen;
      holds = two.holds;
      done = record { filled = one.seen; fills = one.done; deletes = where_true (is_given_up result) (Deletes shard user opened.queue one.seen two.seen) (two.seen ≡ one.seen) given two.done };
    }

pub fills_and_stays : (a b : Sights) (shard : ℕ) (user : UserId) (opened : Opened) (asked : List Section) (seen : ℕ) (result : Registered) → is_given_up result ≡ false
    → Goes a (InRegistration shard user opened.queue []) (Fills shard user opened asked seen result) b
    → Goes a (InRegistration shard user opened.queue []) (FillsOrDeletes shard user opened asked seen result) b
fills_and_stays a b shard user opened asked seen result given first before holds known =
    let one = first before holds known in
    record {
      seen = one.seen;
      holds = one.holds;
      done = record { filled = one.seen; fills = one.done; deletes = where_false (is_given_up result) (Deletes shard user opened.queue one.seen one.seen) (one.seen ≡ one.seen) given refl };
    }

-- the whole
pub ready_to_open : (a : Sights) (user : UserId) (shard : ℕ) → IsKnown a → ((seen : Seen) → a seen → IsServing user shard seen) → IsReady a (IsServing user shard)
ready_to_open a user shard known serves = (known.0, known.1, serves known.0 known.1)

pub registers : (a b c : Sights) (shard : ℕ) (asking : Registration) (opened : Opened) (asked : List Section) (seen : ℕ) (result : Registered) → asked ≡ asking.asked
    → ((seen : Seen) → a seen → IsServing asking.user shard seen)
    → Goes a (IsServing asking.user shard) (Opens shard asking (Ok opened)) b
    → Goes b (InRegistration shard asking.user opened.queue []) (FillsOrDeletes shard asking.user opened asked seen result) c
    → Goes a Any (Registers asking seen result) c
registers a b c shard asking opened asked seen result same serves first second before holds any =
    let served = serves before holds in
    let one = first before holds served in
    let two = second one.seen one.holds (opening_leads shard asking opened before one.seen served one.done) in
    record {
      seen = two.seen;
      holds = two.holds;
      done = inl (record {
        shard = shard;
        serves = served;
        does = inl (record { opened = opened; open_at = one.seen; opens = one.done; fills = subst (λ list. FillsOrDeletes shard asking.user opened list seen result one.seen two.seen) same two.done });
      });
    }

pub registers_not : (a b : Sights) (shard : ℕ) (asking : Registration) (seen : ℕ) (result : Registered)
    → ((seen : Seen) → a seen → IsServing asking.user shard seen)
    → Goes a (IsServing asking.user shard) (Opens shard asking (Err result)) b → Goes a Any (Registers asking seen result) b
registers_not a b shard asking seen result serves first before holds any =
    let served = serves before holds in
    let one = first before holds served in
    record { seen = one.seen; holds = one.holds; done = inl (record { shard = shard; serves = served; does = inr one.done }) }

pub registers_nothing : (a : Sights) (asking : Registration) (seen : ℕ) → Goes a Any (Registers asking seen registered.NoMemory) a
registers_nothing a asking seen before holds any = record { seen = before; holds = holds; done = inr (refl, refl) }
