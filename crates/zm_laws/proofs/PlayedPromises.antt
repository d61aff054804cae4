-- The promises hold of whatever is played in a legal history.
use Rattle.std.proofs.Common.{◌≡◌, ℕ, ◌<◌, ◌≤◌, Bool, true, List, [], ◌∷◌, ◌++◌, length, append_assoc, refl, ap, sym, subst, ◌∙◌, mod-lt, arith}
use Rattle.ev_base.specs.declared.ids.UserId.{UserId}
use Rattle.zw_traces.specs.declared.realm.RealmStep.{RealmStep}
use Rattle.zw_traces.specs.RealmTrace.{Accepted, IsLegalRealm, commands}
use Rattle.zw_traces.specs.RealmFeeds.{IsLegalOver, changed_events, viewed}
use Rattle.zw_traces.specs.Histories.{History, shard_of, trace_at}
use Rattle.zs_script.specs.declared.step.Step.TheVariants.{Register, View}
use Rattle.zs_script.specs.Scripts.{moment_of, shards_of}
use Rattle.zm_text.specs.declared.outcome.Outcome.TheVariants.{Finished, Viewed}
use Rattle.zm_text.specs.Clients.{client_of, items_told, registration_of}
use Rattle.zm_text.specs.Promises.{ClientsAreFresh, IdsAreSteady, ReadersAreActive, RegistersAreFresh, RegistersAreRecent, ViewsAreFresh, accepted, accepted_by}
use Rattle.zm_text.specs.Playing.{Turn, fetched_for, steps_in}
use Rattle.zm_laws.proofs.ToldItems.{AllShown, one_event, shown_at}
use Rattle.zm_laws.proofs.PlayedHistories.{Following, Known, WasThere, belongs_at, following_at_first}
use Rattle.zm_laws.specs.Laws.{PromisesHold}
use Rattle.zm_laws.proofs.Courses.{GoesOn, IsCourse, MayBePlayed, ShardsComeFirst, has_course}
use Rattle.zm_laws.proofs.TurnPromises.{TurnKeeps}
use Rattle.zm_laws.proofs.PlayedTurns.{turned}

-- what is known of the queues after some turns, of each of which it is said whether what it tells arrives
abbrev known_of : (ℕ → Bool) → List Turn → Known
known_of arrives turns = record {
  clients = λ queue which. client_of queue which arrives turns;
  items = λ queue. items_told queue turns;
  registrations = λ queue. registration_of queue turns;
}

module _ (arrives : ℕ → Bool) where
  -- each line keeps what is promised of one line
  abbrev EachKeeps : List Accepted → List Turn → Type 0
  EachKeeps all [] = Unit {0}
  EachKeeps all (turn ∷ before) =
      TurnKeeps all (arrives (length before)) turn.step turn.outcome (accepted before) (known_of arrives before) × EachKeeps all before

  -- and so does the one after some of them
  each_keeps_at : (all : List Accepted) (later : List Turn) (turn : Turn) (before : List Turn) → EachKeeps all (later ++ turn ∷ before)
      → TurnKeeps all (arrives (length before)) turn.step turn.outcome (accepted before) (known_of arrives before)
  each_keeps_at all [] turn before keeps = keeps.0
  each_keeps_at all (other ∷ later) turn before keeps = each_keeps_at all later turn before keeps.1

  module _ (final : List RealmStep) (count : ℕ) (legal_final : IsLegalRealm final) where
    -- what holds of the lines that were played so far
    pub record PlayedSo (turns : List Turn) (history : History) : Type 0 where
      pub accepted_are : accepted turns ≡ commands history.realm
      pub following : Following final count legal_final (known_of arrives turns) history
      pub each : EachKeeps (commands final) turns

    -- with one line more
    played_more : (turn : Turn) (turns : List Turn) (before history : History) → GoesOn (moment_of (steps_in turns)) (fetched_for turns) turn.step turn.outcome before history
        → WasThere final count history → (WasThere final count before → PlayedSo turns before) → PlayedSo (turn ∷ turns) history
    played_more turn turns before history plays there earlier =
        let moment = moment_of (steps_in turns) in
        let turning = turned final count legal_final moment (fetched_for turns) turn.step turn.outcome before history plays there in
        let so_far = earlier turning.there in
        record {
          accepted_are = ap (accepted_by moment turn.step turn.outcome) so_far.accepted_are ∙ turning.accepts;
          following = turning.keeps (arrives (length turns)) (known_of arrives turns) so_far.following;
          each = (
            subst (λ list. TurnKeeps (commands final) (arrives (length turns)) turn.step turn.outcome list (known_of arrives turns)) (sym so_far.accepted_are)
                (turning.promised (arrives (length turns)) (known_of arrives turns) so_far.following),
            so_far.each,
          );
        }

    -- what holds of all lines of a script
    pub played_so : (shards : ℕ) (turns : List Turn) (history : History) → 1 ≤ shards → IsCourse shards turns history → WasThere final count history
        → PlayedSo turns history
    played_so shards [] history some course there =
        subst (PlayedSo []) (sym course)
        (record { accepted_are = refl; following = following_at_first final count legal_final shards some (subst (WasThere final count) course there); each = tt })
    played_so shards (turn ∷ turns) history some course there =
        played_more turn turns course.0 history course.1 there (played_so shards turns course.0 some course.3)

-- the promises, of lines that each keep them
module _ (turns : List Turn) (each : (arrives : ℕ → Bool) → EachKeeps arrives (accepted turns) turns) where
  -- one of the lines
  keeps_at : (arrives : ℕ → Bool) (later before : List Turn) (turn : Turn) → turns ≡ later ++ turn ∷ before
      → TurnKeeps (accepted turns) (arrives (length before)) turn.step turn.outcome (accepted before) (known_of arrives before)
  keeps_at arrives later before turn is =
      each_keeps_at arrives (accepted turns) later turn before (subst (EachKeeps arrives (accepted turns)) is (each arrives))

  all_arrive : ℕ → Bool
  all_arrive turn = true

  -- each promise about one line
  registers_are_recent : RegistersAreRecent turns
  registers_are_recent later before user types asked reached queue last state is =
      (keeps_at all_arrive later before (record { step = Register user types asked; outcome = Finished reached queue last state }) is).line

  registers_are_fresh : RegistersAreFresh turns
  registers_are_fresh later before step reached queue last state which is told =
      (keeps_at all_arrive later before (record { step = step; outcome = Finished reached queue last state }) is).fresh which told

  clients_are_fresh : ClientsAreFresh turns
  clients_are_fresh arrives later before turn queue which reached is answered followed takes =
      (keeps_at arrives later before turn is).followed queue reached answered which followed takes

  readers_are_active : ReadersAreActive turns
  readers_are_active later before turn queue reached registration is answered known some =
      (keeps_at all_arrive later before turn is).active queue reached answered registration known some

  views_are_fresh : ViewsAreFresh turns
  views_are_fresh later before user at state is =
      (keeps_at all_arrive later before (record { step = View user; outcome = Viewed at state }) is).line

-- the trace of the shard that serves a user is legal
user_trace : (final : List RealmStep) (count : ℕ) (history : History) → WasThere final count history → 1 ≤ count → (user : UserId)
    → IsLegalOver final (trace_at (shard_of count user) history.shards)
user_trace final count history there some user =
    let sized = there.sized in
    let inside : shard_of count user < count = mod-lt user.0 some in
    (belongs_at final count 0 (shard_of count user) history.shards (omega arith) there.belong).legal

-- items that were shown are steady
ids_are_steady : (arrives : ℕ → Bool) (final : List RealmStep) (count : ℕ) (legal_final : IsLegalRealm final) (turns : List Turn) (history : History)
    → WasThere final count history → Following final count legal_final (known_of arrives turns) history → IdsAreSteady turns
ids_are_steady arrives final count legal_final turns history there following queue first middle last a b is same =
    let all = commands final in
    let trace = trace_at (shard_of count queue.user) history.shards in
    let shown = subst (AllShown (changed_events all) (viewed all) queue trace) (is ∙ append_assoc first (a ∷ middle) (b ∷ last)) (following.followed queue).shown in
    let at_a = shown_at (changed_events all) (viewed all) queue trace first a (middle ++ b ∷ last) shown in
    let at_b = shown_at (changed_events all) (viewed all) queue trace middle b last at_a.1 in
    one_event (changed_events all) (viewed all) queue trace a b (user_trace final count history there following.some queue.user) at_a.0 at_b.0 same

-- the promises hold of whatever is played in a legal history
pub promises : MayBePlayed → ShardsComeFirst → PromisesHold
promises may first lines turns history played legal =
    let final = history.realm in
    let count = length history.shards in
    let there : WasThere final count history = record { sized = refl; legal = legal.realm; later = []; ends = refl; belong = legal.shards } in
    let going = has_course may first lines turns history played in
    let so = λ (arrives : ℕ → Bool). played_so arrives final count legal.realm (shards_of (steps_in turns)) turns history going.some going.course there in
    let each = λ (arrives : ℕ → Bool). subst (λ all. EachKeeps arrives all turns) (sym (so arrives).accepted_are) (so arrives).each in
    record {
      recent = registers_are_recent turns each;
      fresh = registers_are_fresh turns each;
      followed = clients_are_fresh turns each;
      active = readers_are_active turns each;
      viewed = views_are_fresh turns each;
      steady = ids_are_steady (λ turn. true) final count legal.realm turns history there (so (λ turn. true)).following;
    }
