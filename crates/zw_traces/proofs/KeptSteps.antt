-- What a shard keeps of its queues is enough for each reply and each step.
use Rattle.std.proofs.Common.{◌≡◌, ℕ, ◌+◌, ◌<◌, ◌≤◌, max, Bool, true, false, cond, not, ◌&&◌, ◌||◌, nat_lt, List, [], ◌∷◌, ◌++◌, length, count_by, map, filter, reverse, nat_le, ◌==◌, ℤ, refl, ap, sym, subst, ◌∙◌, MatchBool, None, option_map, arith}
use Rattle.std.proofs.lemmas.Bool.{false≢true, ltb-false, or_parts}
use Rattle.std.proofs.lemmas.List.Elements.{filter-append}
use Rattle.ev_base.specs.declared.ids.UserId.{UserId}
use Rattle.ev_base.specs.declared.ids.QueueId.{QueueId}
use Rattle.ev_base.specs.declared.expired.Expired.{Expired}
use Rattle.ev_types.specs.declared.event.Event.{Event}
use Rattle.ev_types.specs.declared.section.Section.{Section}
use Rattle.zw_traces.specs.declared.shard.FetchedSection.{FetchedSection}
use Rattle.zw_traces.specs.Account.{id_of, is_below_all, Account, Feeding, Phase, unopened, opening, live, gone, is_opening_phase, is_live_phase, is_held_phase, unopened_account, opened_account, account_after, with_events, with_beat, beats, is_empty, ended_if, after_handing_out, after_push, after_answer, after_empty, after_finish, items_of, kept_of, items_to_give, above, not_above, greatest_id, count_of, same_user, same_queue, is_held, is_due, end_user, new_notices, max_kept, max_ids, max_idle, with_moment}
use Rattle.zw_traces.specs.FetchedSections.{first_missing, all_sections, needed, part_of}
use Rattle.zw_traces.specs.declared.shard.ShardInput.{ShardInput}
use Rattle.zw_traces.specs.declared.shard.ShardReply.{ShardReply}
use Rattle.ev_groups.specs.Items.{Numbered, events_of}
use Rattle.zw_traces.specs.declared.shard.ShardStep.{ShardStep}
use Rattle.zw_traces.specs.ShardTrace.{ShardAccount, Reading, ShardAnswers, QueueFinishes, QueuePolls, AnswersItems, OrNoMemory, shard_account, position_after, opened_queues, opened_after, pushed_events, given_rows, is_asked, opened_by, expiries, IsLegalShardBy}
use Rattle.zw_traces.specs.KeptAccount.{without_pruned, kept_account, kept_shard, shard_after, opens_after, Represents}
use Rattle.zw_traces.proofs.ItemLemmas.{above_above, greatest_least}
use Rattle.zw_traces.proofs.Alike.{same_finishes}
use Rattle.zw_traces.proofs.Uncut.{Uncut, uncut}
use Rattle.zw_traces.proofs.Steps.{same_queue_is, same_user_itself, opened_tells, finished_tells, answered_tells, empty_tells}
use Rattle.zw_traces.proofs.Phases.{opening_is_held, live_is_held, held_again}
use Rattle.ev_types.specs.OneSection.{received, rows_after}
use Rattle.zw_traces.specs.declared.shard.ShardInput.TheVariants.{Start, Push, Finish, Poll, Delete, Tick, Locate}
use Rattle.zw_traces.specs.declared.shard.ShardReply.TheVariants.{Opened, Pushed, Finished, Answer, Empty, Deleted, Ticked, BadQueue, NotSent, Pruned}

MatchBool-then : (test : Bool) (P P' Q : Type 0) → (test ≡ true → P → P') → MatchBool test P Q → MatchBool test P' Q
MatchBool-then true P P' Q f choice = f refl choice
MatchBool-then false P P' Q f choice = choice

MatchBool-else : (test : Bool) (P Q Q' : Type 0) → (test ≡ false → Q → Q') → MatchBool test P Q → MatchBool test P Q'
MatchBool-else true P Q Q' f choice = choice
MatchBool-else false P Q Q' f choice = f refl choice

-- pruned items aren't above an id that isn't pruned
pub dropped_above : (after : ℕ) (a : Account) → a.pruned ≤ after → above after (items_of (without_pruned a)) ≡ above after (items_of a)
dropped_above after a within =
    filter-append _ (above a.pruned a.cut_off) a.open_items
    ∙ ap (λ (early : List Numbered). early ++ above after a.open_items) (above_above a.pruned after a.cut_off within)
    ∙ sym (filter-append _ a.cut_off a.open_items)

pub dropped_kept : (a : Account) → kept_of (without_pruned a) ≡ kept_of a
dropped_kept a = dropped_above a.pruned a (omega arith)

dropped_twice : (a : Account) → without_pruned (without_pruned a) ≡ without_pruned a
dropped_twice a = ap (λ (list : List Numbered). record a { cut_off = list }) (above_above a.pruned a.pruned a.cut_off (omega arith))

dropped_beat : (after : ℕ) (beat : Bool) (a : Account) → a.pruned ≤ after → with_beat after beat (without_pruned a) ≡ without_pruned (with_beat after beat a)
dropped_beat after beat a within =
    ap (λ (list : List Numbered). with_events (beats (beat && (is_empty list && nat_lt a.next max_ids))) (without_pruned a)) (dropped_above after a within)

dropped_gives : (after : ℕ) (beat : Bool) (a : Account) → a.pruned ≤ after → items_to_give after beat (without_pruned a) ≡ items_to_give after beat a
dropped_gives after beat a within = ap (λ (b : Account). above after (items_of b)) (dropped_beat after beat a within) ∙ dropped_above after (with_beat after beat a) within

kept_held : (a : Account) → is_held (kept_account a) ≡ is_held a
kept_held a = go (is_held a) refl
  where
    go : (held : Bool) → is_held a ≡ held → is_held (cond held (without_pruned a) unopened_account) ≡ held
    go true is = is
    go false is = refl

kept_due : (moment : ℕ) (a : Account) → is_due moment (kept_account a) ≡ is_due moment a
kept_due moment a = go (is_held a) refl
  where
    go : (held : Bool) → is_held a ≡ held → is_due moment (cond held (without_pruned a) unopened_account) ≡ is_due moment a
    go true is = refl
    go false is = sym (ap (λ held. held && nat_le (a.last + max_idle) moment) is)

not_live : (at : Phase) → is_held_phase at ≡ false → is_live_phase at ≡ false
not_live unopened is = refl
not_live gone is = refl
not_live opening is = absurd (false≢true (sym is))
not_live live is = absurd (false≢true (sym is))

not_opening : (at : Phase) → is_held_phase at ≡ false → is_opening_phase at ≡ false
not_opening unopened is = refl
not_opening gone is = refl
not_opening opening is = absurd (false≢true (sym is))
not_opening live is = absurd (false≢true (sym is))

-- replies that are right by what is kept are right
module _ (user : UserId) (a : Account) (place : ℕ) where
  kept_polls : (asker : UserId) (after : ℤ) (beat : Bool) (reply : ShardReply) → QueuePolls user (kept_account a) place asker after beat reply → QueuePolls user a place asker after beat reply
  kept_polls asker after beat reply = go (is_held a) refl
    where
      go : (held : Bool) → is_held a ≡ held → QueuePolls user (cond held (without_pruned a) unopened_account) place asker after beat reply → QueuePolls user a place asker after beat reply
      go false is answers =
          let P : Bool → Type 0 = λ lives. MatchBool (lives && same_user user asker)
          (MatchBool (nat_lt a.given (count_of after)) (reply ≡ NotSent (id_of a.given))
          (MatchBool (is_below_all after || nat_lt (count_of after) a.pruned) (reply ≡ Pruned (id_of a.pruned)) (AnswersItems user a place (items_to_give (count_of after) beat a) reply))) (reply ≡ BadQueue) in
          subst P (sym (not_live a.phase is)) answers
      go true is answers =
          MatchBool-then (is_live_phase a.phase && same_user user asker) _ _ _
          (λ may. MatchBool-else (nat_lt a.given (count_of after)) _ _ _
          (λ sent. MatchBool-else (is_below_all after || nat_lt (count_of after) a.pruned) _ _ _
          (λ old right.
          let kept_is = ltb-false (count_of after) a.pruned (or_parts (is_below_all after) (nat_lt (count_of after) a.pruned) old).1 in
          subst (λ (list : List Numbered). AnswersItems user a place list reply) (dropped_gives (count_of after) beat a kept_is) right)))
          answers

  kept_finishes : (parts : List FetchedSection) (reply : ShardReply) → Uncut a → QueueFinishes user (kept_account a) place given_rows parts reply → QueueFinishes user a place given_rows parts reply
  kept_finishes parts reply whole = go (is_held a) refl
    where
      by_kept : Reading
      by_kept = λ user a place parts which. given_rows user (without_pruned a) place parts which

      same : is_opening_phase a.phase ≡ true → (which : Section) → given_rows user (without_pruned a) place parts which ≡ given_rows user a place parts which
      same opens which =
          ap (λ (list : List Numbered). cond (is_asked a which) (option_map (λ (part : FetchedSection). rows_after (events_of (list ++ a.open_items)) part.rows) (part_of which parts)) None)
          (ap (above a.pruned) (whole opens) ∙ sym (whole opens))

      go : (held : Bool) → is_held a ≡ held → QueueFinishes user (cond held (without_pruned a) unopened_account) place given_rows parts reply → QueueFinishes user a place given_rows parts reply
      go false is answers = rw (not_opening a.phase is) answers
      go true is answers = same_finishes by_kept given_rows user a place parts reply (is_opening_phase a.phase) refl (first_missing all_sections a.asked parts) refl
          (nat_lt place (needed a.asked parts)) refl (λ opens none pushed. same opens) answers

kept_collected : (s : ShardAccount) (moment : ℕ) → expiries (kept_shard s) moment ≡ expiries s moment
kept_collected s moment = λ i.
    map (λ queue. record { queue = queue; moment = moment; last_of_user = count_by (λ other. not (kept_due moment (s.account other) i)) (opened_by queue.user s.queues) == 0 })
    (filter (λ queue. kept_due moment (s.account queue) i) (reverse s.queues))

-- what is kept is enough to tell whether a reply is right
pub kept_answers : (s : ShardAccount) → ((queue : QueueId) → Uncut (s.account queue)) → (input : ShardInput) (reply : ShardReply)
    → ShardAnswers (kept_shard s) given_rows input reply → ShardAnswers s given_rows input reply
kept_answers s whole (Start user salt moment types asked) reply answers = answers
kept_answers s whole (Finish queue parts) reply answers = kept_finishes queue.user (s.account queue) s.position parts reply (whole queue) answers
kept_answers s whole (Poll user queue after moment beat) reply answers = kept_polls queue.user (s.account queue) s.position user after beat reply answers
kept_answers s whole (Delete user queue) reply answers = subst (λ (held : Bool). MatchBool (held && same_user queue.user user) (reply ≡ Deleted) (reply ≡ BadQueue)) (kept_held (s.account queue)) answers
kept_answers s whole (Tick moment) reply answers = subst (λ (list : List Expired). OrNoMemory reply (reply ≡ Ticked list)) (kept_collected s moment) answers
kept_answers s whole (Push first notices) reply answers = answers
kept_answers s whole Locate reply answers = answers

-- what is pruned already doesn't count
greatest_dropped : (pruned id after : ℕ) (xs ys : List Numbered) → pruned ≤ id
    → greatest_id id (not_above after (above pruned xs ++ ys)) ≡ greatest_id id (not_above after (xs ++ ys))
greatest_dropped pruned id after [] ys within = refl
greatest_dropped pruned id after (x ∷ xs) ys within =
    go (nat_lt pruned x.0) refl (nat_lt after x.0) refl (greatest_dropped pruned id after xs ys within) (greatest_dropped pruned (max id x.0) after xs ys (omega arith))
  where
    go : (over : Bool) → nat_lt pruned x.0 ≡ over → (late : Bool) → nat_lt after x.0 ≡ late
        → greatest_id id (not_above after (above pruned xs ++ ys)) ≡ greatest_id id (not_above after (xs ++ ys))
        → greatest_id (max id x.0) (not_above after (above pruned xs ++ ys)) ≡ greatest_id (max id x.0) (not_above after (xs ++ ys))
        → greatest_id id (not_above after (cond over (x ∷ above pruned xs) (above pruned xs) ++ ys)) ≡ greatest_id id (cond (not late) (x ∷ not_above after (xs ++ ys)) (not_above after (xs ++ ys)))
    go true over_is true late_is lower higher = rw late_is lower
    go true over_is false late_is lower higher = rw late_is higher
    go false over_is true late_is lower higher = lower
    go false over_is false late_is lower higher =
        let small = ltb-false pruned x.0 over_is in
        let same : id ≡ max id x.0 = omega arith in
        lower ∙ ap (λ n. greatest_id n (not_above after (xs ++ ys))) same

dropped_pruned : (after : ℕ) (a : Account) → greatest_id a.pruned (not_above after (items_of (without_pruned a))) ≡ greatest_id a.pruned (not_above after (items_of a))
dropped_pruned after a = greatest_dropped a.pruned a.pruned after a.cut_off a.open_items (omega arith)

dropped_push : (ends : Bool) (events : List Event) (a : Account) → after_push ends events (without_pruned a) ≡ without_pruned (after_push ends events a)
dropped_push ends events a =
    let b = with_events events a in
    ap (λ (list : List Numbered). ended_if (ends || (nat_lt max_kept (length list) || nat_lt max_ids b.next)) (without_pruned b)) (dropped_kept b)

dropped_handed : (after : ℕ) (a : Account) → a.pruned ≤ after → without_pruned (after_handing_out after (without_pruned a)) ≡ without_pruned (after_handing_out after a)
dropped_handed after a within =
    let pruned_is = dropped_pruned after a in
    let given_is = ap (greatest_id a.given) (dropped_above after a within) in
    let cut_is : above (greatest_id a.pruned (not_above after (items_of (without_pruned a)))) (items_of (without_pruned a)) ≡ above (greatest_id a.pruned (not_above after (items_of a))) (items_of a) =
    ap (λ n. above n (items_of (without_pruned a))) pruned_is ∙ dropped_above (greatest_id a.pruned (not_above after (items_of a))) a (greatest_least a.pruned (not_above after (items_of a))) in
    λ i. record a { cut_off = cut_is i; open_items = []; given = given_is i; pruned = pruned_is i }

dropped_answer : (after : ℕ) (beat : Bool) (moment : ℕ) (a : Account) → a.pruned ≤ after → without_pruned (after_answer after beat moment (without_pruned a)) ≡ without_pruned (after_answer after beat moment a)
dropped_answer after beat moment a within =
    ap (λ (b : Account). with_moment moment (without_pruned (after_handing_out after b))) (dropped_beat after beat a within)
    ∙ ap (with_moment moment) (dropped_handed after (with_beat after beat a) within)

dropped_empty : (after moment : ℕ) (a : Account) → without_pruned (after_empty after moment (without_pruned a)) ≡ without_pruned (after_empty after moment a)
dropped_empty after moment a =
    let pruned_is = dropped_pruned after a in
    let cut_is : above (greatest_id a.pruned (not_above after (items_of (without_pruned a)))) (above a.pruned a.cut_off) ≡ above (greatest_id a.pruned (not_above after (items_of a))) a.cut_off =
    ap (λ n. above n (above a.pruned a.cut_off)) pruned_is ∙ above_above a.pruned (greatest_id a.pruned (not_above after (items_of a))) a.cut_off (greatest_least a.pruned (not_above after (items_of a))) in
    λ i. record a { cut_off = cut_is i; pruned = pruned_is i; last = max a.last moment }

kept_dropped : (a : Account) → kept_account (without_pruned a) ≡ kept_account a
kept_dropped a = ap (λ (b : Account). cond (is_held a) b unopened_account) (dropped_twice a)

kept_none : (a : Account) → is_held a ≡ false → kept_account a ≡ unopened_account
kept_none a is = ap (λ (held : Bool). cond held (without_pruned a) unopened_account) is

kept_twice : (a : Account) → kept_account (kept_account a) ≡ kept_account a
kept_twice a = go (is_held a) refl
  where
    go : (held : Bool) → is_held a ≡ held → kept_account (cond held (without_pruned a) unopened_account) ≡ kept_account a
    go true is = kept_dropped a
    go false is = sym (kept_none a is)

-- a step makes the same of what is kept
module _ (feeding : Feeding) (reading : Reading) (s : ShardAccount) (whole : (queue : QueueId) → Uncut (s.account queue)) (queue : QueueId) where
  kept_start : (same : Bool) (new : Account) → kept_account (cond same new (kept_account (s.account queue))) ≡ kept_account (cond same new (s.account queue))
  kept_start true new = refl
  kept_start false new = kept_twice (s.account queue)

  kept_ended : (test test' : Bool) → test' ≡ test → kept_account (ended_if test' (kept_account (s.account queue))) ≡ kept_account (ended_if test (s.account queue))
  kept_ended test test' same = ap (λ (t : Bool). kept_account (ended_if t (kept_account (s.account queue)))) same ∙ go (is_held (s.account queue)) refl
    where
      never : (test : Bool) (at : Phase) → is_held_phase at ≡ false → is_held_phase (cond test gone at) ≡ false
      never true at is = refl
      never false at is = is

      go : (held : Bool) → is_held (s.account queue) ≡ held → kept_account (ended_if test (cond held (without_pruned (s.account queue)) unopened_account)) ≡ kept_account (ended_if test (s.account queue))
      go true is = kept_dropped (ended_if test (s.account queue))
      go false is =
          kept_none (ended_if test unopened_account) (never test unopened refl) ∙ sym (kept_none (ended_if test (s.account queue)) (never test (s.account queue).phase is))

  kept_after : (input : ShardInput) (reply : ShardReply) → ShardAnswers s reading input reply
      → kept_account (account_after feeding queue s.position input reply (kept_account (s.account queue))) ≡ kept_account (account_after feeding queue s.position input reply (s.account queue))
  kept_after (Start user salt moment types asked) (Opened other at) answers = kept_start (same_queue queue other) (opened_account types asked at moment)
  kept_after (Push first notices) (Pushed reached) answers = go (is_held (s.account queue)) refl
    where
      push : Account → Account
      push a = after_push (end_user queue.user (new_notices s.position first notices)) (received a.types (feeding queue.user s.position first notices)) a

      go : (held : Bool) → is_held (s.account queue) ≡ held
          → kept_account (cond (is_held (cond held (without_pruned (s.account queue)) unopened_account)) (push (cond held (without_pruned (s.account queue)) unopened_account)) (cond held (without_pruned (s.account queue)) unopened_account))
          ≡ kept_account (cond held (push (s.account queue)) (s.account queue))
      go true is =
          ap (λ (held : Bool). kept_account (cond held (push (without_pruned (s.account queue))) (without_pruned (s.account queue)))) is
          ∙ ap kept_account (dropped_push (end_user queue.user (new_notices s.position first notices)) (received (s.account queue).types (feeding queue.user s.position first notices)) (s.account queue))
          ∙ kept_dropped (push (s.account queue))
      go false is = sym (kept_none (s.account queue) is)
  kept_after (Finish other parts) (Finished state last reached) answers = go (same_queue queue other) refl
    where
      own : (held : Bool) → is_held (s.account queue) ≡ held → is_opening_phase (s.account queue).phase ≡ true
          → kept_account (after_finish (cond held (without_pruned (s.account queue)) unopened_account)) ≡ kept_account (after_finish (s.account queue))
      own false is opens = absurd (false≢true (sym is ∙ opening_is_held (s.account queue).phase opens))
      own true is opens = ap (λ (list : List Numbered). kept_account (after_finish (record (s.account queue) { cut_off = list }))) (ap (above (s.account queue).pruned) (whole queue opens) ∙ sym (whole queue opens))

      go : (same : Bool) → same_queue queue other ≡ same
          → kept_account (cond same (after_finish (kept_account (s.account queue))) (kept_account (s.account queue))) ≡ kept_account (cond same (after_finish (s.account queue)) (s.account queue))
      go false is = kept_twice (s.account queue)
      go true is =
          let opens = subst (λ q. is_opening_phase (s.account q).phase ≡ true) (sym (same_queue_is queue other is)) (finished_tells other.user (s.account other) s.position reading parts state last reached answers).was_opening in
          own (is_held (s.account queue)) refl opens
  kept_after (Poll user other after moment beat) (Answer list reached) answers = go (same_queue queue other) refl
    where
      own : (held : Bool) → is_held (s.account queue) ≡ held → is_live_phase (s.account queue).phase ≡ true → (s.account queue).pruned ≤ count_of after
          → kept_account (after_answer (count_of after) beat moment (cond held (without_pruned (s.account queue)) unopened_account)) ≡ kept_account (after_answer (count_of after) beat moment (s.account queue))
      own false is lives within = absurd (false≢true (sym is ∙ live_is_held (s.account queue).phase lives))
      own true is lives within = ap (λ (b : Account). cond (is_held (s.account queue)) b unopened_account) (dropped_answer (count_of after) beat moment (s.account queue) within)

      go : (same : Bool) → same_queue queue other ≡ same
          → kept_account (cond same (after_answer (count_of after) beat moment (kept_account (s.account queue))) (kept_account (s.account queue)))
          ≡ kept_account (cond same (after_answer (count_of after) beat moment (s.account queue)) (s.account queue))
      go false is = kept_twice (s.account queue)
      go true is =
          let right = subst (λ q. QueuePolls q.user (s.account q) s.position user after beat (Answer list reached)) (sym (same_queue_is queue other is)) answers in
          let tells = answered_tells queue.user (s.account queue) s.position user after beat list reached right in
          own (is_held (s.account queue)) refl tells.polling.was_live tells.polling.kept
  kept_after (Poll user other after moment beat) (Empty reached) answers = go (same_queue queue other) refl
    where
      own : (held : Bool) → is_held (s.account queue) ≡ held → is_live_phase (s.account queue).phase ≡ true
          → kept_account (after_empty (count_of after) moment (cond held (without_pruned (s.account queue)) unopened_account)) ≡ kept_account (after_empty (count_of after) moment (s.account queue))
      own false is lives = absurd (false≢true (sym is ∙ live_is_held (s.account queue).phase lives))
      own true is lives = ap (λ (b : Account). cond (is_held (s.account queue)) b unopened_account) (dropped_empty (count_of after) moment (s.account queue))

      go : (same : Bool) → same_queue queue other ≡ same
          → kept_account (cond same (after_empty (count_of after) moment (kept_account (s.account queue))) (kept_account (s.account queue)))
          ≡ kept_account (cond same (after_empty (count_of after) moment (s.account queue)) (s.account queue))
      go false is = kept_twice (s.account queue)
      go true is =
          let right = subst (λ q. QueuePolls q.user (s.account q) s.position user after beat (Empty reached)) (sym (same_queue_is queue other is)) answers in
          own (is_held (s.account queue)) refl (empty_tells queue.user (s.account queue) s.position user after beat reached right).polling.was_live
  kept_after (Delete user other) Deleted answers = kept_ended (same_queue queue other) (same_queue queue other) refl
  kept_after (Tick moment) (Ticked expired) answers = kept_ended (is_due moment (s.account queue)) (is_due moment (kept_account (s.account queue))) (kept_due moment (s.account queue))
  kept_after input reply answers = kept_twice (s.account queue)

-- no other queue is held than before, but the one that is opened
abbrev IsNumbered : ShardAccount → QueueId → Type 0
IsNumbered s queue = queue.number < s.opens queue.user

module _ (feeding : Feeding) (reading : Reading) (s : ShardAccount) (queue : QueueId) where
  held_before : (input : ShardInput) (reply : ShardReply) → ShardAnswers s reading input reply → IsNumbered s queue
      → is_held (account_after feeding queue s.position input reply (s.account queue)) ≡ true → is_held (s.account queue) ≡ true
  held_before (Start user salt moment types asked) (Opened other at) answers number = go (same_queue queue other) refl
    where
      go : (same : Bool) → same_queue queue other ≡ same → is_held (cond same (opened_account types asked at moment) (s.account queue)) ≡ true → is_held (s.account queue) ≡ true
      go false is held = held
      go true is held =
          let same = same_queue_is queue other is ∙ (opened_tells s reading user salt moment types asked other at answers).0 in
          let number_is : queue.number ≡ s.opens queue.user = ap (λ (q : QueueId). q.number) same ∙ ap s.opens (sym (ap (λ (q : QueueId). q.user) same)) in
          absurd (omega (arith, number, number_is))
  held_before (Push first notices) (Pushed reached) answers number = go (is_held (s.account queue)) refl
    where
      push : Account → Account
      push a = after_push (end_user queue.user (new_notices s.position first notices)) (received a.types (feeding queue.user s.position first notices)) a

      go : (held : Bool) → is_held (s.account queue) ≡ held → is_held (cond held (push (s.account queue)) (s.account queue)) ≡ true → is_held (s.account queue) ≡ true
      go true is held = is
      go false is held = held
  held_before (Finish other parts) (Finished state last reached) answers number = go (same_queue queue other) refl
    where
      go : (same : Bool) → same_queue queue other ≡ same → is_held (cond same (after_finish (s.account queue)) (s.account queue)) ≡ true → is_held (s.account queue) ≡ true
      go false is held = held
      go true is held =
          let opens = subst (λ q. is_opening_phase (s.account q).phase ≡ true) (sym (same_queue_is queue other is)) (finished_tells other.user (s.account other) s.position reading parts state last reached answers).was_opening in
          opening_is_held (s.account queue).phase opens
  held_before (Poll user other after moment beat) (Answer list reached) answers number = go (same_queue queue other)
    where
      go : (same : Bool) → is_held (cond same (after_answer (count_of after) beat moment (s.account queue)) (s.account queue)) ≡ true → is_held (s.account queue) ≡ true
      go false held = held
      go true held = held
  held_before (Poll user other after moment beat) (Empty reached) answers number = go (same_queue queue other)
    where
      go : (same : Bool) → is_held (cond same (after_empty (count_of after) moment (s.account queue)) (s.account queue)) ≡ true → is_held (s.account queue) ≡ true
      go false held = held
      go true held = held
  held_before (Delete user other) Deleted answers number = λ held. (held_again (same_queue queue other) (s.account queue).phase held).1
  held_before (Tick moment) (Ticked expired) answers number = λ held. (held_again (is_due moment (s.account queue)) (s.account queue).phase held).1
  held_before input reply answers number = λ held. held

abbrev AllQueues : (QueueId → Type 0) → List QueueId → Type 0
AllQueues P [] = Unit {0}
AllQueues P (queue ∷ list) = P queue × AllQueues P list

AllQueues-more : (P Q : QueueId → Type 0) → ((queue : QueueId) → P queue → Q queue) → (list : List QueueId) → AllQueues P list → AllQueues Q list
AllQueues-more P Q f [] are = tt
AllQueues-more P Q f (queue ∷ list) are = (f queue are.0, AllQueues-more P Q f list are.1)

filter_through : (first second : QueueId → Bool) (list : List QueueId) → AllQueues (λ queue. second queue ≡ true → first queue ≡ true) list
    → filter second (filter first list) ≡ filter second list
filter_through first second [] are = refl
filter_through first second (queue ∷ list) are = go (first queue) (second queue) refl are.0 (filter_through first second list are.1)
  where
    go : (one two : Bool) → second queue ≡ two → (two ≡ true → one ≡ true) → filter second (filter first list) ≡ filter second list
        → filter second (cond one (queue ∷ filter first list) (filter first list)) ≡ cond two (queue ∷ filter second list) (filter second list)
    go true true is only inner = rw (is, inner) refl
    go true false is only inner = rw (is, inner) refl
    go false false is only inner = inner
    go false true is only inner = absurd (false≢true (only refl))

opens_grow : (input : ShardInput) (reply : ShardReply) (user : UserId) (list : List QueueId) → length (opened_by user list) ≤ length (opened_by user (opened_after input reply list))
opens_grow (Start user salt moment types asked) (Opened other at) own list = go (same_user own other.user)
  where
    go : (same : Bool) → length (opened_by own list) ≤ length (cond same (other ∷ opened_by own list) (opened_by own list))
    go true = omega arith
    go false = omega arith
opens_grow input reply own list = omega arith

numbered_after : (feeding : Feeding) (reading : Reading) (before : List ShardStep) (input : ShardInput) (reply : ShardReply) → ShardAnswers (shard_account feeding before) reading input reply
    → AllQueues (IsNumbered (shard_account feeding before)) (opened_queues before)
    → AllQueues (λ queue. queue.number < length (opened_by queue.user (opened_after input reply (opened_queues before)))) (opened_after input reply (opened_queues before))
numbered_after feeding reading before (Start user salt moment types asked) (Opened other at) answers inner =
    let tells = (opened_tells (shard_account feeding before) reading user salt moment types asked other at answers).0 in
    let number_is : other.number ≡ length (opened_by other.user (opened_queues before)) = ap (λ (q : QueueId). q.number) tells ∙ ap (λ (u : UserId). length (opened_by u (opened_queues before))) (sym (ap (λ (q : QueueId). q.user) tells)) in
    let one : length (opened_by other.user (other ∷ opened_queues before)) ≡ length (opened_by other.user (opened_queues before)) + 1 = own (same_user other.user other.user) (same_user_itself other.user) in
    (omega (arith, number_is, one), AllQueues-more _ (λ queue. queue.number < length (opened_by queue.user (other ∷ opened_queues before))) (λ queue is. omega (arith, is, opens_grow (Start user salt moment types asked) (Opened other at) queue.user (opened_queues before))) (opened_queues before) inner)
  where
    own : (same : Bool) → same ≡ true → length (cond same (other ∷ opened_by other.user (opened_queues before)) (opened_by other.user (opened_queues before))) ≡ length (opened_by other.user (opened_queues before)) + 1
    own true is = omega arith
    own false is = absurd (false≢true is)
numbered_after feeding reading before input reply answers inner = inner

all_numbered : (feeding : Feeding) (reading : Reading) (trace : List ShardStep) → IsLegalShardBy feeding reading trace → AllQueues (IsNumbered (shard_account feeding trace)) (opened_queues trace)
all_numbered feeding reading [] legal = tt
all_numbered feeding reading (step ∷ before) legal = numbered_after feeding reading before step.input step.reply legal.0 (all_numbered feeding reading before legal.1)

opens_is : (input : ShardInput) (reply : ShardReply) (list : List QueueId) (user : UserId) → opens_after input reply (λ user. length (opened_by user list)) user ≡ length (opened_by user (opened_after input reply list))
opens_is (Start user salt moment types asked) (Opened other at) list own = go (same_user own other.user)
  where
    go : (same : Bool) → cond same (length (opened_by own list) + 1) (length (opened_by own list)) ≡ length (cond same (other ∷ opened_by own list) (opened_by own list))
    go true = omega arith
    go false = refl
opens_is input reply list own = refl

-- the queues that are held after a step are among those before, and the one that is opened
queues_are : (input : ShardInput) (reply : ShardReply) (held held' : QueueId → Bool) (list : List QueueId) → AllQueues (λ queue. held' queue ≡ true → held queue ≡ true) list
    → filter held' (opened_after input reply (filter held list)) ≡ filter held' (opened_after input reply list)
queues_are (Start user salt moment types asked) (Opened other at) held held' list are = ap (λ (rest : List QueueId). cond (held' other) (other ∷ rest) rest) (filter_through held held' list are)
queues_are input reply held held' list are = filter_through held held' list are

-- a value that answers by what it keeps, and keeps what a step makes of it, represents the longer trace
pub represents_step : (value : ShardAccount) (trace : List ShardStep) (input : ShardInput) (reply : ShardReply) → Represents value trace
    → ShardAnswers value given_rows input reply → Represents (kept_shard (shard_after pushed_events input reply value)) (record { input = input; reply = reply } ∷ trace)
represents_step value trace input reply represents answers =
    let s = shard_account pushed_events trace in
    let whole : (queue : QueueId) → Uncut (s.account queue) = λ queue. uncut pushed_events given_rows queue trace represents.legal in
    let right = kept_answers s whole input reply (subst (λ (v : ShardAccount). ShardAnswers v given_rows input reply) represents.keeps answers) in
    let accounts : (queue : QueueId) → kept_account (account_after pushed_events queue s.position input reply (kept_account (s.account queue))) ≡ kept_account (account_after pushed_events queue s.position input reply (s.account queue)) =
    λ queue. kept_after pushed_events given_rows s whole queue input reply right in
    let still : (queue : QueueId) → is_held (account_after pushed_events queue s.position input reply (kept_account (s.account queue))) ≡ is_held (account_after pushed_events queue s.position input reply (s.account queue)) =
    λ queue. sym (kept_held (account_after pushed_events queue s.position input reply (kept_account (s.account queue)))) ∙ ap is_held (accounts queue) ∙ kept_held (account_after pushed_events queue s.position input reply (s.account queue)) in
    let held' : QueueId → Bool = λ queue. is_held (account_after pushed_events queue s.position input reply (s.account queue)) in
    let among = AllQueues-more (IsNumbered s) (λ queue. held' queue ≡ true → is_held (s.account queue) ≡ true) (λ queue number. held_before pushed_events given_rows s queue input reply right number) (opened_queues trace) (all_numbered pushed_events given_rows trace represents.legal) in
    let queues : filter (λ queue. is_held (account_after pushed_events queue s.position input reply (kept_account (s.account queue)))) (opened_after input reply s.queues) ≡ filter held' (opened_after input reply (opened_queues trace)) =
    ap (λ (test : QueueId → Bool). filter test (opened_after input reply s.queues)) (λ i queue. still queue i) ∙ queues_are input reply (λ queue. is_held (s.account queue)) held' (opened_queues trace) among in
    let same : kept_shard (shard_after pushed_events input reply (kept_shard s)) ≡ kept_shard (shard_account pushed_events (record { input = input; reply = reply } ∷ trace)) =
    λ i. record { position = position_after input reply s.position; opens = λ user. opens_is input reply (opened_queues trace) user i; queues = queues i; account = λ queue. accounts queue i } in
    record {
      keeps = ap (λ (v : ShardAccount). kept_shard (shard_after pushed_events input reply v)) represents.keeps ∙ same;
      legal = (right, represents.legal);
    }

pub represents_nothing : Represents (record { position = 0; opens = λ user. 0; queues = []; account = λ queue. unopened_account }) []
represents_nothing = record { keeps = refl; legal = tt }
