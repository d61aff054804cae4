-- Takes and pushes, one after the other, are determined by what stands before them.
use Rattle.std.proofs.Common.{◌≡◌, ℕ, zero, suc, ◌+◌, ◌-◌, ◌<◌, ◌≤◌, min, max, Bool, false, ◌||◌, nat_lt, if◌then◌else◌, Option, List, [], ◌∷◌, length, drop, map, refl, ap, ap₂, sym, ◌∙◌, inl, inr, arith}
use Rattle.std.specs.List.{list_any}
use Rattle.std.specs.Option.{option_map_or}
use Rattle.std.proofs.lemmas.Bool.{lt-ltb, le-ltb}
use Rattle.ev_base.specs.declared.ids.UserId.{UserId}
use Rattle.ev_base.specs.declared.ids.QueueId.{QueueId}
use Rattle.ev_types.specs.declared.notice.Notice.{Notice}
use Rattle.ev_types.specs.OneSection.{received}
use Rattle.zw_traces.specs.declared.realm.RealmInput.TheVariants as realm
use Rattle.zw_traces.specs.declared.realm.RealmReply.TheVariants as realm_reply
use Rattle.zw_traces.specs.declared.realm.RealmStep.{RealmStep}
use Rattle.zw_traces.specs.declared.shard.ShardInput.TheVariants as shard
use Rattle.zw_traces.specs.declared.shard.ShardReply.TheVariants as shard_reply
use Rattle.zw_traces.specs.declared.shard.ShardStep.{ShardStep}
use Rattle.zw_traces.specs.RealmTrace.{Accepted, AreNotices, IsLegalRealm, announced_count, commands, commits, deactivated_user, max_taken, prefix_of}
use Rattle.zw_traces.specs.RealmFeeds.{changed_events, events_since, viewed}
use Rattle.zw_traces.specs.Account.{Account, after_push, end_user, is_held, new_notices, same_user}
use Rattle.zw_traces.specs.ShardTrace.{position_of, shard_account}
use Rattle.zw_traces.specs.Histories.{History, trace_at, with_realm_step, with_shard_step}
use Rattle.zw_traces.proofs.Steps.{pushed_tells}
use Rattle.zw_laws.proofs.FedSteps.{length-with_step_at}
use Rattle.zm_text.specs.Playing.{Round, TakesAndPushes, CatchesUp}
use Rattle.zm_laws.proofs.TraceLists.{trace_at-same}
use Rattle.zm_laws.proofs.TraceStates.{TraceState, changed_at-same, state_after}
use Rattle.zm_laws.proofs.Standings.{Standing, position_is, shard_state, standing_after, standing_of, with_change}
use Rattle.zm_laws.proofs.PlayedHistories.{WasThere, answered_at, quiet_pushes, there_before_shard}

-- the users whom the commits from a number on deactivated
abbrev ends_from : List Accepted → ℕ → ℕ → List (Option UserId)
ends_from made number zero = []
ends_from made number (suc n) = deactivated_user (prefix_of number made) ∷ ends_from made (number + 1) n

-- one of them is this user
abbrev ends_among : UserId → List (Option UserId) → Bool
ends_among user list = list_any (λ ended. option_map_or (same_user user) ended false) list

-- notices tell whom their commits deactivated
ends_are : (made : List Accepted) (number : ℕ) (list : List Notice) → AreNotices made number list
    → map (λ (notice : Notice). notice.ends) list ≡ ends_from made number (length list)
ends_are made number [] are = refl
ends_are made number (notice ∷ list) are =
    ap₂ (λ (ended : Option UserId) (rest : List (Option UserId)). ended ∷ rest) are.0.ends (ends_are made (number + 1) list are.1)

end_user_is : (user : UserId) (k : ℕ) (list : List Notice)
    → end_user user (drop k list) ≡ ends_among user (drop k (map (λ (notice : Notice). notice.ends) list))
end_user_is user zero [] = refl
end_user_is user zero (notice ∷ list) =
    ap (λ (rest : Bool). option_map_or (same_user user) notice.ends false || rest) (end_user_is user zero list)
end_user_is user (suc k) [] = refl
end_user_is user (suc k) (notice ∷ list) = end_user_is user k list

module _ (all : List Accepted) where
  -- a queue after a push of the notices of n commits from the first on, past those up to a place
  abbrev pushed_account : List Accepted → ℕ → ℕ → ℕ → QueueId → Account → Account
  pushed_account made first n place queue a =
      if is_held a
      then after_push (ends_among queue.user (drop (place + 1 - first) (ends_from made first n)))
      (received a.types (events_since queue.user place (prefix_of (max place (first + n - 1)) all))) a
      else a

  abbrev pushed : List Accepted → ℕ → ℕ → ℕ → TraceState → TraceState
  pushed made first n place state = record {
    position = max place (first + n - 1);
    opened = state.opened;
    account = λ queue. pushed_account made first n place queue (state.account queue);
  }

  push_is : (made : List Accepted) (first : ℕ) (notices : List Notice) (reached : ℕ) (state : TraceState)
      → AreNotices made first notices → reached ≡ max state.position (first + length notices - 1)
      → state_after (changed_events all) (shard.Push first notices) (shard_reply.Pushed reached) state ≡ pushed made first (length notices) state.position state
  push_is made first notices reached state are reached_is = λ i. record {
    position = reached_is i;
    opened = state.opened;
    account = λ queue.
        if is_held (state.account queue)
        then after_push (ends_is queue i) (received (state.account queue).types (changed_events all queue.user state.position first notices)) (state.account queue)
        else state.account queue;
  }
    where
      ends_is : (queue : QueueId) → end_user queue.user (new_notices state.position first notices)
          ≡ ends_among queue.user (drop (state.position + 1 - first) (ends_from made first (length notices)))
      ends_is queue =
          end_user_is queue.user (state.position + 1 - first) notices
          ∙ ap (λ list. ends_among queue.user (drop (state.position + 1 - first) list)) (ends_are made first notices are)

  -- as many of the announced notices from the first on as are handed out at once
  abbrev pub taken : ℕ → Standing → ℕ
  taken first before = min max_taken (before.announced + 1 - first)

  -- where a shard stands once they are pushed
  abbrev pub taken_up_to : ℕ → ℕ → Standing → ℕ
  taken_up_to index first before = max (shard_state all index before).position (first + taken first before - 1)

  -- they are taken and pushed
  abbrev pub with_taken : ℕ → ℕ → Standing → Standing
  with_taken index first before =
      with_change index (pushed before.commands first (taken first before) (shard_state all index before).position) before

  abbrev one_round : ℕ → Standing → Standing
  one_round index before = with_taken index ((shard_state all index before).position + 1) before

  -- rounds up to what is needed, no more than these
  abbrev pub pushed_up : ℕ → ℕ → ℕ → Standing → Standing
  pushed_up zero index need before = before
  pushed_up (suc rounds) index need before =
      if nat_lt (shard_state all index before).position need then pushed_up rounds index need (one_round index before) else before

  -- where a shard lacks notices, all are announced and pushed up to what is needed
  abbrev pub caught_up : ℕ → ℕ → Standing → Standing
  caught_up index need before =
      if nat_lt (shard_state all index before).position need
      then pushed_up need index need (record before { announced = length before.commands })
      else before

module _ (final : List RealmStep) (count : ℕ) (legal_final : IsLegalRealm final) where
  abbrev stands_at : History → Standing
  stands_at history = standing_of (commands final) history

  -- where all that is needed was announced, they reach it
  pub record HasPushed (index need rounds : ℕ) (before : History) (reached : ℕ) (after : History) : Type 0 where
    pub reached_is : reached ≡ position_of (trace_at index after.shards)
    pub standing : stands_at after ≡ pushed_up (commands final) rounds index need (stands_at before)

  none_needed : (rounds index need : ℕ) (before : History) → need ≤ position_of (trace_at index before.shards)
      → pushed_up (commands final) rounds index need (stands_at before) ≡ stands_at before
  none_needed zero index need before enough = refl
  none_needed (suc rounds) index need before enough =
      let here = position_is (commands final) index before in
      ap (λ (test : Bool). if test then pushed_up (commands final) rounds index need (one_round (commands final) index (stands_at before)) else stands_at before)
      (le-ltb (shard_state (commands final) index (stands_at before)).position need (omega arith))

  -- notices that were taken and pushed
  pub record Takes (index first : ℕ) (reached : ℕ) (before after : History) : Type 0 where
    pub due : first ≤ (shard_state (commands final) index (stands_at before)).position + 1
    pub reached_is : reached ≡ taken_up_to (commands final) index first (stands_at before)
    pub standing : stands_at after ≡ with_taken (commands final) index first (stands_at before)

  pub takes : (index first : ℕ) (notices : List Notice) (reached : ℕ) (before : History) → index < length before.shards
      → WasThere final count (with_shard_step index (shard.Push first notices) (shard_reply.Pushed reached) (with_realm_step (realm.Take first) (realm_reply.Notices first notices) before))
      → Takes index first reached before (with_shard_step index (shard.Push first notices) (shard_reply.Pushed reached) (with_realm_step (realm.Take first) (realm_reply.Notices first notices) before))
  takes index first notices reached before within there =
      let all = commands final in
      let input = shard.Push first notices in
      let reply = shard_reply.Pushed reached in
      let asked = with_realm_step (realm.Take first) (realm_reply.Notices first notices) before in
      let asked_there = there_before_shard final count legal_final index input reply asked there in
      let are = asked_there.legal.0.1 in
      let length_is = asked_there.legal.0.2 in
      let answers = (answered_at final count legal_final index input reply asked there within).answers in
      let tells = pushed_tells (shard_account (changed_events all) (trace_at index before.shards)) (viewed all) first notices reached answers in
      let due = tells.0 in
      let tells_is = tells.1 in
      let here = position_is all index before in
      let place = (shard_state all index (stands_at before)).position in
      let reached_now : reached ≡ max place (first + length notices - 1) = tells_is ∙ ap (λ (n : ℕ). max n (first + length notices - 1)) (sym here) in
      record {
        due = omega arith;
        reached_is = reached_now ∙ ap (λ (n : ℕ). max place (first + n - 1)) length_is;
        standing = standing_after all index input reply asked
            ∙ ap (λ (list : List TraceState). record (stands_at before) { states = list })
            (changed_at-same (changed_events all) index (state_after (changed_events all) input reply)
            (pushed all (commands before.realm) first (taken all first (stands_at before)) place) (stands_at before).states
            (push_is all (commands before.realm) first notices reached (shard_state all index (stands_at before)) are reached_now
            ∙ ap (λ (n : ℕ). pushed all (commands before.realm) first n place (shard_state all index (stands_at before))) length_is));
      }

  -- by induction on the rounds: each push ends no further than what was announced
  pub rounds_push : (most index need have : ℕ) (rounds : List Round) (before : History) (reached : ℕ) (after : History)
      → TakesAndPushes index need have rounds before reached after → WasThere final count after → index < length before.shards
      → need ≤ announced_count before.realm → position_of (trace_at index before.shards) ≡ have → need ≤ have + most
      → HasPushed index need most before reached after
  rounds_push most index need have [] before reached after made there within told stands enough =
      let low = made.0 in
      let is = made.1 in
      let same = ap (λ (h : History). position_of (trace_at index h.shards)) made.2 in
      record {
        reached_is = omega arith;
        standing = ap stands_at made.2 ∙ sym (none_needed most index need before (omega arith));
      }
  rounds_push zero index need have (round ∷ rounds) before reached after made there within told stands enough =
      let lower = made.0 in
      absurd (omega arith)
  rounds_push (suc most) index need have (round ∷ rounds) before reached after made there within told stands enough =
      let all = commands final in
      let input = shard.Push (have + 1) round.notices in
      let reply = shard_reply.Pushed round.position in
      let step : ShardStep = record { input = input; reply = reply } in
      let pushes = with_shard_step index input reply (with_realm_step (realm.Take (have + 1)) (realm_reply.Notices (have + 1) round.notices) before) in
      let lower = made.0 in
      let pushed_there = (quiet_pushes final count legal_final index need round.position rounds pushes reached after made.1 there).there in
      let round_is = takes index (have + 1) round.notices round.position before within pushed_there in
      let position_now = round_is.reached_is in
      let longer = length-with_step_at index step before.shards in
      let here = position_is all index before in
      let rest = rounds_push most index need round.position rounds pushes reached after made.1 there (omega arith) told (ap position_of (trace_at-same index step before.shards within)) (omega arith) in
      let place_is : have + 1 ≡ (shard_state all index (stands_at before)).position + 1 = omega arith in
      let once : stands_at pushes ≡ one_round all index (stands_at before) =
      round_is.standing ∙ ap (λ (first : ℕ). with_taken all index first (stands_at before)) place_is in
      record {
        reached_is = rest.reached_is;
        standing = rest.standing
            ∙ ap (pushed_up all most index need) once
            ∙ ap (λ (test : Bool). if test then pushed_up all most index need (one_round all index (stands_at before)) else stands_at before)
            (sym (lt-ltb (shard_state all index (stands_at before)).position need (omega arith)));
      }

  -- catching up ends where all that is needed is announced and pushed
  pub caught : (index need have : ℕ) (before : History) (reached : ℕ) (after : History)
      → CatchesUp index need have before reached after → WasThere final count after → index < length before.shards
      → need ≤ commits before.realm → position_of (trace_at index before.shards) ≡ have
      → stands_at after ≡ caught_up (commands final) index need (stands_at before)
  caught index need have before reached after (inl done) there within told stands =
      let all = commands final in
      let enough = done.0 in
      let here = position_is all index before in
      ap stands_at done.2
      ∙ sym (ap (λ (test : Bool). if test
      then pushed_up all need index need (record (stands_at before) { announced = length (commands before.realm) })
      else stands_at before) (le-ltb (shard_state all index (stands_at before)).position need (omega arith)))
  caught index need have before reached after (inr made) there within told stands =
      let all = commands final in
      let lower = made.0 in
      let here = position_is all index before in
      let noticed = with_realm_step realm.NoticeAll (realm_reply.Noticed made.1) before in
      let then_there = (quiet_pushes final count legal_final index need have made.2 noticed reached after made.3 there).there in
      let count_is : made.1 ≡ commits before.realm = then_there.legal.0 in
      let pushes = rounds_push need index need have made.2 noticed reached after made.3 there within (omega arith) stands (omega arith) in
      pushes.standing
      ∙ ap (λ (n : ℕ). pushed_up all need index need (record (stands_at before) { announced = n })) count_is
      ∙ ap (λ (test : Bool). if test
      then pushed_up all need index need (record (stands_at before) { announced = length (commands before.realm) })
      else stands_at before) (sym (lt-ltb (shard_state all index (stands_at before)).position need (omega arith)))
