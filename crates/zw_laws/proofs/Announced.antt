-- Traces of a shard that a legal trace of the realm feeds: what was pushed is what the commits changed.
use Rattle.std.proofs.Common.{◌≡◌, ℕ, zero, suc, ◌+◌, ◌-◌, ◌<◌, ◌≤◌, max, List, [], ◌∷◌, ◌++◌, length, drop, flat_map, append-nil, append_assoc, length-drop, add-zero, add-one, ap, sym, subst, ◌∙◌, arith}
use Rattle.ev_base.specs.declared.ids.UserId.{UserId}
use Rattle.ev_types.specs.declared.notice.Notice.{Notice}
use Rattle.ev_types.specs.Audiences.{events_for}
use Rattle.ev_types.specs.Changes.{changes_between}
use Rattle.zw_traces.specs.declared.realm.RealmStep.{RealmStep}
use Rattle.zw_traces.specs.RealmTrace.{IsLegalRealm, commands, commits, announced_count, view_after}
use Rattle.zw_traces.specs.RealmFeeds.{AreAnnounced, Feeds, FeedsStep, changed_events}
use Rattle.zw_laws.proofs.EventsSince.{told, since_none, since_more}
use Rattle.zw_traces.proofs.RealmTraces.{announced_within}
use Rattle.zw_traces.specs.declared.shard.ShardInput.{ShardInput}
use Rattle.zw_traces.specs.declared.shard.ShardReply.{ShardReply}
use Rattle.zw_traces.specs.Account.{Feeding, new_notices}
use Rattle.zw_traces.specs.declared.shard.ShardStep.{ShardStep}
use Rattle.zw_traces.specs.ShardTrace.{Reading, ShardAnswers, IsLegalShardBy, shard_account, position_of, position_after, pushed_events}
use Rattle.zw_traces.proofs.Alike.{AlikeAt, AreAlike}
use Rattle.zw_traces.proofs.Steps.{pushed_tells}
use Rattle.zw_traces.specs.declared.shard.ShardInput.TheVariants.{Push}
use Rattle.zw_traces.specs.declared.shard.ShardReply.TheVariants.{Pushed}

-- the position was never past so many commits
abbrev pub PositionsWithin : ℕ → List ShardStep → Type 0
PositionsWithin most [] = Unit {0}
PositionsWithin most (step ∷ before) = (position_of (step ∷ before) ≤ most) × PositionsWithin most before

module _ (realm : List RealmStep) where
  -- the last of some announced notices was announced
  announced_last : (number : ℕ) (list : List Notice) → AreAnnounced realm number list → 0 < length list → number + length list ≤ announced_count realm + 1
  announced_last number [] are some = omega arith
  announced_last number (notice ∷ []) are some = let first = are.1 in omega arith
  announced_last number (notice ∷ next ∷ list) are some = let further = announced_last (number + 1) (next ∷ list) are.2 (omega arith) in omega arith

  -- what is left of some announced notices
  AreAnnounced-drop : (k number : ℕ) (list : List Notice) → AreAnnounced realm number list → AreAnnounced realm (number + k) (drop k list)
  AreAnnounced-drop zero number list are = rw add-zero are
  AreAnnounced-drop (suc k) number [] are = tt
  AreAnnounced-drop (suc k) number (notice ∷ list) are =
      let same : number + 1 + k ≡ number + suc k = omega arith in
      subst (λ n. AreAnnounced realm n (drop k list)) same (AreAnnounced-drop k (number + 1) list are.2)

  -- the notices past the position tell what their commits changed
  announced_events : (user : UserId) (from at : ℕ) (list : List Notice) → AreAnnounced realm (suc at) list → from ≤ at
      → at + length list ≤ commits realm
      → told user (commands realm) from at ++ flat_map (events_for user) list ≡ told user (commands realm) from (at + length list)
  announced_events user from at [] are ordered within =
      append-nil (told user (commands realm) from at) ∙ ap (λ n. told user (commands realm) from n) (sym (add-zero at))
  announced_events user from at (notice ∷ list) are ordered within =
      let all = commands realm in
      let one_before : suc at - 1 ≡ at = omega arith in
      let counted : suc at + length list ≡ at + suc (length list) = omega arith in
      let tells = are.0.tells user ∙ ap (λ n. changes_between (view_after user n all) (view_after user (suc at) all)) one_before in
      ap (λ events. told user all from at ++ (events ++ flat_map (events_for user) list)) tells
      ∙ sym (append_assoc (told user all from at) (changes_between (view_after user at all) (view_after user (suc at) all)) (flat_map (events_for user) list))
      ∙ ap (λ events. events ++ flat_map (events_for user) list) (sym (since_more user all from at ordered (omega arith)))
      ∙ announced_events user from (suc at) list (rw add-one at are.2) (omega arith) (omega arith)
      ∙ ap (λ n. told user all from n) counted

  module _ (feeding : Feeding) (reading : Reading) where
    position_after_announced : (before : List ShardStep) (input : ShardInput) (reply : ShardReply)
        → ShardAnswers (shard_account feeding before) reading input reply → FeedsStep realm input
        → position_of before ≤ announced_count realm → position_after input reply (position_of before) ≤ announced_count realm
    position_after_announced before (Push first []) (Pushed reached) answers fed within = let tells = pushed_tells (shard_account feeding before) reading first [] reached answers in omega arith
    position_after_announced before (Push first (notice ∷ list)) (Pushed reached) answers fed within =
        let tells = pushed_tells (shard_account feeding before) reading first (notice ∷ list) reached answers in
        let last = announced_last first (notice ∷ list) fed (omega arith) in
        omega arith
    position_after_announced before input reply answers fed within = within

    -- no notice was pushed that was not announced
    pub position_announced : (trace : List ShardStep) → IsLegalShardBy feeding reading trace → Feeds realm trace → position_of trace ≤ announced_count realm
    position_announced [] legal fed = omega arith
    position_announced (step ∷ before) legal fed = position_after_announced before step.input step.reply legal.0 fed.0 (position_announced before legal.1 fed.1)

    -- the positions of a fed trace are within the commits
    pub positions_within : IsLegalRealm realm → (trace : List ShardStep) → IsLegalShardBy feeding reading trace → Feeds realm trace → PositionsWithin (commits realm) trace
    positions_within legal_realm [] legal fed = tt
    positions_within legal_realm (step ∷ before) legal fed =
        let committed = announced_within realm legal_realm in
        let known = position_announced (step ∷ before) legal fed in
        (omega arith, positions_within legal_realm before legal.1 fed.1)

  -- the notices of a push that are new are announced from the next number on, and bring the position to the last of them
  pub new_are_announced : (at first : ℕ) (notices : List Notice) → AreAnnounced realm first notices → first ≤ at + 1 → AreAnnounced realm (suc at) (new_notices at first notices)
  new_are_announced at first notices are due =
      let next : first + (at + 1 - first) ≡ suc at = omega arith in
      subst (λ n. AreAnnounced realm n (new_notices at first notices)) next (AreAnnounced-drop (at + 1 - first) first notices are)

  pub new_reach : (at first : ℕ) (notices : List Notice) → first ≤ at + 1 → at + length (new_notices at first notices) ≡ max at (first + length notices - 1)
  new_reach at first notices due = omega (arith, length-drop (at + 1 - first) notices)

  -- a push brings a held queue what the commits up to the new position changed
  fresh_events : (user : UserId) (from at first : ℕ) (notices : List Notice) → AreAnnounced realm first notices → from ≤ at
      → first ≤ at + 1 → max at (first + length notices - 1) ≤ commits realm
      → told user (commands realm) from at ++ flat_map (events_for user) (new_notices at first notices) ≡ told user (commands realm) from (max at (first + length notices - 1))
  fresh_events user from at first notices are ordered due within =
      let reached = new_reach at first notices due in
      let are_next = new_are_announced at first notices are due in
      announced_events user from at (new_notices at first notices) are_next ordered (omega arith)
      ∙ ap (λ n. told user (commands realm) from n) reached

  AlikeAt-fed : (feeding : Feeding) (reading : Reading) (before : List ShardStep) (input : ShardInput) (reply : ShardReply)
      → ShardAnswers (shard_account feeding before) reading input reply → position_after input reply (position_of before) ≤ commits realm → FeedsStep realm input
      → AlikeAt pushed_events (changed_events (commands realm)) before input reply
  AlikeAt-fed feeding reading before (Push first notices) (Pushed reached) answers within fed = λ user.
      let tells = pushed_tells (shard_account feeding before) reading first notices reached answers in
      let reached_is = tells.1 in
      let due = tells.0 in
      let start = since_none user (commands realm) (position_of before) (position_of before) (omega arith) (omega arith) in
      ap (λ events. events ++ flat_map (events_for user) (new_notices (position_of before) first notices)) (sym start)
      ∙ fresh_events user (position_of before) (position_of before) first notices fed (omega arith) due (omega arith)
  AlikeAt-fed feeding reading before input reply answers within fed = tt

  -- what a push of announced notices brings is what their commits changed
  pub pushed_alike : (feeding : Feeding) (reading : Reading) (trace : List ShardStep) → IsLegalRealm realm → IsLegalShardBy feeding reading trace → Feeds realm trace
      → AreAlike pushed_events (changed_events (commands realm)) trace
  pushed_alike feeding reading [] legal_realm legal fed = tt
  pushed_alike feeding reading (step ∷ before) legal_realm legal fed =
      let committed = announced_within realm legal_realm in
      let known = position_announced feeding reading (step ∷ before) legal fed in
      (AlikeAt-fed feeding reading before step.input step.reply legal.0 (omega arith) fed.0, pushed_alike feeding reading before legal_realm legal.1 fed.1)
