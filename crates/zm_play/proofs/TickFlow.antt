-- Shards that are ticked one after the other.
use Rattle.std.proofs.Common.{◌≡◌, ℕ, ◌+◌, List, [], ◌∷◌, ◌++◌, length, length-append, map, flat_map, refl, ap, sym, subst, ◌∙◌, zero-add, arith}
use Rattle.std.proofs.lemmas.Grind.{flat_map-append}
use Rattle.std.proofs.lemmas.List.{append-nil}
use Rattle.ev_base.specs.declared.ids.QueueId.{QueueId}
use Rattle.ev_base.specs.declared.expired.Expired.{Expired}
use Rattle.zw_traces.specs.declared.shard.ShardInput.TheVariants.{Tick}
use Rattle.zw_traces.specs.declared.shard.ShardReply.TheVariants.{Ticked}
use Rattle.zw_traces.specs.Histories.{History, with_shard_step}
use Rattle.zw_world.specs.Worlds.{WorldState}
use Rattle.zm_text.specs.Playing.{PlaysTick, with_ticks}
use Rattle.zm_play.specs.Flows.{Any, Asks, Continues, Extends, queue_of}
use Rattle.zm_play.specs.Flows.Extends.{rests, asks_shard}
use Rattle.zm_play.proofs.PushRounds.{goes_on_from}
use Rattle.zm_play.proofs.Steps.{goes_twice, traces_of_shards}

module _ (moment : ℕ) where
  -- one more shard is ticked after the others
  ticks_more : (index at : ℕ) (lists : List (List Expired)) (last : List Expired) (before : History) → at ≡ index + length lists
      → with_ticks moment index (lists ++ last ∷ []) before ≡ with_shard_step at (Tick moment) (Ticked last) (with_ticks moment index lists before)
  ticks_more index at [] last before at_is =
      let here : index ≡ at = omega arith in
      ap (λ n. with_shard_step n (Tick moment) (Ticked last) before) here
  ticks_more index at (list ∷ lists) last before at_is =
      ticks_more (index + 1) at lists last (with_shard_step index (Tick moment) (Ticked list) before) (omega arith)

  -- the shards below this index were ticked, and these queues were collected
  pub record TickedUpTo (index : ℕ) (queues : List QueueId) (before now : History) : Type 0 where
    pub expired : List (List Expired)
    pub each : length expired ≡ index
    pub told : queues ≡ flat_map (λ (list : List Expired). map queue_of list) expired
    pub ticked : now ≡ with_ticks moment 0 expired before
    pub more : Extends before now

  -- none was ticked yet
  pub tick_begins : (world : WorldState) → Continues world world Any (TickedUpTo 0 [])
  tick_begins world before at =
      (before, record { represents = at.represents; fed = at.fed; holds = record { expired = []; each = refl; told = refl; ticked = refl; more = rests } })

  module _ (old mid : WorldState) (index : ℕ) (queues : List QueueId) (first : Continues old mid Any (TickedUpTo index queues)) where
    -- one more was ticked
    pub tick_goes : (new : WorldState) (expired : List Expired) → Continues mid new Any (Asks index (Tick moment) (Ticked expired))
        → Continues old new Any (TickedUpTo (index + 1) (queues ++ map queue_of expired))
    tick_goes new expired second = goes_twice first second (λ before between at now. tt) (λ before between after at now last.
        let was = now.holds in
        let many = was.each in
        let longer = length-append was.expired (expired ∷ []) in
        let place : index ≡ 0 + length was.expired = sym many ∙ sym (zero-add (length was.expired)) in
        record {
          expired = was.expired ++ expired ∷ [];
          each = omega arith;
          told = ap (λ list. list ++ map queue_of expired) was.told
              ∙ ap (λ list. flat_map (λ (some : List Expired). map queue_of some) was.expired ++ list) (sym (append-nil (map queue_of expired)))
              ∙ sym (flat_map-append (λ (list : List Expired). map queue_of list) was.expired (expired ∷ []));
          ticked = last.holds ∙ ap (with_shard_step index (Tick moment) (Ticked expired)) was.ticked
              ∙ sym (ticks_more 0 index was.expired expired before place);
          more = goes_on_from was.more (subst (λ history. Extends between history) (sym last.holds) (asks_shard index (Tick moment) (Ticked expired) rests));
        })

    -- it stopped for out of memory
    pub tick_stops : (new : WorldState) → Continues mid new Any Extends → Continues old new Any Extends
    tick_stops new second = goes_twice first second (λ before between at now. tt) (λ before between after at now last. goes_on_from now.holds.more last.holds)

    -- all were ticked
    pub tick_ends : index ≡ length old.shards → Continues old mid Any (PlaysTick moment queues)
    tick_ends all before at =
        let there = first before at in
        let now = there.1 in
        let ticked = now.holds in
        let traces = traces_of_shards old before at.represents in
        let many = ticked.each in
        (there.0, record { represents = now.represents; fed = now.fed; holds = record { expired = ticked.expired; each = omega arith; told = ticked.told; ticked = ticked.ticked } })
