use Rattle.std.proofs.Common.{◌≡◌, ◌-◌, length}
use Rattle.zm_play.specs.Flows.{Any, Continues}
use Rattle.zm_play.proofs.FetchFlow.{FetchesThese}
use Rattle.zm_play.proofs.NeededOrder.{AreFirst}
use Rattle.zm_play.proofs.fetching.fetch_needed.Given as goal

abbrev pub invariant-loop-section : goal.invariant-loop-section
invariant-loop-section l = record {
  shards : length l.world.shards ≡ length l.initial.world.shards;
  same : l.flow ≡ record l.initial.flow { parts = l.flow.parts };
  first : AreFirst l.initial.flow.asked l.flow.parts;
  continues : Continues l.initial.world l.world Any (FetchesThese l.user l.flow.parts);
}

abbrev pub decreases-loop-section : goal.decreases-loop-section
decreases-loop-section l = length l.initial.flow.asked - length l.flow.parts
