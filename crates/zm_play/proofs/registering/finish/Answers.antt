use Rattle.std.proofs.Common.{refl, ap, sym, SFits, w64, rules}
use Rattle.std.proofs.lemmas.Int.{to_z-of_z}
use Rattle.zw_traces.specs.declared.shard.ShardInput.TheVariants.{Finish}
use Rattle.zw_traces.specs.declared.shard.ShardReply.TheVariants.{Finished}
use Rattle.zw_traces.specs.Histories.{with_shard_step}
use Rattle.zm_play.specs.Flows.Extends.{rests, asks_shard}
use Rattle.zm_play.proofs.RegisterFlow.{finish_answers}
use Rattle.zm_play.proofs.Steps.{shard_goes}
use Rattle.zm_play.proofs.registering.finish.Goals as goal

pub unreachable-requires : goal.unreachable-requires
unreachable-requires c =
    let ready = c.requires.ready in
    finish_answers c.args.shard c.args.queue c.args.parts ready.0 c.ask_shard.result ready.1.holds (c.ask_shard.ensures.reply ready.0 ready.1.represents)
    c.in_default.not-Finished c.in_default.not-BadQueue c.in_default.not-NoMemory

pub returns-in-Finished-clause-continues : goal.returns-in-Finished-clause-continues
returns-in-Finished-clause-continues c = shard_goes _ _ _ _ _ _ _ c.requires.index c.in-Finished.ensures.reply c.in-Finished.ensures.represents
    (λ before at. at.holds.may) (λ before at answers. (
      refl,
      let fits : SFits w64 c.in-Finished.last_event_id = search rules in
          ap (λ last. with_shard_step c.args.shard (Finish c.args.queue c.args.parts) (Finished c.in-Finished.state last c.in-Finished.reached) before) (sym (to_z-of_z w64 c.in-Finished.last_event_id fits)),
    ))

pub returns-in-BadQueue-clause-continues : goal.returns-in-BadQueue-clause-continues
returns-in-BadQueue-clause-continues c = shard_goes _ _ _ _ _ _ _ c.requires.index c.in-BadQueue.ensures.reply c.in-BadQueue.ensures.represents
    (λ before at. at.holds.may) (λ before at answers. refl)

pub returns-in-NoMemory-clause-continues : goal.returns-in-NoMemory-clause-continues
returns-in-NoMemory-clause-continues c = shard_goes _ _ _ _ _ _ _ c.requires.index c.in-NoMemory.ensures.reply c.in-NoMemory.ensures.represents
    (λ before at. at.holds.may) (λ before at answers. asks_shard _ _ _ rests)
