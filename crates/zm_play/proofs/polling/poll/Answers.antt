use Rattle.std.proofs.Common.{refl, ap, sym, SFits, w64, rules}
use Rattle.std.proofs.lemmas.Int.{to_z-of_z}
use Rattle.zw_traces.specs.declared.shard.ShardInput.TheVariants.{Poll}
use Rattle.zw_traces.specs.declared.shard.ShardReply.TheVariants.{NotSent, Pruned}
use Rattle.zm_text.specs.Playing.{with_step_for}
use Rattle.zm_play.specs.Flows.Extends.{rests, asks_shard}
use Rattle.zm_play.proofs.PollSteps.{poll_answers, poll_goes}
use Rattle.zm_play.proofs.polling.poll.Goals as goal

pub unreachable-requires : goal.unreachable-requires
unreachable-requires c =
    let kind = c.ask_shard.ensures.kind in
    poll_answers kind.0 _ _ _ c.args.moment _ c.ask_shard.result kind.1 c.in_default.not-Answer c.in_default.not-Empty c.in_default.not-BadQueue c.in_default.not-NotSent c.in_default.not-Pruned c.in_default.not-NoMemory

pub returns-in-Answer-clause-continues : goal.returns-in-Answer-clause-continues
returns-in-Answer-clause-continues c = poll_goes _ _ c.args.moment _ _ _ _ _ _ _ _ (to_z-of_z w64 c.args.after c.ranges.after) c.serving-shard.ensures.index c.serving-shard.ensures.below
    c.in-Answer.ensures.reply c.in-Answer.ensures.represents (λ before. (refl, refl))

pub returns-in-Empty-clause-continues : goal.returns-in-Empty-clause-continues
returns-in-Empty-clause-continues c = poll_goes _ _ c.args.moment _ _ _ _ _ _ _ _ (to_z-of_z w64 c.args.after c.ranges.after) c.serving-shard.ensures.index c.serving-shard.ensures.below
    c.in-Empty.ensures.reply c.in-Empty.ensures.represents (λ before. refl)

pub returns-in-BadQueue-clause-continues : goal.returns-in-BadQueue-clause-continues
returns-in-BadQueue-clause-continues c = poll_goes _ _ c.args.moment _ _ _ _ _ _ _ _ (to_z-of_z w64 c.args.after c.ranges.after) c.serving-shard.ensures.index c.serving-shard.ensures.below
    c.in-BadQueue.ensures.reply c.in-BadQueue.ensures.represents (λ before. refl)

pub returns-in-NotSent-clause-continues : goal.returns-in-NotSent-clause-continues
returns-in-NotSent-clause-continues c = poll_goes _ _ c.args.moment _ _ _ _ _ _ _ _ (to_z-of_z w64 c.args.after c.ranges.after) c.serving-shard.ensures.index c.serving-shard.ensures.below
    c.in-NotSent.ensures.reply c.in-NotSent.ensures.represents
    (λ before. let fits : SFits w64 c.in-NotSent.greatest = search rules in ap (λ id. with_step_for c.args.user (Poll c.args.user c.args.queue c.args.after c.args.moment c.args.beat) (NotSent id) before) (sym (to_z-of_z w64 c.in-NotSent.greatest fits)))

pub returns-in-Pruned-clause-continues : goal.returns-in-Pruned-clause-continues
returns-in-Pruned-clause-continues c = poll_goes _ _ c.args.moment _ _ _ _ _ _ _ _ (to_z-of_z w64 c.args.after c.ranges.after) c.serving-shard.ensures.index c.serving-shard.ensures.below
    c.in-Pruned.ensures.reply c.in-Pruned.ensures.represents
    (λ before. let fits : SFits w64 c.in-Pruned.newest = search rules in ap (λ id. with_step_for c.args.user (Poll c.args.user c.args.queue c.args.after c.args.moment c.args.beat) (Pruned id) before) (sym (to_z-of_z w64 c.in-Pruned.newest fits)))

pub returns-in-NoMemory-clause-continues : goal.returns-in-NoMemory-clause-continues
returns-in-NoMemory-clause-continues c = poll_goes _ _ c.args.moment _ _ _ _ _ _ _ _ (to_z-of_z w64 c.args.after c.ranges.after) c.serving-shard.ensures.index c.serving-shard.ensures.below
    c.in-NoMemory.ensures.reply c.in-NoMemory.ensures.represents (λ before. asks_shard _ _ _ rests)
