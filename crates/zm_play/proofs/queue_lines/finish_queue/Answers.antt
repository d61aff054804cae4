use Rattle.std.proofs.Common.{refl, sym, subst, SFits, w64, rules}
use Rattle.std.specs.Prelude.{Ok}
use Rattle.std.proofs.lemmas.Int.{to_z-of_z}
use Rattle.std.proofs.lemmas.Result.{err_from_is_err_and}
use Rattle.zw_traces.specs.ShardTrace.{account_of, position_of, pushed_events}
use Rattle.zs_script.specs.declared.step.Step.TheVariants.{Finish}
use Rattle.zm_text.specs.declared.outcome.Outcome.TheVariants.{Finished}
use Rattle.zm_play.specs.Played.{StepsOn}
use Rattle.zm_play.proofs.FinishSteps.{finish_is_bad, finish_is_early, finish_kinds, finish_lacks, finish_steps, finish_stops}
use Rattle.zm_play.proofs.queue_lines.finish_queue.Goals as goal

pub unreachable-requires : goal.unreachable-requires
unreachable-requires c =
    let kind = c.ask_shard.ensures.kind in
    finish_kinds c.args.queue (account_of pushed_events c.args.queue kind.0)
    (position_of kind.0) c.take_parts-parts.result c.ask_shard.result kind.1
    c.in_default.not-Finished c.in_default.not-BadQueue c.in_default.not-MissingSection
    c.in_default.not-NotPushed c.in_default.not-NoMemory

pub returns-in-Finished-clause-steps : goal.returns-in-Finished-clause-steps
returns-in-Finished-clause-steps c = λ moment.
    let fits : SFits w64 c.in-Finished.last_event_id = search rules in
    subst (λ last. StepsOn moment (Finish c.args.queue) c.args.world.now c.args.fetched.now
    c.ask_shard.new.self c.take_parts-parts.new.fetched
    (Ok (Finished c.in-Finished.reached c.args.queue last c.in-Finished.state)))
    (sym (to_z-of_z w64 c.in-Finished.last_event_id fits))
    (finish_steps c.args.world.now c.ask_shard.new.self c.args.fetched.now
    c.take_parts-parts.new.fetched moment c.args.queue c.serving-shard.result
    c.take_parts-parts.result _
    c.serving-shard.ensures.index c.serving-shard.ensures.below c.take_parts-parts.ensures.taken
    c.take_parts-parts.ensures.left
    c.in-Finished.ensures.reply c.in-Finished.ensures.represents c.in-Finished.state
    c.in-Finished.last_event_id c.in-Finished.reached refl)

pub returns-in-BadQueue-clause-steps : goal.returns-in-BadQueue-clause-steps
returns-in-BadQueue-clause-steps c = λ moment.
    finish_is_bad c.args.world.now c.ask_shard.new.self c.args.fetched.now
    c.take_parts-parts.new.fetched moment c.args.queue c.serving-shard.result
    c.take_parts-parts.result _
    c.serving-shard.ensures.index c.serving-shard.ensures.below c.take_parts-parts.ensures.taken
    c.take_parts-parts.ensures.left
    c.in-BadQueue.ensures.reply c.in-BadQueue.ensures.represents refl

pub returns-in_ok-keep-in-MissingSection-clause-steps :
    goal.returns-in_ok-keep-in-MissingSection-clause-steps
returns-in_ok-keep-in-MissingSection-clause-steps c = λ moment.
    finish_lacks c.args.world.now c.ask_shard.new.self c.args.fetched.now
    c.take_parts-parts.new.fetched moment c.args.queue c.serving-shard.result
    c.take_parts-parts.result _
    c.serving-shard.ensures.index c.serving-shard.ensures.below c.take_parts-parts.ensures.taken
    c.take_parts-parts.ensures.left
    c.in-MissingSection.ensures.reply c.in-MissingSection.ensures.represents
    c.in-MissingSection.parts _ c.in_ok-keep-in-MissingSection.ensures.kept
    c.in-MissingSection.section refl

pub returns-in_err-keep-in-MissingSection-clause-steps :
    goal.returns-in_err-keep-in-MissingSection-clause-steps
returns-in_err-keep-in-MissingSection-clause-steps c = λ moment.
    let p = err_from_is_err_and c.from_residual.result c.from_residual.ensures.1 in
    rw (p.1, c.in_err-keep-in-MissingSection.ensures.unchanged)
    (finish_stops c.args.world.now c.ask_shard.new.self c.args.fetched.now
    c.take_parts-parts.new.fetched moment c.args.queue c.serving-shard.result
    c.take_parts-parts.result _
    c.serving-shard.ensures.index c.serving-shard.ensures.below c.take_parts-parts.ensures.taken
    c.take_parts-parts.ensures.left
    c.in-MissingSection.ensures.reply c.in-MissingSection.ensures.represents p.0)

pub returns-in_ok-keep-in-NotPushed-clause-steps : goal.returns-in_ok-keep-in-NotPushed-clause-steps
returns-in_ok-keep-in-NotPushed-clause-steps c = λ moment.
    finish_is_early c.args.world.now c.ask_shard.new.self c.args.fetched.now
    c.take_parts-parts.new.fetched moment c.args.queue c.serving-shard.result
    c.take_parts-parts.result _
    c.serving-shard.ensures.index c.serving-shard.ensures.below c.take_parts-parts.ensures.taken
    c.take_parts-parts.ensures.left
    c.in-NotPushed.ensures.reply c.in-NotPushed.ensures.represents c.in-NotPushed.parts _
    c.in_ok-keep-in-NotPushed.ensures.kept c.in-NotPushed.have c.in-NotPushed.need refl

pub returns-in_err-keep-in-NotPushed-clause-steps :
    goal.returns-in_err-keep-in-NotPushed-clause-steps
returns-in_err-keep-in-NotPushed-clause-steps c = λ moment.
    let p = err_from_is_err_and c.from_residual-in_err-keep-in-NotPushed.result
    c.from_residual-in_err-keep-in-NotPushed.ensures.1 in
    rw (p.1, c.in_err-keep-in-NotPushed.ensures.unchanged)
    (finish_stops c.args.world.now c.ask_shard.new.self c.args.fetched.now
    c.take_parts-parts.new.fetched moment c.args.queue c.serving-shard.result
    c.take_parts-parts.result _
    c.serving-shard.ensures.index c.serving-shard.ensures.below c.take_parts-parts.ensures.taken
    c.take_parts-parts.ensures.left
    c.in-NotPushed.ensures.reply c.in-NotPushed.ensures.represents p.0)

pub returns-in-NoMemory-clause-steps : goal.returns-in-NoMemory-clause-steps
returns-in-NoMemory-clause-steps c = λ moment.
    finish_stops c.args.world.now c.ask_shard.new.self c.args.fetched.now
    c.take_parts-parts.new.fetched moment c.args.queue c.serving-shard.result
    c.take_parts-parts.result _
    c.serving-shard.ensures.index c.serving-shard.ensures.below c.take_parts-parts.ensures.taken
    c.take_parts-parts.ensures.left
    c.in-NoMemory.ensures.reply c.in-NoMemory.ensures.represents _
