use Rattle.std.proofs.Common.{arith, subst, sym}
use Rattle.zm_run.specs.Inputs.{HasNoFeed}
use Rattle.zm_run.proofs.Ending.{ends_at_fault, ends_at_first, ends_too_long, lines_counted, running_after_read, running_unread}
use Rattle.zm_run.proofs.replay.replay.Goals as goal

pub returns-in_default-clause-replays : goal.returns-in_default-clause-replays
returns-in_default-clause-replays g c = ends_at_first (g.S.Source.left c.args.source.now) (g.K.Sink.held c.args.sink.now)

pub play_piece-requires : goal.play_piece-requires
play_piece-requires g c =
    let running = running_after_read _ _ _ _ _ c.loop-input.runner c.loop-input.input c.fill.new.self c.in-Bytes.ensures.filled c.loop-input.invariant.running in
    record { few = lines_counted _ _ _ _ c.loop-input.runner c.fill.new.self running }

pub returns-in-Err-clause-replays : goal.returns-in-Err-clause-replays
returns-in-Err-clause-replays g c =
    let running = running_after_read _ _ _ _ _ c.loop-input.runner c.loop-input.input c.fill.new.self c.in-Bytes.ensures.filled c.loop-input.invariant.running in
    c.in-Err.ensures.goes _ _ _ running

pub loop-input-preserved : goal.loop-input-preserved
loop-input-preserved g c =
    let before = c.loop-input.invariant in
    let running = running_after_read _ _ _ _ _ c.loop-input.runner c.loop-input.input c.fill.new.self c.in-Bytes.ensures.filled before.running in
    let piece = c.in_default-play_piece.ensures in
    let read = c.in-Bytes.ensures.count in
    let reads = before.reads in
    let writes = before.writes in
    let wrote = piece.count in
    record {
      running = piece.goes _ _ _ running;
      no_feed = piece.rest;
      short = piece.short;
      reads = omega arith;
      writes = omega arith;
    }

pub finish-requires : goal.finish-requires
finish-requires g c =
    let running = running_unread _ _ _ _ _ c.loop-input.runner c.loop-input.input c.fill.new.self c.in-End.ensures.filled.0 c.loop-input.invariant.running in
    record { few = lines_counted _ _ _ _ c.loop-input.runner c.fill.new.self running }

pub returns-in-Failed-clause-replays : goal.returns-in-Failed-clause-replays
returns-in-Failed-clause-replays g c =
    let stays = c.in-Failed.ensures.filled in
    let running = running_unread _ _ _ _ _ c.loop-input.runner c.loop-input.input c.fill.new.self stays c.loop-input.invariant.running in
    ends_at_fault _ _ _ _ c.loop-input.runner c.fill.new.self running (subst (λ t. HasNoFeed t) (sym stays.pending) c.loop-input.invariant.no_feed)

pub returns-clause-replays : goal.returns-clause-replays
returns-clause-replays g c =
    let bounded = c.loop-input.input.bounded in
    let reached = c.loop-input-test.false in
    ends_too_long _ _ _ _ c.loop-input.runner c.loop-input.input c.loop-input.invariant.running c.loop-input.invariant.no_feed (omega arith)
