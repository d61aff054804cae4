use Rattle.std.proofs.Common.{◌≡◌, ℕ, ◌+◌, ◌-◌, ◌<◌, List, ◌∷◌, take, drop, length, Err, ap, subst, refl, arith, length-drop}
use Rattle.std.proofs.lemmas.Result.{err_from_is_err_and}
use Rattle.zm_run.specs.declared.runner.Stop.{Stop}
use Rattle.zm_run.specs.declared.runner.Stop.TheVariants.{BadLine}
use Rattle.zm_run.specs.Inputs.{HasNoFeed, max_line_bytes}
use Rattle.zm_run.specs.Running.{HasPlayed, IsBad, setting_in}
use Rattle.zm_run.proofs.Feeds.{feed_behind, no_feed_behind}
use Rattle.zm_run.proofs.Playing.{played_more, played_none, stopped_in, why_in, why_too_long}
use Rattle.zm_run.proofs.runner.Runner.play_lines.Goals as goal

pub loop-length-init : goal.loop-length-init
loop-length-init c = record { within = omega arith; counted = omega arith; played = λ lines written played. played_none c.args.self.now lines written played }

pub loop-length-preserved : goal.loop-length-preserved
loop-length-preserved c =
    let bytes = c.args.bytes.now in
    let used = c.loop-length.used in
    let n = c.in-Some.length in
    let at = feed_behind bytes used n c.in-Some.ensures in
    let size : used + n - used ≡ n = omega arith in
    let left = length-drop used bytes in
    let counted = c.in_ok-play_line.ensures.lines in
    let goes = subst (λ k. (lines : List (List ℕ)) (written : List ℕ) → HasNoFeed (take k (drop used bytes))
    → HasPlayed c.loop-length.self lines written → HasPlayed c.play_line.new.self (take k (drop used bytes) ∷ lines) written) size c.in_ok-play_line.ensures.played in
    record {
      within = omega (arith, at.below);
      counted = omega arith;
      played = λ lines written played. played_more c.loop-length.self c.play_line.new.self lines written bytes used n at.below at.feed
          (λ before on. goes before written at.no_feed on) (c.loop-length.invariant.played lines written played);
    }

pub returns-then-bytes-used-gt-MAX_LINE_BYTES-clause-played : goal.returns-then-bytes-used-gt-MAX_LINE_BYTES-clause-played
returns-then-bytes-used-gt-MAX_LINE_BYTES-clause-played c = λ left lines written played.
    let bytes = c.args.bytes.now in
    let used = c.loop-length.used in
    let size = length-drop used bytes in
    let long : max_line_bytes < length (drop used bytes) = omega (arith, c.if-bytes-used-gt-MAX_LINE_BYTES.true) in
    stopped_in BadLine c.loop-length.self c.loop-length.self lines written bytes used left (c.loop-length.invariant.played lines written played)
    refl refl (why_too_long (setting_in c.loop-length.self) (drop used bytes) left (no_feed_behind bytes used c.in_default.ensures) long)

pub returns-clause-rest : goal.returns-clause-rest
returns-clause-rest c = no_feed_behind c.args.bytes.now c.loop-length.used c.in_default.ensures

pub returns-in_err-play_line-clause-played : goal.returns-in_err-play_line-clause-played
returns-in_err-play_line-clause-played c = λ left lines written played.
    let bytes = c.args.bytes.now in
    let used = c.loop-length.used in
    let n = c.in-Some.length in
    let at = feed_behind bytes used n c.in-Some.ensures in
    let size : used + n - used ≡ n = omega arith in
    let stop = c.in_err-play_line.field-0.0 in
    let says = c.in_err-play_line.ensures in
    let bad : stop ≡ BadLine → IsBad (setting_in c.loop-length.self) (take n (drop used bytes)) =
    λ is. subst (λ k. IsBad (setting_in c.loop-length.self) (take k (drop used bytes))) size (says.bad (ap (λ (s : Stop). Err s) is)) in
    let stopped = stopped_in stop c.loop-length.self c.play_line.new.self lines written bytes used left
    (c.loop-length.invariant.played lines written played) says.output says.stopped
    (why_in stop (setting_in c.loop-length.self) (drop used bytes) n left at.below at.feed at.no_feed bad) in
    let p = err_from_is_err_and c.from_residual.result c.from_residual.ensures.1 in
    rw (p.1, p.2) stopped
