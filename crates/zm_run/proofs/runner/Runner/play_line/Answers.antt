use Rattle.std.proofs.Common.{None, Some, MatchOption, ap, arith}
use Rattle.zs_script.specs.declared.step.Step.{Step}
use Rattle.zs_script.specs.Grammar.{IsPassedOver, Spells}
use Rattle.zs_script.proofs.Playable.{line_plays}
use Rattle.zm_run.specs.declared.runner.Runner.{Runner}
use Rattle.zm_run.specs.Inputs.{IsLine}
use Rattle.zm_run.specs.Running.{setting_in}
use Rattle.zm_run.proofs.Playing.{passes_line, plays_line}
use Rattle.zm_run.proofs.runner.Runner.play_line.Goals as goal
use Rattle.zm_run.proofs.runner.Runner.play_line.Goals.{in-Some+in_ok-play_step, in_default}

pub play_step-requires : goal.play_step-requires
play_step-requires c =
    let spells : MatchOption (Some c.in-Some.step) (IsPassedOver c.args.line.now) (λ (step : Step). Spells (setting_in c.args.self.now) c.args.line.now step) =
    rw (c.in-Some.is, c.setting.ensures) at c.in_ok-step.ensures.step in
    line_plays (setting_in c.args.self.now) c.args.line.now c.in-Some.step spells

pub returns-clause-played : goal.returns-clause-played
returns-clause-played c = λ lines written no_feed played.
    let is_line : IsLine c.args.line.now = record { no_feed = no_feed; short = c.if-line-gt-MAX_LINE_BYTES.false } in
    elim c.match-branch-2.branch [
      | in-Some+in_ok-play_step w ↦
          let spells : MatchOption (Some w.in-Some.step) (IsPassedOver c.args.line.now) (λ (step : Step). Spells (setting_in c.args.self.now) c.args.line.now step) =
          rw (w.in-Some.is, c.setting.ensures) at c.in_ok-step.ensures.step in
          let mid = w.play_step.new.self in
          let counted = w.play_step.ensures.lines in
          let same = ap (λ (s : Runner). s.lines) w.self-is in
          plays_line c.args.self.now mid _ c.args.line.now lines written w.in-Some.step
          is_line spells w.in_ok-play_step.ensures.played (ap (λ (s : Runner). s.player) w.self-is) (ap (λ (s : Runner). s.is_first) w.self-is) (ap (λ (s : Runner). s.output.items) w.self-is) (omega arith) played
      | in_default w ↦
          let passes : MatchOption None (IsPassedOver c.args.line.now) (λ (step : Step). Spells (setting_in c.args.self.now) c.args.line.now step) =
          rw w.in_default.is at c.in_ok-step.ensures.step in
          let same = ap (λ (s : Runner). s.lines) w.self-is in
          passes_line c.args.self.now _ c.args.line.now lines written is_line passes
          (ap (λ (s : Runner). s.player) w.self-is) (ap (λ (s : Runner). s.is_first) w.self-is) (ap (λ (s : Runner). s.output.items) w.self-is) (omega arith) played
    ]
