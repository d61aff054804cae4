use Rattle.std.proofs.Common.{◌≤◌, length}
use Rattle.std.proofs.Common.{◌-◌}
use Rattle.zm_run.specs.Inputs.{HasNoFeed, max_input_bytes, max_line_bytes}
use Rattle.zm_run.specs.Running.{Running, pending_of}
use Rattle.zm_run.proofs.replay.replay.Given as goal

abbrev pub invariant-loop-input : goal.invariant-loop-input
invariant-loop-input g l = record {
  running : Running (g.S.Source.left l.initial.source) (g.S.Source.left l.source) (g.K.Sink.held l.initial.sink) (g.K.Sink.held l.sink) l.runner l.input;
  no_feed : HasNoFeed (pending_of l.input);
  short : length (pending_of l.input) ≤ max_line_bytes;
  reads : g.S.Source.faults l.initial.source ≤ g.S.Source.faults l.source;
  writes : g.K.Sink.faults l.initial.sink ≤ g.K.Sink.faults l.sink;
}

abbrev pub decreases-loop-input : goal.decreases-loop-input
decreases-loop-input g l = max_input_bytes - l.input.read
