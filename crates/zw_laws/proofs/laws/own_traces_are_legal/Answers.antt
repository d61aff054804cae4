use Rattle.zw_laws.proofs.HistoryTraces.{own_trace_is_legal}
use Rattle.zw_laws.proofs.laws.own_traces_are_legal.Goals as goal

pub returns : goal.returns
returns c = λ realm trace legal_realm. own_trace_is_legal realm legal_realm trace
