use Rattle.std.proofs.Common.{◌≡◌, ◌++◌, flat_map, take}
use Rattle.ev_apply.proofs.event_writes.push_all.Given as goal

abbrev pub invariant-loop-source : goal.invariant-loop-source
invariant-loop-source g l = l.writes.items ≡ l.initial.writes.items ++ flat_map g.W.MadeOf.made_of (take l.source-index l.sources)
