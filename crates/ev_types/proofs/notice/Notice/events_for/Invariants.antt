use Rattle.std.proofs.Common.{◌≡◌, take}
use Rattle.std.specs.List.{filter_map}
use Rattle.ev_types.proofs.AudienceLemmas.{heard}
use Rattle.ev_types.proofs.notice.Notice.events_for.Given as goal

-- the events so far are what the user hears of the parts so far
abbrev pub invariant-loop-part : goal.invariant-loop-part
invariant-loop-part l = l.events.items ≡ filter_map (heard l.fn.user) (take l.part-index l.part-items)
