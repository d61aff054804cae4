use Rattle.std.proofs.Common.{◌≡◌, ◌≤◌, true, take, fold}
use Rattle.std.specs.Prelude.{vec_len}
use Rattle.ev_groups.specs.Groups.{with_id}
use Rattle.ev_groups.specs.Places.{are_below}
use Rattle.ev_groups.proofs.groups.put_ids.Given as given

abbrev pub invariant-loop-id : given.invariant-loop-id
invariant-loop-id l = (l.ids.items ≡ fold with_id l.initial.ids.items (take l.id-index l.new)) × (l.from ≤ vec_len l.ids) × (are_below l.from l.ids.items l.last ≡ true)
