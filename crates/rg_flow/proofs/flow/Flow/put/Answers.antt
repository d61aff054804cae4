use Rattle.std.proofs.Common.{◌≡◌, ◌≤◌, None, vec_capacity, vec_len, arith, rules}
use Rattle.zw_traces.specs.FetchedSections.{part_of}
use Rattle.rg_flow.specs.Flows.{with_part}
use Rattle.rg_flow.proofs.FlowLemmas.{room_left, stay_apart}
use Rattle.rg_flow.proofs.flow.Flow.put.Goals as goal

pub unreachable-requires : goal.unreachable-requires
unreachable-requires c =
    let parts = c.self.inside.parts in
    let refused : (part_of c.args.part.section parts.items ≡ None)
    × (vec_capacity parts ≤ vec_len parts) = search rules in
    let room = room_left c.args.part parts.items c.self.invariant.1 refused.0 in
    omega (arith, room, refused.1, c.self.invariant.0, parts.ok.0)

pub invariant_of-self : goal.invariant_of-self
invariant_of-self c =
    let parts = c.self.inside.parts in
    let is : c.put_part.new.parts.items ≡ with_part c.args.part parts.items = search rules in
    let apart = stay_apart c.args.part parts.items c.self.invariant.1 in
    (omega (arith, c.self.invariant.0, c.put_part.ensures.capacity), rw is apart)
