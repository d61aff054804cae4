use Rattle.std.proofs.Common.{◌<◌, [], arith, length, rules}
use Rattle.nt_marks.specs.MarkParts.{with_place}
use Rattle.nt_parts.proofs.EachMore.{flat_map_more}
use Rattle.nt_marks.proofs.flags.placed.Goals as goal

pub loop-message-preserved : goal.loop-message-preserved
loop-message-preserved c =
    let within : c.loop-message.message-index < length c.args.messages.now = omega arith in
    flat_map_more (with_place c.args.realm.now.state.tables) c.args.messages.now c.loop-message.message-index _ [] _ _ c.loop-message.invariant c.in_ok-push_place.ensures within (search rules)
