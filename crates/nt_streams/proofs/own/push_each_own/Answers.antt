use Rattle.std.proofs.Common.{◌∙◌, ◌++◌, ap, flat_map, rules}
use Rattle.ev_laws.proofs.Loops.{take_whole}
use Rattle.nt_parts.proofs.EachMore.{flat_map_more}
use Rattle.nt_streams.specs.Sights.{own_part}
use Rattle.nt_streams.proofs.own.push_each_own.Goals as goal

pub loop-user-preserved : goal.loop-user-preserved
loop-user-preserved c =
    flat_map_more (own_part c.args.realm.now.state.tables c.args.turn.now c.args.own) c.args.users.now c.loop-user.user-index _
    _ _ _ c.loop-user.invariant c.in_ok-push_own.ensures c.loop-user-test.true (search rules)

pub returns : goal.returns
returns c =
    c.loop-user.invariant
    ∙ ap (λ users. c.args.parts.now.items ++ flat_map (own_part c.args.realm.now.state.tables c.args.turn.now c.args.own) users)
    (take_whole c.args.users.now c.loop-user.user-index c.loop-user-test.false)
