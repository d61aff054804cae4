use Rattle.zm_play.proofs.RegisterFlow.{fill_goes, fill_ready, refused_goes, refused_ready}
use Rattle.zm_play.proofs.registering.fill.Goals as goal

pub complete-requires-clause-ready : goal.complete-requires-clause-ready
complete-requires-clause-ready c =
    let all = rw c.if-all.true at c.in_ok-all.ensures.continues in
    fill_ready c.serving-shard.result c.args.user c.args.flow c.args.queue c.args.have _ _
    c.serving-shard.ensures.index c.serving-shard.ensures.below
    _ c.in_ok-all.ensures.same all c.requires.ready

pub returns-then-all-clause-continues : goal.returns-then-all-clause-continues
returns-then-all-clause-continues c =
    let all = rw c.if-all.true at c.in_ok-all.ensures.continues in
    fill_goes c.serving-shard.result c.args.user c.args.flow c.args.queue c.args.have _ _
    c.serving-shard.ensures.index c.serving-shard.ensures.below
    _ c.in_ok-all.ensures.same all _ _ c.complete.ensures.continues

pub delete-requires-clause-ready : goal.delete-requires-clause-ready
delete-requires-clause-ready c =
    let none = rw c.if-all.false at c.in_ok-all.ensures.continues in
    refused_ready c.serving-shard.result c.args.user c.args.flow c.args.queue c.args.have _ _
    c.serving-shard.ensures.index c.serving-shard.ensures.below
    none c.requires.ready

pub returns-clause-continues : goal.returns-clause-continues
returns-clause-continues c =
    let none = rw c.if-all.false at c.in_ok-all.ensures.continues in
    refused_goes c.serving-shard.result c.args.user c.args.flow c.args.queue c.args.have _ _
    c.serving-shard.ensures.index c.serving-shard.ensures.below
    none _ c.delete.ensures.continues
