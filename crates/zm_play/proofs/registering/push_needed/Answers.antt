use Rattle.std.proofs.Common.{◌∙◌, sym, refl}
use Rattle.zm_play.specs.Flows.{least_of}
use Rattle.zm_play.proofs.NeededOrder.{pushes_none, pushes_to}
use Rattle.zm_play.proofs.PushRounds.{stays_caught_up}
use Rattle.zm_play.proofs.registering.push_needed.Goals as goal

pub catch_up-requires-clause-ready : goal.catch_up-requires-clause-ready
catch_up-requires-clause-ready c =
    let to = pushes_to c.args.flow.now c.args.have c.requires.whole c.in-PushTo.least (sym c.need.ensures ∙ c.in-PushTo.is) in
    rw to c.requires.ready

pub returns-in-PushTo-clause-continues : goal.returns-in-PushTo-clause-continues
returns-in-PushTo-clause-continues c =
    let to = pushes_to c.args.flow.now c.args.have c.requires.whole c.in-PushTo.least (sym c.need.ensures ∙ c.in-PushTo.is) in
    rw to at c.catch_up.ensures.continues

pub returns-in_default : goal.returns-in_default
returns-in_default c =
    let enough = pushes_none c.args.flow.now c.args.have c.requires.whole (λ to is. c.in_default.not-PushTo to (c.need.ensures ∙ is)) in
    record {
      continues = stays_caught_up _ c.args.shard (least_of c.args.flow.now) c.args.have enough;
      shards = refl;
    }
