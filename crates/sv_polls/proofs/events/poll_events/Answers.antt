use Rattle.sv_polls.proofs.Asking.{polls_events, polls_nothing_else, ready_to_poll, serving_is_there}
use Rattle.sv_polls.proofs.events.poll_events.Goals as goal

pub catch_up_to-requires : goal.catch_up_to-requires
catch_up_to-requires g c = record { ready = serving_is_there _ c.args.poll.user c.serving-shard.result c.requires.ready c.serving-shard.ensures }

pub returns-in_err-catch_up_to : goal.returns-in_err-catch_up_to
returns-in_err-catch_up_to g c =
    polls_nothing_else _ _ c.serving-shard.result c.args.commits c.args.poll _ _ c.from_residual.result c.from_residual.ensures.0 c.serving-shard.ensures c.in_err-catch_up_to.ensures

pub poll_on-requires : goal.poll_on-requires
poll_on-requires g c =
    record { ready = ready_to_poll _ _ c.args.poll.user c.serving-shard.result c.args.commits _ c.requires.ready c.serving-shard.ensures c.in_ok-catch_up_to.ensures }

pub returns : goal.returns
returns g c =
    polls_events _ _ _ c.serving-shard.result c.args.commits _ c.args.poll _ _ c.poll_on.result c.serving-shard.ensures c.in_ok-catch_up_to.ensures c.poll_on.ensures
