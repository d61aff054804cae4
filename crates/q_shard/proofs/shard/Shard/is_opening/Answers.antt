use Rattle.std.proofs.Common.{◌≡◌, None, Some, ap, sym, ◌∙◌}
use Rattle.std.specs.Option.{option_copied}
use Rattle.std.specs.Map.{lookup}
use Rattle.zw_traces.specs.Account.{Account, is_opening_phase, same_queue}
use Rattle.q_shard.proofs.EntryLemmas.{an_account, no_account}
use Rattle.q_shard.proofs.shard.Shard.is_opening.Goals as goal

pub returns-in_default : goal.returns-in_default
returns-in_default c =
    let none : lookup (same_queue c.args.queue) c.self.inside.queues.entries ≡ None = sym c.get.ensures.value ∙ ap option_copied c.in_default.is in
    rw (← c.self.view_is) (sym (ap (λ (a : Account). is_opening_phase a.phase) (no_account c.args.queue c.self.inside.queues.entries none)))

pub returns : goal.returns
returns c =
    let found : lookup (same_queue c.args.queue) c.self.inside.queues.entries ≡ Some c.in-Some.held.now = sym c.get.ensures.value ∙ ap option_copied c.in-Some.is in
    rw (← c.self.view_is) (c.is_opening.ensures ∙ sym (ap (λ (a : Account). is_opening_phase a.phase) (an_account c.args.queue c.self.inside.queues.entries c.in-Some.held.now found)))
