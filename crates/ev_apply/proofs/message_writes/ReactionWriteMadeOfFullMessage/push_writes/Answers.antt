use Rattle.std.proofs.Common.{◌≡◌, ◌++◌, List, ℕ, IfOk, map, subst, rules}
use Rattle.ev_base.specs.declared.ids.UserId.{UserId}
use Rattle.ev_types.specs.Writes.{put}
use Rattle.ev_apply.proofs.message_writes.ReactionWriteMadeOfFullMessage.push_writes.Goals as goal

pub returns : goal.returns
returns c =
    let message = c.args.full.now.message in
    let pushed = c.push_each.ensures (λ reaction. put (message, reaction.0, reaction.1) tt) (λ reaction answer called. rw (← called.shows) (search rules)) in
    subst (λ (reactions : List (UserId × List ℕ)). IfOk c.push_each.result (λ _. c.push_each.new.writes.items ≡ c.args.writes.now.items ++ map (λ reaction. put (message, reaction.0, reaction.1) tt) reactions))
    c.as_slice.ensures pushed
