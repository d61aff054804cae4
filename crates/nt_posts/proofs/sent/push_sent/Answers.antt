use Rattle.std.proofs.Common.{◌∙◌, [], ◌∷◌, ◌++◌, ap₂}
use Rattle.std.proofs.lemmas.Result.{IfOk-equal}
use Rattle.ev_laws.proofs.Loops.{joined_last}
use Rattle.ev_types.specs.declared.event.Event.TheVariants.{MessageNew}
use Rattle.ev_types.specs.declared.notice.Audience.TheVariants.{Only}
use Rattle.nt_rules.specs.Parts.{to}
use Rattle.nt_posts.proofs.sent.push_sent.Goals as goal

pub returns : goal.returns
returns c =
    let first = c.in_ok-push_to_users.ensures
    ∙ ap₂ (λ users full. c.args.parts.now.items ++ to (Only users) (MessageNew full ∷ [])) c.in_ok-vec.ensures.items c.in_ok-own.ensures in
    let second = IfOk-equal _ _ _ _ c.push_to_users-2.ensures
    (ap₂ (λ users full. c.push_to_users.new.parts.items ++ to (Only users) (MessageNew full ∷ [])) c.in_ok-users.ensures c.in_ok-unread.ensures) in
    joined_last _ _ _ _ _ first _ second
