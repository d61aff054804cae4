use Rattle.std.proofs.Common.{◌≡◌, Some, cond, ap, sym, ◌∙◌, is_some}
use Rattle.std.specs.Option.{option_copied_mut}
use Rattle.std.specs.Map.{lookup}
use Rattle.zw_traces.specs.Account.{same_user}
use Rattle.q_shard.specs.Hearing.{HeardParts}
use Rattle.q_shard.proofs.HearingLemmas.{told_one}
use Rattle.q_shard.proofs.ReplyLemmas.{IfOk-more}
use Rattle.q_shard.proofs.told.tell_user.Goals as goal

pub returns-in-Some : goal.returns-in-Some
returns-in-Some c =
    let entries = c.args.told.now.entries in
    let found : lookup (same_user c.args.user) entries ≡ Some c.in-Some.heard.now = sym c.get_mut.ensures.value ∙ ap option_copied_mut c.in-Some.is in
    let updated = ((c.get_mut.follows.holds c.add.new.self).3 (ap is_some found)).0 in
    IfOk-more _ _ c.add.result
    (λ done added other. told_one c.args.user other c.args.place c.args.event.now (λ user. lookup (same_user user) entries) _ c.in-Some.heard.now found
    (updated other ∙ ap (λ (heard : HeardParts). cond (same_user c.args.user other) (Some heard) (lookup (same_user other) entries)) added)) c.add.ensures
