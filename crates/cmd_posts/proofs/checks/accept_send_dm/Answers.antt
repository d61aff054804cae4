-- A direct message is refused for an unknown user, or else for a reason that every command has.
use Rattle.std.proofs.Common.{◌≡◌, ◌∙◌, [], ◌∷◌, sym, subst, rules}
use Rattle.std.specs.List.Sorted.{IsStrictlySortedBy}
use Rattle.ev_base.specs.Orders.{user_cmp, user_order}
use Rattle.zr_types.specs.declared.command.Command.TheVariants.{Posts}
use Rattle.zr_types.specs.declared.command.PostCommand.TheVariants as of_posts
use Rattle.zr_types.specs.Commands.{distinct_users}
use Rattle.zr_types.specs.Commits.{refusal_in}
use Rattle.zr_types.specs.Refusals.{refusal}
use Rattle.cmd_rules.proofs.DistinctLemmas.{rise-distinct}
use Rattle.cmd_posts.proofs.CheckLemmas.{direct_refused}
use Rattle.cmd_posts.proofs.checks.accept_send_dm.Goals as goal

pub is_past_direct-requires : goal.is_past_direct-requires
is_past_direct-requires c =
    let named : c.deref.result.now ≡ distinct_users c.args.users = search rules in
    subst (IsStrictlySortedBy user_cmp) (sym named) (rise-distinct user_order c.args.users)

pub returns-in_err-accept-clause-refused : goal.returns-in_err-accept-clause-refused
returns-in_err-accept-clause-refused c =
    let named : c.deref.result.now ≡ distinct_users c.args.users = search rules in
    let same : refusal_in c.from_residual.result ≡ refusal_in c.accept.result = search rules in
    same ∙ c.accept.ensures
    ∙ direct_refused c.args.realm.now.state c.args.actor c.args.users c.args.content.now
    c.deref.result.now (c.new.result ∷ []) c.is_past_direct.result c.requires (search rules) named (cc) (cc) c.is_past_direct.ensures

pub returns-clause-refused : goal.returns-clause-refused
returns-clause-refused c =
    let named : c.deref.result.now ≡ distinct_users c.args.users = search rules in
    let refused : refusal_in c.accept.result ≡ refusal c.args.realm.now.state c.args.actor (Posts (of_posts.SendDm c.args.users c.args.content.now)) =
    c.accept.ensures
    ∙ direct_refused c.args.realm.now.state c.args.actor c.args.users c.args.content.now
    c.deref.result.now (c.new.result ∷ []) c.is_past_direct.result c.requires (search rules) named (cc) (cc) c.is_past_direct.ensures in
    search (rules, refused)
