use Rattle.std.proofs.Common.{ap, sym, ◌∙◌, ◌||◌, ◌+◌, drop}
use Rattle.std.proofs.Math.Bool.{or-false}
use Rattle.std.proofs.lemmas.List.{drop_all}
use Rattle.std.specs.List.{list_any}
use Rattle.zw_traces.specs.Account.{end_user, same_user}
use Rattle.q_shard.proofs.LoopLemmas.{ended_none, ended_one}
use Rattle.q_shard.proofs.queues.ended_users.Goals.{in-Some+in_ok-insert, in_default}
use Rattle.q_shard.proofs.queues.ended_users.Goals as goal

pub loop-notice-preserved : goal.loop-notice-preserved
loop-notice-preserved c = λ user.
    let found = list_any (same_user user) c.loop-notice.users.keys in
    elim c.match-notice.branch [
      | in-Some+in_ok-insert w ↦
          ended_one user c.args.notices.now c.loop-notice.notice-index c.notice-item.result c.loop-notice-test.true c.notice-item.is found _ (c.loop-notice.invariant user) w.in-Some.user _ w.in-Some.is
          (ap (λ users. list_any (same_user user) users.keys) w.users-is ∙ w.in_ok-insert.ensures.updates.0 user)
      | in_default w ↦
          ap (λ users. list_any (same_user user) users.keys || end_user user (drop (c.loop-notice.notice-index + 1) c.args.notices.now)) w.users-is
          ∙ ended_none user c.args.notices.now c.loop-notice.notice-index c.notice-item.result c.loop-notice-test.true c.notice-item.is found _ (c.loop-notice.invariant user) w.in_default.is
    ]

pub returns : goal.returns
returns c = λ user.
    sym (or-false (list_any (same_user user) c.loop-notice.users.keys))
    ∙ ap (λ list. list_any (same_user user) c.loop-notice.users.keys || end_user user list) (sym (drop_all c.loop-notice.notice-index c.args.notices.now c.loop-notice-test.false))
    ∙ c.loop-notice.invariant user
