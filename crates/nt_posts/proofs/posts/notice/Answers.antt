use Rattle.std.proofs.Common.{◌∙◌, ℕ, ◌+◌, List, ap, ap₂, arith, sym}
use Rattle.nt_rules.specs.Parts.{heard_of}
use Rattle.nt_posts.specs.PostParts.{post_parts}
use Rattle.nt_posts.proofs.PostsTold.{checked_told}
use Rattle.nt_posts.proofs.posts.notice.Goals as goal
use Rattle.zr_realm.proofs.Accepted.{is_accepted}
use Rattle.zr_realm.proofs.Outcome.{commits_fit}

-- a check accepts no command past the greatest number of commits
pub overflow_add-result : goal.overflow_add-result
overflow_add-result c =
    let (command, is) = c.requires.checked in
    let fit = commits_fit c.args.before.now.state c.args.change.now command is in
    omega (arith, fit, c.commits.ensures)

pub returns-clause-tells : goal.returns-clause-tells
returns-clause-tells c = λ command is user.
    let state = c.args.before.now.state in
    let change = c.args.change.now in
    ap (heard_of user) (c.from_vec.ensures ∙ c.in_ok-parts.ensures)
    ∙ ap₂ (λ (sent : ℕ) (ids : List ℕ). heard_of user (post_parts state.tables change.actor change.moment (record { 0 = sent + 1 }) c.in-Posts.command ids))
    c.sent.ensures c.as_slice-ids.ensures
    ∙ checked_told state c.tables_are_sorted.ensures c.tables_are_sound.ensures change.actor change.moment user c.in-Posts.command command
    (sym c.in-Posts.is ∙ is.resolves) (is_accepted state change.actor command is.accepted) change.ids is.ids
