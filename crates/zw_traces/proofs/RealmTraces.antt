-- What holds of a legal trace of the realm, and what more steps leave.
use Rattle.std.proofs.Common.{◌≡◌, ℕ, ◌+◌, ◌-◌, ◌≤◌, true, List, [], ◌∷◌, ◌++◌, length, refl, ap, ap₂, sym, subst, ◌∙◌, inl, inr, arith}
use Rattle.ev_base.specs.declared.ids.UserId.{UserId}
use Rattle.ev_types.specs.declared.notice.Notice.{Notice}
use Rattle.zw_traces.specs.declared.realm.RealmInput.{RealmInput}
use Rattle.zw_traces.specs.declared.realm.RealmReply.{RealmReply}
use Rattle.zw_traces.specs.declared.shard.FetchedSection.{FetchedSection}
use Rattle.zw_traces.specs.declared.realm.RealmStep.{RealmStep}
use Rattle.zw_traces.specs.RealmTrace.{Accepted, IsNotice, RealmAnswers, IsLegalRealm, commands, commands_after, commits, announced_count, announced_after, deactivated_user, prefix_of, view_in, view_after, is_active_after, state_of}
use Rattle.zw_traces.specs.RealmFeeds.{AreAnnounced, WasFetched}
use Rattle.zw_traces.proofs.PrefixCommits.{prefix_of-cons, prefix_of-all}
use Rattle.zw_traces.specs.declared.realm.RealmInput.TheVariants.{Commit, NoticeAll}
use Rattle.zw_traces.specs.declared.realm.RealmReply.TheVariants.{Committed, Noticed}
use Rattle.zw_views.specs.Views.{section_of}
use Rattle.zr_types.specs.Visibility.{is_active_user}
use Rattle.ev_types.specs.Changes.{changes_between}

-- a step adds at most one command
commands_after_grow : (input : RealmInput) (reply : RealmReply) (before : List Accepted) → length before ≤ length (commands_after input reply before)
commands_after_grow (Commit actor moment command) (Committed made) before = omega arith
commands_after_grow input reply before = omega arith

-- and leaves the first ones
prefix_of-commands_after : (n : ℕ) (input : RealmInput) (reply : RealmReply) (before : List Accepted) → n ≤ length before
    → prefix_of n (commands_after input reply before) ≡ prefix_of n before
prefix_of-commands_after n (Commit actor moment command) (Committed made) before within = prefix_of-cons n (record { actor = actor; moment = moment; command = command }) before within
prefix_of-commands_after n input reply before within = refl

pub commits_grow : (step : RealmStep) (realm : List RealmStep) → commits realm ≤ commits (step ∷ realm)
commits_grow step realm = commands_after_grow step.input step.reply (commands realm)

-- more steps leave the commits that there were
pub first_commits_stay : (n : ℕ) (step : RealmStep) (realm : List RealmStep) → n ≤ commits realm
    → prefix_of n (commands (step ∷ realm)) ≡ prefix_of n (commands realm)
first_commits_stay n step realm within = prefix_of-commands_after n step.input step.reply (commands realm) within

pub view_stays : (user : UserId) (n : ℕ) (step : RealmStep) (realm : List RealmStep) → n ≤ commits realm
    → view_after user n (commands (step ∷ realm)) ≡ view_after user n (commands realm)
view_stays user n step realm within = ap (λ list. view_in user list) (first_commits_stay n step realm within)

announced_after_within : (input : RealmInput) (reply : RealmReply) (realm : List RealmStep) → RealmAnswers realm input reply
    → announced_count realm ≤ commits realm
    → (announced_count realm ≤ announced_after input reply (announced_count realm)) × (announced_after input reply (announced_count realm) ≤ length (commands_after input reply (commands realm)))
announced_after_within NoticeAll (Noticed count) realm answers within = (omega arith, omega arith)
announced_after_within (Commit actor moment command) (Committed made) realm answers within = (omega arith, omega arith)
announced_after_within input reply realm answers within = (omega arith, within)

-- no more was announced than committed
pub announced_within : (realm : List RealmStep) → IsLegalRealm realm → announced_count realm ≤ commits realm
announced_within [] legal = omega arith
announced_within (step ∷ realm) legal = (announced_after_within step.input step.reply realm legal.0 (announced_within realm legal.1)).1

pub announced_grows : (step : RealmStep) (realm : List RealmStep) → IsLegalRealm (step ∷ realm) → announced_count realm ≤ announced_count (step ∷ realm)
announced_grows step realm legal = (announced_after_within step.input step.reply realm legal.0 (announced_within realm legal.1)).0

-- a notice tells the same after more steps
pub IsNotice-stays : (step : RealmStep) (realm : List RealmStep) (number : ℕ) (notice : Notice) → number ≤ commits realm
    → IsNotice (commands realm) number notice → IsNotice (commands (step ∷ realm)) number notice
IsNotice-stays step realm number notice within is = record {
  from_one = is.from_one;
  numbered = is.numbered;
  ends = is.ends ∙ ap deactivated_user (sym (first_commits_stay number step realm within));
  tells = λ user. is.tells user ∙ sym (ap₂ changes_between (view_stays user (number - 1) step realm (omega arith)) (view_stays user number step realm within));
}

-- announced notices stay announced
pub AreAnnounced-stays : (step : RealmStep) (realm : List RealmStep) → IsLegalRealm (step ∷ realm)
    → (number : ℕ) (list : List Notice) → AreAnnounced realm number list → AreAnnounced (step ∷ realm) number list
AreAnnounced-stays step realm legal number [] are = tt
AreAnnounced-stays step realm legal number (notice ∷ list) are =
    let committed = announced_within realm legal.1 in
    let grows = announced_grows step realm legal in
    let first = are.1 in
    (IsNotice-stays step realm number notice (omega arith) are.0, omega arith, AreAnnounced-stays step realm legal (number + 1) list are.2)

-- a section that was fetched is the view at its commit, and the user was active there
pub fetched_view : (user : UserId) (part : FetchedSection) (realm : List RealmStep) → IsLegalRealm realm → WasFetched realm user part
    → (part.at ≤ commits realm) × (part.rows ≡ section_of part.section (view_after user part.at (commands realm))) × (is_active_after user part.at (commands realm) ≡ true)
fetched_view user part [] legal fetched = absurd fetched
fetched_view user part (step ∷ realm) legal (inl now) =
    let P : RealmStep → Type 0 = λ s. RealmAnswers realm s.input s.reply in
    let answers = subst P now legal.0 in
    let at_commits : part.at ≡ commits realm = answers.2 in
    let grow = commits_grow step realm in
    let whole = first_commits_stay part.at step realm (omega arith) ∙ prefix_of-all part.at (commands realm) at_commits in (
      omega arith,
      answers.1 ∙ ap (λ list. section_of part.section (view_in user list)) (sym whole),
      ap (λ list. is_active_user (state_of list).tables user) whole ∙ answers.0,
    )
fetched_view user part (step ∷ realm) legal (inr earlier) =
    let inner = fetched_view user part realm legal.1 earlier in
    let within = inner.0 in
    let grow = commits_grow step realm in (
      omega arith,
      inner.1 ∙ ap (section_of part.section) (sym (view_stays user part.at step realm within)),
      ap (λ list. is_active_user (state_of list).tables user) (first_commits_stay part.at step realm within) ∙ inner.2,
    )

-- more steps of the realm leave what was fetched
pub WasFetched-stays : (later realm : List RealmStep) (user : UserId) (part : FetchedSection) → WasFetched realm user part → WasFetched (later ++ realm) user part
WasFetched-stays [] realm user part fetched = fetched
WasFetched-stays (step ∷ later) realm user part fetched = inr (WasFetched-stays later realm user part fetched)

-- the steps before some later ones are legal
pub earlier_realm : (later realm : List RealmStep) → IsLegalRealm (later ++ realm) → IsLegalRealm realm
earlier_realm [] realm legal = legal
earlier_realm (step ∷ later) realm legal = earlier_realm later realm legal.1
