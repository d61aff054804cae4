-- What the core does with an input is right after every trace that the core represents.
use Rattle.std.proofs.Common.{◌≡◌, ℕ, ◌+◌, ◌-◌, ◌≤◌, List, [], ◌∷◌, length, length-append, length-take, length-drop, drop, min, ap, ap₂, sym, subst, refl, ◌∙◌, add-one, arith}
use Rattle.ev_base.specs.declared.ids.UserId.{UserId}
use Rattle.zr_types.specs.declared.command.Command.{Command}
use Rattle.ev_types.specs.declared.notice.Notice.{Notice}
use Rattle.zw_traces.specs.declared.realm.RealmInput.{RealmInput}
use Rattle.zw_traces.specs.declared.realm.RealmInput.TheVariants.{Commit, Fetch, NoticeAll, Take}
use Rattle.zw_traces.specs.declared.realm.RealmReply.{RealmReply}
use Rattle.zw_traces.specs.declared.realm.RealmReply.TheVariants.{Committed, Refused, Section, FetchRefused, Noticed, Notices, NoMemory}
use Rattle.zr_types.specs.declared.command.Committed.{Committed as Made}
use Rattle.zr_types.specs.Tables.{RealmState}
use Rattle.zr_types.specs.Visibility.{is_active_user}
use Rattle.zr_types.specs.Commits.{changed_by}
use Rattle.zr_types.specs.Refusals.{refusal}
use Rattle.zr_types.specs.Effects.{after_command, made_by}
use Rattle.zw_views.specs.Views.{section_of, view_of}
use Rattle.ev_types.specs.Changes.{changes_between}
use Rattle.zw_traces.specs.declared.realm.RealmStep.{RealmStep}
use Rattle.zw_traces.specs.RealmTrace.{Accepted, RealmAnswers, AreNotices, IsNotice, max_taken, announced_count, commands, commits, deactivated_user, prefix_of, state_of}
use Rattle.zw_traces.proofs.PrefixCommits.{prefix_of-cons, prefix_of-all}
use Rattle.zw_traces.proofs.RealmTraces.{announced_within}
use Rattle.zw_realm.specs.CoreStates.{CoreState, IsProper, RealmRepresents}
use Rattle.zw_realm.specs.CoreSteps.{IsCoreStep, LaysNotice, TellsCommit, notices_from}
use Rattle.zw_realm.proofs.NoticeLists.{AreNotices-stays, AreNotices-append, AreNotices-drop, AreNotices-take}

-- how many commands were accepted
commits_counted : (list : List Accepted) → (state_of list).commits ≡ length list
commits_counted [] = refl
commits_counted (accepted ∷ before) = ap (λ n. n + 1) (commits_counted before) ∙ add-one (length before)

-- the reply is right, and what is held represents one step more
abbrev pub StaysRepresented : List RealmStep → RealmInput → RealmReply → CoreState → Type 0
StaysRepresented trace input reply new = RealmAnswers trace input reply × RealmRepresents new (record { input = input; reply = reply } ∷ trace)

module _ (old : CoreState) (trace : List RealmStep) (represents : RealmRepresents old trace) where
  -- a step that leaves the commits leaves what is held of them
  same_commits : (step : RealmStep) → commands (step ∷ trace) ≡ commands trace → RealmAnswers trace step.input step.reply
      → RealmRepresents (record old { announced = announced_count (step ∷ trace) }) (step ∷ trace)
  same_commits step same answers = record {
    realm = represents.realm ∙ ap state_of (sym same);
    notices = subst (λ list. AreNotices list 1 old.notices) (sym same) represents.notices;
    count = represents.count ∙ ap length (sym same);
    announced = refl;
    legal = (answers, represents.legal);
  }

  -- and one that announces nothing leaves all that is held
  unchanged : (input : RealmInput) (reply : RealmReply) (new : CoreState) → new ≡ old
      → commands (record { input = input; reply = reply } ∷ trace) ≡ commands trace
      → announced_count (record { input = input; reply = reply } ∷ trace) ≡ announced_count trace
      → RealmAnswers trace input reply → StaysRepresented trace input reply new
  unchanged input reply new same commits_same announced_same answers =
      let step : RealmStep = record { input = input; reply = reply } in
      let stays : record old { announced = announced_count (step ∷ trace) } ≡ old =
      ap (λ n. record old { announced = n }) (announced_same ∙ sym represents.announced) in
      (answers, subst (λ core. RealmRepresents core (step ∷ trace)) (stays ∙ sym same) (same_commits step commits_same answers))

  -- the notice of a commit is that of the trace's next commit
  next_notice : (actor : UserId) (moment : ℕ) (command : Command) (after : RealmState) (notice : Notice) → after ≡ after_command actor moment command old.realm
      → TellsCommit old.realm after (length old.notices + 1) command notice
      → IsNotice (record { actor = actor; moment = moment; command = command } ∷ commands trace) (commits trace + 1) notice
  next_notice actor moment command after notice is tells =
      let accepted : Accepted = record { actor = actor; moment = moment; command = command } in
      let all = commands trace in
      let count : commits trace ≡ length old.notices = sym represents.count in
      let before_is : prefix_of (commits trace + 1 - 1) (accepted ∷ all) ≡ all =
      ap (λ n. prefix_of n (accepted ∷ all)) (omega arith) ∙ prefix_of-cons (commits trace) accepted all (omega arith) ∙ prefix_of-all (commits trace) all refl in
      let after_is : prefix_of (commits trace + 1) (accepted ∷ all) ≡ accepted ∷ all = prefix_of-all (commits trace + 1) (accepted ∷ all) (omega arith) in
      let effect_is : after ≡ state_of (accepted ∷ all) = is ∙ ap (after_command actor moment command) represents.realm in
      record {
        from_one = omega arith;
        numbered = tells.numbered ∙ ap (λ n. n + 1) represents.count;
        ends = tells.ends ∙ ap deactivated_user (sym after_is);
        tells = λ user. tells.tells user
            ∙ ap₂ (λ (a b : RealmState). changes_between (view_of a.tables user) (view_of b.tables user))
            (represents.realm ∙ ap state_of (sym before_is)) (effect_is ∙ ap state_of (sym after_is));
      }

  after_commit : (actor : UserId) (moment : ℕ) (command : Command) (made : Made) (new : CoreState)
      → LaysNotice old actor moment command made new → StaysRepresented trace (Commit actor moment command) (Committed made) new
  after_commit actor moment command made new commit =
      let step : RealmStep = record { input = Commit actor moment command; reply = Committed made } in
      let counted : old.realm.commits ≡ commits trace = ap (λ (state : RealmState). state.commits) represents.realm ∙ commits_counted (commands trace) in
      let answers : RealmAnswers trace (Commit actor moment command) (Committed made) = (
        ap (λ state. refusal state actor command) (sym represents.realm) ∙ commit.committed.accepted,
        commit.committed.number ∙ ap (λ n. n + 1) counted,
        commit.committed.id ∙ ap (λ state. made_by state command) represents.realm,
        commit.committed.changed ∙ ap (λ (state : RealmState). changed_by state.tables actor command) represents.realm,
      ) in
      let count = represents.count in
      let earlier = AreNotices-stays step trace 1 old.notices (omega arith) represents.notices in
      let next = next_notice actor moment command new.realm commit.notice commit.committed.state commit.tells in (
        answers,
        record {
          realm = commit.committed.state ∙ ap (after_command actor moment command) represents.realm;
          notices = subst (λ list. AreNotices (commands (step ∷ trace)) 1 list) (sym commit.notices)
              (AreNotices-append (commands (step ∷ trace)) 1 old.notices (commits trace + 1) commit.notice (omega arith) earlier next);
          count = ap length commit.notices ∙ length-append old.notices (commit.notice ∷ []) ∙ omega arith;
          announced = commit.announced ∙ represents.announced;
          legal = (answers, represents.legal);
        },
      )

  -- the notices that are handed out
  notices_right : (first : ℕ) → 1 ≤ first
      → AreNotices (commands trace) first (notices_from old first) × (length (notices_from old first) ≡ min max_taken (announced_count trace + 1 - first))
  notices_right first numbered =
      let within = announced_within trace represents.legal in
      let committed = represents.count in
      let told = represents.announced in
      let count = min max_taken (old.announced + 1 - first) in (
        AreNotices-take (commands trace) first count (drop (first - 1) old.notices)
            (AreNotices-drop (commands trace) 1 (first - 1) first old.notices (omega arith) represents.notices),
        omega (arith, length-take count (drop (first - 1) old.notices), length-drop (first - 1) old.notices),
      )

-- a right reply, and a core that represents the longer trace
core_step : (old new : CoreState) (input : RealmInput) (reply : RealmReply) → IsProper input → IsCoreStep old input reply new
    → (trace : List RealmStep) → RealmRepresents old trace → StaysRepresented trace input reply new
core_step old new (Commit actor moment command) (Committed made) proper step trace represents =
    after_commit old trace represents actor moment command made new step
core_step old new (Commit actor moment command) (Refused why) proper step trace represents =
    unchanged old trace represents (Commit actor moment command) (Refused why) new step.1 refl refl
    (ap (λ state. refusal state actor command) (sym represents.realm) ∙ step.0)
core_step old new (Commit actor moment command) NoMemory proper step trace represents =
    unchanged old trace represents (Commit actor moment command) NoMemory new step refl refl tt
core_step old new (Fetch user section) (Section rows at) proper step trace represents =
    unchanged old trace represents (Fetch user section) (Section rows at) new step.3 refl refl (
      ap (λ (state : RealmState). is_active_user state.tables user) (sym represents.realm) ∙ step.0,
      step.1 ∙ ap (λ (state : RealmState). section_of section (view_of state.tables user)) represents.realm,
      step.2 ∙ represents.count,
    )
core_step old new (Fetch user section) FetchRefused proper step trace represents =
    unchanged old trace represents (Fetch user section) FetchRefused new step.1 refl refl
    (ap (λ (state : RealmState). is_active_user state.tables user) (sym represents.realm) ∙ step.0)
core_step old new (Fetch user section) NoMemory proper step trace represents =
    unchanged old trace represents (Fetch user section) NoMemory new step refl refl tt
core_step old new NoticeAll (Noticed count) proper step trace represents =
    let answers : count ≡ commits trace = step.0 ∙ represents.count in
    let asked : RealmStep = record { input = NoticeAll; reply = Noticed count } in
    let is : new ≡ record old { announced = count } = step.1 ∙ ap (λ n. record old { announced = n }) (sym step.0) in
    (answers, subst (λ core. RealmRepresents core (asked ∷ trace)) (sym is) (same_commits old trace represents asked refl answers))
core_step old new (Take first) (Notices from list) proper step trace represents =
    let right = notices_right old trace represents first proper in
    unchanged old trace represents (Take first) (Notices from list) new step.2 refl refl (
      step.0,
      subst (AreNotices (commands trace) first) (sym step.1) right.0,
      ap length step.1 ∙ right.1,
    )
core_step old new (Take first) NoMemory proper step trace represents =
    unchanged old trace represents (Take first) NoMemory new step refl refl tt
core_step old new input reply proper step trace represents = absurd step

-- the same of the input that was given
pub step_represents : (old new : CoreState) (given input : RealmInput) (reply : RealmReply) → given ≡ input → IsProper given → IsCoreStep old input reply new
    → (trace : List RealmStep) → RealmRepresents old trace → StaysRepresented trace given reply new
step_represents old new given input reply is proper step trace represents =
    subst (λ asked. StaysRepresented trace asked reply new) (sym is) (core_step old new input reply (subst IsProper is proper) step trace represents)
