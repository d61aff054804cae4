-- The one reply that is right after some steps, but for out of memory and for the room of states.
use Rattle.std.proofs.Common.{◌≡◌, ◌≢◌, ℕ, ◌+◌, ◌-◌, max, Bool, true, false, ◌&&◌, ◌||◌, nat_lt, nat_le, if◌then◌else◌, Option, None, Some, List, length, ℤ, refl, ap, sym, ◌∙◌, inl, inr, MatchBool, MatchOption}
use Rattle.ev_base.specs.declared.ids.UserId.{UserId}
use Rattle.ev_base.specs.declared.ids.QueueId.{QueueId}
use Rattle.ev_types.specs.declared.section.Section.{Section}
use Rattle.ev_types.specs.declared.state.State.{State}
use Rattle.zr_types.specs.declared.command.Command.{Command}
use Rattle.zr_types.specs.declared.command.Committed.{Committed}
use Rattle.zr_types.specs.declared.command.Refusal.{Refusal}
use Rattle.zr_types.specs.Effects.{made_by}
use Rattle.zr_types.specs.Refusals.{refusal}
use Rattle.zw_traces.specs.declared.realm.RealmInput.TheVariants as realm
use Rattle.zw_traces.specs.declared.realm.RealmReply.{RealmReply}
use Rattle.zw_traces.specs.declared.realm.RealmReply.TheVariants as realm_reply
use Rattle.zw_traces.specs.declared.realm.RealmStep.{RealmStep}
use Rattle.zw_traces.specs.declared.shard.FetchedSection.{FetchedSection}
use Rattle.zw_traces.specs.declared.shard.ShardInput.{ShardInput}
use Rattle.zw_traces.specs.declared.shard.ShardInput.TheVariants.{Start, Push, Finish, Poll, Delete, Tick, Locate}
use Rattle.zw_traces.specs.declared.shard.ShardReply.{ShardReply}
use Rattle.zw_traces.specs.declared.shard.ShardReply.TheVariants.{Opened, OpensSpent, TooManyQueues, Pushed, Gap, Finished, MissingSection, NotPushed, Answer, Empty, BadQueue, NotSent, Pruned, Deleted, Ticked, At, NoMemory}
use Rattle.zr_types.specs.Commits.{changed_by}
use Rattle.zw_traces.specs.RealmTrace.{Accepted, RealmAnswers, commands, state_of}
use Rattle.zw_traces.specs.Account.{Account, count_of, id_of, is_below_all, is_empty, is_held, is_live_phase, is_opening_phase, items_to_give, same_user}
use Rattle.zw_traces.specs.FetchedSections.{all_sections, first_missing, needed}
use Rattle.zw_traces.specs.ShardTrace.{IsFinished, OrNoMemory, Reading, ShardAccount, ShardAnswers, expiries, max_held, max_opens, next_queue, opened_by, shown_items}
use Rattle.zm_laws.specs.Laws.{full_state}
use Rattle.zm_laws.proofs.FullStates.{full_state_from, sections_from, state_with}

-- a reply whose state has no room
abbrev pub full_reply : ShardReply → ShardReply
full_reply (Finished state last reached) = Finished (full_state state) last reached
full_reply reply = reply

-- the reply to a finish, or missing sections
abbrev missing_or : Option Section → List FetchedSection → ShardReply → ShardReply
missing_or None parts next = next
missing_or (Some which) parts next = MissingSection which parts

-- the reply of a shard, where finishes read so
abbrev pub reply_in : Reading → ShardAccount → ShardInput → ShardReply
reply_in reading s (Start user salt moment types asked) =
    if nat_le max_opens (s.opens user) then OpensSpent else
    if nat_le max_held (length (opened_by user s.queues)) then TooManyQueues else
    Opened (next_queue s user salt) s.position
reply_in reading s (Push first notices) =
    if nat_lt (s.position + 1) first then Gap s.position first else
    Pushed (max s.position (first + length notices - 1))
reply_in reading s (Finish queue parts) =
    if is_opening_phase (s.account queue).phase
    then missing_or (first_missing all_sections (s.account queue).asked parts) parts
    (if nat_lt s.position (needed (s.account queue).asked parts) then NotPushed s.position (needed (s.account queue).asked parts) parts else
    Finished (state_with (sections_from (reading queue.user (s.account queue) s.position parts))) (id_of (s.account queue).next) s.position)
    else BadQueue
reply_in reading s (Poll user queue after moment beat) =
    if is_live_phase (s.account queue).phase && same_user queue.user user
    then (if nat_lt (s.account queue).given (count_of after) then NotSent (id_of (s.account queue).given) else
    if is_below_all after || nat_lt (count_of after) (s.account queue).pruned then Pruned (id_of (s.account queue).pruned) else
    if is_empty (items_to_give (count_of after) beat (s.account queue)) then Empty s.position
    else Answer (shown_items (items_to_give (count_of after) beat (s.account queue))) s.position)
    else BadQueue
reply_in reading s (Delete user queue) = if is_held (s.account queue) && same_user queue.user user then Deleted else BadQueue
reply_in reading s (Tick moment) = Ticked (expiries s moment)
reply_in reading s Locate = At s.position

-- a choice between two facts on a reply makes the reply a choice
choice_is : (test : Bool) (P Q : Type 0) (reply one other : ShardReply) → (P → full_reply reply ≡ one) → (Q → full_reply reply ≡ other)
    → MatchBool test P Q → full_reply reply ≡ (if test then one else other)
choice_is true P Q reply one other from_one from_other choice = from_one choice
choice_is false P Q reply one other from_one from_other choice = from_other choice

missing_is : (missing : Option Section) (parts : List FetchedSection) (P : Type 0) (reply next : ShardReply) → (P → full_reply reply ≡ next)
    → MatchOption missing P (λ which. reply ≡ MissingSection which parts) → full_reply reply ≡ missing_or missing parts next
missing_is None parts P reply next from choice = from choice
missing_is (Some which) parts P reply next from choice = ap full_reply choice

-- a reply is right, or memory was wanting
remembered : (reply right : ShardReply) → full_reply right ≡ right → reply ≢ NoMemory → OrNoMemory reply (reply ≡ right) → full_reply reply ≡ right
remembered reply right full memory (inl is) = ap full_reply is ∙ full
remembered reply right full memory (inr is) = absurd (memory is)

-- a finish that ends a registration
finished_is : (user : UserId) (a : Account) (place : ℕ) (reading : Reading) (parts : List FetchedSection) (reply : ShardReply) → reply ≢ NoMemory
    → OrNoMemory reply (IsFinished user a place reading parts reply)
    → full_reply reply ≡ Finished (state_with (sections_from (reading user a place parts))) (id_of a.next) place
finished_is user a place reading parts reply memory (inr is) = absurd (memory is)
finished_is user a place reading parts (Finished state last reached) memory (inl is) =
    let state_is = full_state_from state (reading user a place parts) is.0 in
    let last_is = is.1 in
    let reached_is = is.2 in
    λ i. Finished (state_is i) (last_is i) (reached_is i)
finished_is user a place reading parts reply memory (inl is) = absurd is

-- a right reply of a shard is that one
pub reply_is : (reading : Reading) (s : ShardAccount) (input : ShardInput) (reply : ShardReply)
    → ShardAnswers s reading input reply → reply ≢ NoMemory → full_reply reply ≡ reply_in reading s input
reply_is reading s (Start user salt moment types asked) reply answers memory =
    choice_is (nat_le max_opens (s.opens user)) _ _ reply OpensSpent _ (λ is. ap full_reply is)
    (choice_is (nat_le max_held (length (opened_by user s.queues))) _ _ reply TooManyQueues
    (Opened (next_queue s user salt) s.position) (λ is. ap full_reply is) (remembered reply _ refl memory))
    answers
reply_is reading s (Push first notices) reply answers memory =
    choice_is (nat_lt (s.position + 1) first) _ _ reply (Gap s.position first)
    (Pushed (max s.position (first + length notices - 1))) (λ is. ap full_reply is) (remembered reply _ refl memory) answers
reply_is reading s (Finish queue parts) reply answers memory =
    let a = s.account queue in
    choice_is (is_opening_phase a.phase) _ _ reply _ BadQueue
    (missing_is (first_missing all_sections a.asked parts) parts _ reply _
    (choice_is (nat_lt s.position (needed a.asked parts)) _ _ reply (NotPushed s.position (needed a.asked parts) parts) _ (λ is. ap full_reply is)
    (finished_is queue.user a s.position reading parts reply memory)))
    (λ is. ap full_reply is) answers
reply_is reading s (Poll user queue after moment beat) reply answers memory =
    let a = s.account queue in
    choice_is (is_live_phase a.phase && same_user queue.user user) _ _ reply _ BadQueue
    (choice_is (nat_lt a.given (count_of after)) _ _ reply (NotSent (id_of a.given)) _ (λ is. ap full_reply is)
    (choice_is (is_below_all after || nat_lt (count_of after) a.pruned) _ _ reply (Pruned (id_of a.pruned)) _ (λ is. ap full_reply is)
    (choice_is (is_empty (items_to_give (count_of after) beat a)) _ _ reply (Empty s.position)
    (Answer (shown_items (items_to_give (count_of after) beat a)) s.position) (λ is. ap full_reply is) (remembered reply _ refl memory))))
    (λ is. ap full_reply is) answers
reply_is reading s (Delete user queue) reply answers memory =
    choice_is (is_held (s.account queue) && same_user queue.user user) _ _ reply Deleted BadQueue (λ is. ap full_reply is) (λ is. ap full_reply is) answers
reply_is reading s (Tick moment) reply answers memory = remembered reply (Ticked (expiries s moment)) refl memory answers
reply_is reading s Locate reply answers memory = ap full_reply answers

-- a finish that isn't refused is of an opening queue
pub opened_finish : (reading : Reading) (s : ShardAccount) (queue : QueueId) (parts : List FetchedSection) (reply : ShardReply) → reply ≢ BadQueue
    → reply ≡ reply_in reading s (Finish queue parts) → is_opening_phase (s.account queue).phase ≡ true
opened_finish reading s queue parts reply not is = go _ (is_opening_phase (s.account queue).phase) is
  where
    go : (other : ShardReply) (opening : Bool) → reply ≡ (if opening then other else BadQueue) → opening ≡ true
    go other true is = refl
    go other false is = absurd (not is)

-- and one that is refused is of another
pub lost_finish : (reading : Reading) (s : ShardAccount) (queue : QueueId) (parts : List FetchedSection)
    → BadQueue ≡ reply_in reading s (Finish queue parts) → is_opening_phase (s.account queue).phase ≡ false
lost_finish reading s queue parts is =
    let a = s.account queue in
    let need = needed a.asked parts in
    let state = state_with (sections_from (reading queue.user a s.position parts)) in
    go need (id_of a.next) state (is_opening_phase a.phase) (first_missing all_sections a.asked parts) (nat_lt s.position need) is
  where
    go : (need : ℕ) (last : ℤ) (state : State) (opening : Bool) (missing : Option Section) (early : Bool)
        → BadQueue ≡ (if opening then missing_or missing parts (if early then NotPushed s.position need parts else Finished state last s.position) else BadQueue)
        → opening ≡ false
    go need last state false missing early is = refl
    go need last state true (Some which) early is = cc
    go need last state true None true is = cc
    go need last state true None false is = cc

-- the refusal, or the other reply
abbrev pub refused_or : Option Refusal → RealmReply → RealmReply
refused_or None next = next
refused_or (Some why) next = realm_reply.Refused why

-- the reply of the realm to a command
abbrev pub commit_reply : List Accepted → UserId → Command → RealmReply
commit_reply before actor command =
    refused_or (refusal (state_of before) actor command)
    (realm_reply.Committed (record { number = length before + 1; id = made_by (state_of before) command; changed = changed_by (state_of before).tables actor command }))

-- a reply that was given is that of the choice
committed_among : (why : Option Refusal) (reply other : Committed) → why ≡ None → reply ≡ other
    → realm_reply.Committed reply ≡ refused_or why (realm_reply.Committed other)
committed_among None reply other none is = ap realm_reply.Committed is
committed_among (Some why) reply other none is = cc

-- right replies of the realm are those
pub committed_is : (before : List RealmStep) (actor : UserId) (moment : ℕ) (command : Command) (reply : Committed)
    → RealmAnswers before (realm.Commit actor moment command) (realm_reply.Committed reply)
    → realm_reply.Committed reply ≡ commit_reply (commands before) actor command
committed_is before actor moment command reply answers =
    let all = commands before in
    let number_is = answers.1 in
    let id_is = answers.2 in
    let changed_is = answers.3 in
    committed_among (refusal (state_of all) actor command) reply
    (record { number = length all + 1; id = made_by (state_of all) command; changed = changed_by (state_of all).tables actor command }) answers.0
    (λ i. record { number = number_is i; id = id_is i; changed = changed_is i })

pub refused_is : (before : List RealmStep) (actor : UserId) (moment : ℕ) (command : Command) (why : Refusal)
    → RealmAnswers before (realm.Commit actor moment command) (realm_reply.Refused why)
    → realm_reply.Refused why ≡ commit_reply (commands before) actor command
refused_is before actor moment command why answers =
    let all = commands before in
    ap (λ reason. refused_or reason (realm_reply.Committed (record { number = length all + 1; id = made_by (state_of all) command; changed = changed_by (state_of all).tables actor command })))
    (sym answers)
