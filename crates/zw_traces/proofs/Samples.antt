-- The definitions on a small history: two users are added, one of them registers and is deactivated.
use Rattle.std.proofs.Common.{◌≡◌, ℕ, true, false, codes, None, Some, Option, List, [], ◌∷◌, pos, negsuc, refl, inl, inr, ◌∙◌, arith}
use Rattle.std.specs.Str.{chars}
use Rattle.ev_base.specs.Texts.{fault_of}
use Rattle.ev_base.specs.declared.ids.UserId.{UserId}
use Rattle.ev_base.specs.declared.ids.QueueId.{QueueId}
use Rattle.ev_base.specs.declared.ids.MessageId.{MessageId}
use Rattle.ev_base.specs.declared.kinds.Flag.TheVariants.{Starred}
use Rattle.ev_base.specs.declared.kinds.Role.TheVariants.{Owner, Member}
use Rattle.ev_types.specs.declared.event.Event.{Event}
use Rattle.ev_types.specs.declared.event.Event.TheVariants.{Flags, Heartbeat, UserAdd, UserChange}
use Rattle.ev_types.specs.declared.event.UserField.TheVariants as user_field
use Rattle.ev_types.specs.declared.event.Item.{Item}
use Rattle.ev_types.specs.declared.kind.Types.TheVariants.{All}
use Rattle.ev_types.specs.declared.notice.Audience.TheVariants.{Everyone}
use Rattle.ev_types.specs.declared.notice.Notice.{Notice}
use Rattle.ev_types.specs.declared.rows.ShownUser.{ShownUser}
use Rattle.ev_types.specs.declared.section.Section.{Section}
use Rattle.ev_types.specs.declared.section.Section.TheVariants as section
use Rattle.ev_types.specs.declared.state.Rows.{Rows}
use Rattle.ev_types.specs.declared.state.Rows.TheVariants as of_section
use Rattle.ev_types.specs.declared.state.State.{State}
use Rattle.ev_types.specs.OneSection.{rows_of}
use Rattle.ev_types.specs.Sections.{sections_of}
use Rattle.zr_types.specs.declared.command.Command.{Command}
use Rattle.zr_types.specs.declared.command.Command.TheVariants.{People}
use Rattle.zr_types.specs.declared.command.PeopleCommand.TheVariants as of_people
use Rattle.zr_types.specs.declared.command.Refusal.TheVariants.{ActorUnknown}
use Rattle.zw_traces.specs.declared.realm.RealmInput.TheVariants.{Commit, Fetch, NoticeAll, Take}
use Rattle.zw_traces.specs.declared.realm.RealmReply.TheVariants as reply
use Rattle.zw_traces.specs.declared.realm.RealmStep.{RealmStep}
use Rattle.zw_traces.specs.declared.shard.FetchedSection.{FetchedSection}
use Rattle.zw_traces.specs.declared.shard.ShardInput.TheVariants.{Start, Push, Finish, Poll, Delete, Tick}
use Rattle.zw_traces.specs.declared.shard.ShardReply.TheVariants.{Opened, Pushed, Gap, Finished, MissingSection, NotPushed, Answer, Empty, BadQueue, NotSent, Pruned, Deleted, Ticked}
use Rattle.zw_traces.specs.declared.shard.ShardStep.{ShardStep}
use Rattle.zw_traces.specs.RealmTrace.{Accepted, IsLegalRealm, IsNotice, RealmAnswers, announced_count, commands, is_active_after, view_after}
use Rattle.zw_traces.specs.Account.{Account, after_answer, after_push, gone, items_of, kept_of, live, opened_account}
use Rattle.zw_traces.specs.ShardTrace.{IsLegalShard, ShardAnswers, account_of, given_rows, pushed_events, shard_account}
use Rattle.zw_traces.specs.RealmFeeds.{viewed}
use Rattle.zw_traces.specs.Histories.{History, IsLegalHistory}

abbrev nobody : UserId
nobody = record { 0 = 0 }

abbrev ann : UserId
ann = record { 0 = 1 }

abbrev bob : UserId
bob = record { 0 = 2 }

abbrev adds_ann : Command
adds_ann = People (of_people.UserAdd (codes "ann@x.org") (codes "Ann") Owner (codes "k1"))

abbrev adds_bob : Command
adds_bob = People (of_people.UserAdd (codes "bob@x.org") (codes "Bob") Member (codes "k2"))

abbrev deactivates_bob : Command
deactivates_bob = People (of_people.UserDeactivate bob)

-- the accepted commands, the latest first
abbrev accepted : List Accepted
accepted =
    record { actor = ann; moment = 7; command = deactivates_bob }
    ∷ record { actor = ann; moment = 5; command = adds_bob }
    ∷ record { actor = nobody; moment = 3; command = adds_ann }
    ∷ []

-- how every view shows the two
abbrev shown_ann : ShownUser
shown_ann = record { email = codes "ann@x.org"; full_name = codes "Ann"; role = Owner; is_active = true }

abbrev shown_bob : ShownUser
shown_bob = record { email = codes "bob@x.org"; full_name = codes "Bob"; role = Member; is_active = true }

abbrev both : Rows
both = of_section.RealmUsers ((ann, shown_ann) ∷ (bob, shown_bob) ∷ [])

pub the_second_commit_adds_bob : (view_after ann 2 accepted).realm_users ≡ (ann, shown_ann) ∷ (bob, shown_bob) ∷ []
the_second_commit_adds_bob = refl

pub bob_is_active_after_it : is_active_after bob 2 accepted ≡ true
bob_is_active_after_it = refl

pub the_third_commit_deactivates_bob : is_active_after bob 3 accepted ≡ false
the_third_commit_deactivates_bob = refl

-- the events and the notices of the three commits
abbrev tells_of_ann : Event
tells_of_ann = UserAdd ann shown_ann

abbrev tells_of_bob : Event
tells_of_bob = UserAdd bob shown_bob

abbrev tells_of_the_end : Event
tells_of_the_end = UserChange bob (user_field.IsActive false)

abbrev notice_of : ℕ → Option UserId → Event → Notice
notice_of number ends event = record { number = number; ends = ends; parts = record { audience = Everyone; event = event } ∷ [] }

abbrev first_notice : Notice
first_notice = notice_of 1 None tells_of_ann

abbrev second_notice : Notice
second_notice = notice_of 2 None tells_of_bob

abbrev third_notice : Notice
third_notice = notice_of 3 (Some bob) tells_of_the_end

-- what the realm was asked, the latest first
abbrev realm_trace : List RealmStep
realm_trace =
    record { input = Take 3; reply = reply.Notices 3 (third_notice ∷ []) }
    ∷ record { input = NoticeAll; reply = reply.Noticed 3 }
    ∷ record { input = Fetch bob section.RealmUsers; reply = reply.FetchRefused }
    ∷ record { input = Commit ann 7 deactivates_bob; reply = reply.Committed (record { number = 3; id = None; changed = [] }) }
    ∷ record { input = Fetch bob section.RealmUsers; reply = reply.Section both 2 }
    ∷ record { input = Take 1; reply = reply.Notices 1 (first_notice ∷ second_notice ∷ []) }
    ∷ record { input = NoticeAll; reply = reply.Noticed 2 }
    ∷ record { input = Commit ann 5 adds_bob; reply = reply.Committed (record { number = 2; id = Some 2; changed = [] }) }
    ∷ record { input = Commit nobody 3 adds_ann; reply = reply.Committed (record { number = 1; id = Some 1; changed = [] }) }
    ∷ record { input = Commit ann 3 adds_bob; reply = reply.Refused ActorUnknown }
    ∷ []

pub refused_commands_are_not_committed : commands realm_trace ≡ accepted
refused_commands_are_not_committed = refl

pub all_commits_were_announced : announced_count realm_trace ≡ 3
all_commits_were_announced = refl

one_is : IsNotice accepted 1 first_notice
one_is = record { from_one = omega arith; numbered = refl; ends = refl; tells = λ user. refl }

two_is : IsNotice accepted 2 second_notice
two_is = record { from_one = omega arith; numbered = refl; ends = refl; tells = λ user. refl }

three_is : IsNotice accepted 3 third_notice
three_is = record { from_one = omega arith; numbered = refl; ends = refl; tells = λ user. refl }

-- a star and another one are one item, but not once the first was answered
abbrev stars : List MessageId → Event
stars messages = Flags (record { flag = Starred; add = true; messages = messages; details = [] })

abbrev one_star : Event
one_star = stars (record { 0 = 1 } ∷ [])

abbrev other_star : Event
other_star = stars (record { 0 = 2 } ∷ [])

abbrev watched : Account
watched = record (opened_account All [] 0 0) { phase = live }

pub changes_of_a_flag_are_one_item : items_of (after_push false (one_star ∷ other_star ∷ []) watched) ≡ (2, stars (record { 0 = 1 } ∷ record { 0 = 2 } ∷ [])) ∷ []
changes_of_a_flag_are_one_item = refl

pub an_answered_item_stays : items_of (after_push false (other_star ∷ []) (after_answer 0 false 5 (after_push false (one_star ∷ []) watched))) ≡ (1, one_star) ∷ (2, other_star) ∷ []
an_answered_item_stays = refl

-- the first two notices, when no other command was accepted
abbrev first_accepted : List Accepted
first_accepted = record { actor = ann; moment = 5; command = adds_bob } ∷ record { actor = nobody; moment = 3; command = adds_ann } ∷ []

first_is : IsNotice first_accepted 1 first_notice
first_is = record { from_one = omega arith; numbered = refl; ends = refl; tells = λ user. refl }

second_is : IsNotice first_accepted 2 second_notice
second_is = record { from_one = omega arith; numbered = refl; ends = refl; tells = λ user. refl }

pub the_realm_answers_right : IsLegalRealm realm_trace
unfolding fault_of chars
the_realm_answers_right = (
  (refl, (three_is, tt), refl),
  (
    refl,
    (
      refl,
      (
        (refl, refl, refl, refl),
        (
          (refl, refl, refl),
          (
            (refl, (first_is, (second_is, tt)), refl),
            (
              refl,
              (
                (refl, refl, refl, refl),
                (
                  (refl, refl, refl, refl),
                  (
                    refl,
                    tt,
                  ),
                ),
              ),
            ),
          ),
        ),
      ),
    ),
  ),
)

pub no_more_is_announced_than_committed : RealmAnswers realm_trace NoticeAll (reply.Noticed 4) → ⊥
no_more_is_announced_than_committed is = cc

pub an_announced_notice_is_handed_out : RealmAnswers realm_trace (Take 3) (reply.Notices 3 []) → ⊥
an_announced_notice_is_handed_out is = let count = is.2 in cc

pub nobody_inactive_fetches : RealmAnswers realm_trace (Fetch bob section.RealmUsers) (reply.Section both 3) → ⊥
nobody_inactive_fetches is = let active = is.0 in cc

-- bob's queue, which is opened before any notice is pushed; the section was fetched after the second commit
abbrev queue : QueueId
queue = record { user = bob; number = 0; salt = 4 }

abbrev part : FetchedSection
part = record { section = section.RealmUsers; rows = both; at = 2 }

abbrev opened_trace : List ShardStep
opened_trace = record { input = Start bob 4 10 All (section.RealmUsers ∷ []); reply = Opened queue 0 } ∷ []

abbrev fed_trace : List ShardStep
fed_trace = record { input = Push 1 (first_notice ∷ second_notice ∷ []); reply = Pushed 2 } ∷ opened_trace

pub a_section_that_lacks_is_named : ShardAnswers (shard_account pushed_events opened_trace) given_rows (Finish queue []) (MissingSection section.RealmUsers [])
a_section_that_lacks_is_named = refl

pub an_unpushed_section_is_handed_back : ShardAnswers (shard_account pushed_events opened_trace) given_rows (Finish queue (part ∷ [])) (NotPushed 0 2 (part ∷ []))
an_unpushed_section_is_handed_back = refl

pub an_opening_queue_is_not_polled : ShardAnswers (shard_account pushed_events fed_trace) given_rows (Poll bob queue (negsuc 0) 11 false) BadQueue
an_opening_queue_is_not_polled = refl

pub a_notice_past_the_next_is_a_gap : ShardAnswers (shard_account pushed_events fed_trace) given_rows (Push 4 []) (Gap 2 4)
a_notice_past_the_next_is_a_gap = refl

pub a_notice_that_was_pushed_is_passed_over : ShardAnswers (shard_account pushed_events fed_trace) given_rows (Push 2 (second_notice ∷ third_notice ∷ [])) (Pushed 3)
a_notice_that_was_pushed_is_passed_over = inl refl

pub the_queue_has_both_events : items_of (account_of pushed_events queue fed_trace) ≡ (1, tells_of_ann) ∷ (2, tells_of_bob) ∷ []
the_queue_has_both_events = refl

-- the sections of a state with both users alone
abbrev given : Section → Option Rows
given section.RealmUsers = Some both
given which = None

abbrev beat : Item
beat = record { id = pos 2; event = Heartbeat }

module _ (state : State) (shows : (which : Section) → rows_of which (sections_of state) ≡ given which) where
  -- the registration ends; then the queue is polled with what was given, with a heartbeat, with an old id, and with one that
  -- wasn't given
  abbrev polled_trace : List ShardStep
  polled_trace =
      record { input = Poll bob queue (pos 3) 60 false; reply = NotSent (pos 2) }
      ∷ record { input = Poll ann queue (pos 1) 60 false; reply = BadQueue }
      ∷ record { input = Poll bob queue (pos 0) 60 false; reply = Pruned (pos 1) }
      ∷ record { input = Poll bob queue (pos 1) 56 true; reply = Answer (beat ∷ []) 2 }
      ∷ record { input = Poll bob queue (pos 1) 55 true; reply = Answer (beat ∷ []) 2 }
      ∷ record { input = Poll bob queue (pos 1) 10 false; reply = Empty 2 }
      ∷ record { input = Finish queue (part ∷ []); reply = Finished state (pos 1) 2 }
      ∷ fed_trace

  -- and it ends with its user
  abbrev ended_trace : List ShardStep
  ended_trace =
      record { input = Poll bob queue (pos 2) 61 false; reply = BadQueue }
      ∷ record { input = Push 3 (third_notice ∷ []); reply = Pushed 3 }
      ∷ polled_trace

  pub the_queue_was_live : (account_of pushed_events queue polled_trace).phase ≡ live
  the_queue_was_live = refl

  pub it_keeps_the_heartbeat : kept_of (account_of pushed_events queue polled_trace) ≡ (3, Heartbeat) ∷ []
  it_keeps_the_heartbeat = refl

  pub the_queue_is_gone : (account_of pushed_events queue ended_trace).phase ≡ gone
  the_queue_is_gone = refl

  pub a_tick_collects_it_after_ten_minutes : ShardAnswers (shard_account pushed_events polled_trace) given_rows (Tick 656) (Ticked (record { queue = queue; moment = 656; last_of_user = true } ∷ []))
  a_tick_collects_it_after_ten_minutes = inl refl

  pub and_not_before : ShardAnswers (shard_account pushed_events polled_trace) given_rows (Tick 655) (Ticked [])
  and_not_before = inl refl

  pub it_may_be_deleted : ShardAnswers (shard_account pushed_events polled_trace) given_rows (Delete bob queue) Deleted
  it_may_be_deleted = refl

  pub by_its_user_alone : ShardAnswers (shard_account pushed_events polled_trace) given_rows (Delete ann queue) BadQueue
  by_its_user_alone = refl

  pub an_item_that_is_there_is_answered : ShardAnswers (shard_account pushed_events polled_trace) given_rows (Poll bob queue (pos 1) 60 false) (Empty 2) → ⊥
  an_item_that_is_there_is_answered (inl is) = cc
  an_item_that_is_there_is_answered (inr is) = cc

  the_given : (which : Section) → given which ≡ given_rows bob (account_of pushed_events queue fed_trace) 2 (part ∷ []) which
  the_given section.Realm = refl
  the_given section.RealmUsers = refl
  the_given section.Streams = refl
  the_given section.Subscriptions = refl
  the_given section.Subscribers = refl
  the_given section.Messages = refl
  the_given section.Reactions = refl
  the_given section.StarredMessages = refl
  the_given section.UnreadMessages = refl

  the_view : (which : Section) → given which ≡ viewed (commands realm_trace) bob (account_of pushed_events queue fed_trace) 2 (part ∷ []) which
  the_view section.Realm = refl
  the_view section.RealmUsers = refl
  the_view section.Streams = refl
  the_view section.Subscriptions = refl
  the_view section.Subscribers = refl
  the_view section.Messages = refl
  the_view section.Reactions = refl
  the_view section.StarredMessages = refl
  the_view section.UnreadMessages = refl

  pub the_shard_answers_right : IsLegalShard ended_trace
  the_shard_answers_right = (
    refl,
    (
      inl refl,
      (
        refl,
        (
          refl,
          (
            refl,
            (
              inl refl,
              (
                inl refl,
                (
                  refl,
                  (
                    inl (λ which. shows which ∙ the_given which, refl, refl),
                    (
                      inl refl,
                      (
                        inl refl,
                        tt,
                      ),
                    ),
                  ),
                ),
              ),
            ),
          ),
        ),
      ),
    ),
  )

  -- the realm's trace, with the shard's
  abbrev sample_history : History
  sample_history = record { realm = realm_trace; shards = ended_trace ∷ [] }

  pub the_history_is_legal : IsLegalHistory sample_history
  the_history_is_legal = record {
    realm = the_realm_answers_right;
    shards = (
      record {
        legal = (
          refl,
          (
            inl refl,
            (
              refl,
              (
                refl,
                (
                  refl,
                  (
                    inl refl,
                    (
                      inl refl,
                      (
                        refl,
                        (
                          inl (λ which. shows which ∙ the_view which, refl, refl),
                          (
                            inl refl,
                            (
                              inl refl,
                              tt,
                            ),
                          ),
                        ),
                      ),
                    ),
                  ),
                ),
              ),
            ),
          ),
        );
        fed = (tt, ((three_is, omega arith, tt), (tt, (tt, (tt, (tt, (tt, (tt, (tt, ((one_is, omega arith, (two_is, omega arith, tt)), (tt, tt)))))))))));
        parted = (tt, (tt, (tt, (tt, (tt, (tt, (tt, (tt, ((inr (inr (inr (inr (inl refl)))), omega arith, tt), (tt, (tt, tt)))))))))));
        served = (refl, (tt, (refl, (refl, (refl, (refl, (refl, (refl, (refl, (tt, (refl, tt)))))))))));
      },
      tt,
    );
  }
