-- Traces of a shard over a trace of the realm.
use Rattle.std.specs.Prelude.{◌≡◌, ℕ, ◌+◌, ◌-◌, ◌≤◌, max, nat_lt, List, [], ◌∷◌, ◌++◌, length, Option, None, Some, ◌⊎◌, if◌then◌else◌}
use Rattle.ev_base.specs.declared.ids.UserId.{UserId}
use Rattle.ev_base.specs.declared.ids.QueueId.{QueueId}
use Rattle.ev_types.specs.declared.event.Event.{Event}
use Rattle.ev_types.specs.declared.notice.Notice.{Notice}
use Rattle.ev_types.specs.Changes.{changes_between}
use Rattle.ev_types.specs.Feeders.{covers}
use Rattle.zw_views.specs.Views.{section_of}
use Rattle.zw_traces.specs.declared.realm.RealmInput.TheVariants.{Fetch}
use Rattle.zw_traces.specs.declared.realm.RealmReply.TheVariants as reply
use Rattle.zw_traces.specs.declared.realm.RealmStep.{RealmStep}
use Rattle.zw_traces.specs.declared.shard.FetchedSection.{FetchedSection}
use Rattle.zw_traces.specs.declared.shard.ShardInput.{ShardInput}
use Rattle.zw_traces.specs.declared.shard.ShardInput.TheVariants.{Push, Finish}
use Rattle.zw_traces.specs.declared.shard.ShardStep.{ShardStep}
use Rattle.zw_traces.specs.RealmTrace.{Accepted, IsNotice, announced_count, commands, prefix_of, view_after, view_in}
use Rattle.zw_traces.specs.Account.{Account, Feeding, is_unopened_phase}
use Rattle.zw_traces.specs.ShardTrace.{Reading, IsLegalShardBy, account_of, pushed_events, given_rows, is_asked}

-- what the commits after the first n changed in a user's view, one commit after the other
abbrev pub events_since : UserId → ℕ → List Accepted → List Event
events_since user n [] = []
events_since user n (command ∷ before) =
    if nat_lt (length before) n then []
    else events_since user n before ++ changes_between (view_in user before) (view_in user (command ∷ before))

-- a push brings a user what the commits changed from the position up to the last notice
abbrev pub changed_events : List Accepted → Feeding
changed_events all user place first notices = events_since user place (prefix_of (max place (first + length notices - 1)) all)

-- a finish answers the user's view at the position in each section that was asked for and that the queue's types cover
abbrev pub viewed : List Accepted → Reading
viewed all user a place parts which =
    if covers a.types which
    then (if is_asked a which then Some (section_of which (view_after user place all)) else None)
    else given_rows user a place parts which

-- these are notices of the commits from this number on, and all of them were announced
abbrev pub AreAnnounced : List RealmStep → ℕ → List Notice → Type 0
AreAnnounced realm number [] = Unit {0}
AreAnnounced realm number (notice ∷ list) =
    IsNotice (commands realm) number notice × (number ≤ announced_count realm) × AreAnnounced realm (number + 1) list

-- the realm was asked for this section by this user, and answered this part
abbrev pub WasFetched : List RealmStep → UserId → FetchedSection → Type 0
WasFetched [] user part = ⊥
WasFetched (step ∷ before) user part =
    (step ≡ record { input = Fetch user part.section; reply = reply.Section part.rows part.at }) ⊎ WasFetched before user part

-- the position at which a queue was opened, where it ever was
abbrev pub opening_place : Account → Option ℕ
opening_place a = if is_unopened_phase a.phase then None else Some a.opened_at

-- the commit isn't before this one, where there is one
abbrev pub IsFrom : Option ℕ → ℕ → Type 0
IsFrom None at = ⊥
IsFrom (Some from) at = from ≤ at

-- these sections were fetched for a user, none before the opening of the queue
abbrev pub WereFetched : List RealmStep → UserId → Option ℕ → List FetchedSection → Type 0
WereFetched realm user from [] = Unit {0}
WereFetched realm user from (part ∷ others) = WasFetched realm user part × IsFrom from part.at × WereFetched realm user from others

module _ (realm : List RealmStep) where
  -- a pushed notice is one that the realm announced
  abbrev pub FeedsStep : ShardInput → Type 0
  FeedsStep (Push first notices) = AreAnnounced realm first notices
  FeedsStep input = Unit {0}

  abbrev pub Feeds : List ShardStep → Type 0
  Feeds [] = Unit {0}
  Feeds (step ∷ before) = FeedsStep step.input × Feeds before

  -- what a finish is given was fetched for its user, not before the opening of its queue
  abbrev pub IsPartedStep : ShardInput → List ShardStep → Type 0
  IsPartedStep (Finish queue parts) before = WereFetched realm queue.user (opening_place (account_of pushed_events queue before)) parts
  IsPartedStep input before = Unit {0}

  abbrev pub IsParted : List ShardStep → Type 0
  IsParted [] = Unit {0}
  IsParted (step ∷ before) = IsPartedStep step.input before × IsParted before

  abbrev pub IsLegalOver : List ShardStep → Type 0
  IsLegalOver trace = IsLegalShardBy (changed_events (commands realm)) (viewed (commands realm)) trace

  -- a queue's account by what the commits changed
  abbrev pub account_over : QueueId → List ShardStep → Account
  account_over queue trace = account_of (changed_events (commands realm)) queue trace
