-- What is promised of every script, stated on what its lines asked and what was printed for them.
use Rattle.std.specs.Prelude.{◌≡◌, ◌≢◌, ℕ, ◌≤◌, Bool, true, Option, Some, List, [], ◌∷◌, ◌++◌, length, ℤ}
use Rattle.ev_base.specs.declared.ids.UserId.{UserId}
use Rattle.ev_base.specs.declared.ids.QueueId.{QueueId}
use Rattle.ev_types.specs.declared.event.Item.{Item}
use Rattle.ev_types.specs.declared.kind.Types.{Types}
use Rattle.ev_types.specs.declared.section.Section.{Section}
use Rattle.ev_types.specs.declared.state.Rows.{Rows}
use Rattle.ev_types.specs.declared.state.State.{State}
use Rattle.ev_types.specs.OneSection.{rows_of}
use Rattle.ev_types.specs.Sections.{sections_of, all_of}
use Rattle.zr_types.specs.Visibility.{is_active_user}
use Rattle.zw_views.specs.Views.{section_of}
use Rattle.zw_traces.specs.RealmTrace.{Accepted, prefix_of, state_of, view_in, view_after}
use Rattle.zw_traces.specs.Clients.{Client}
use Rattle.zs_script.specs.declared.step.Step.{Step}
use Rattle.zs_script.specs.declared.step.Step.TheVariants.{Command, Register, View}
use Rattle.zm_text.specs.declared.outcome.Outcome.{Outcome}
use Rattle.zm_text.specs.declared.outcome.Outcome.TheVariants.{Committed, Finished, Viewed}
use Rattle.zs_script.specs.Scripts.{moment_of}
use Rattle.zm_text.specs.Playing.{Turn, steps_in}
use Rattle.zm_text.specs.Clients.{Registration, client_of, is_followed, is_taken, items_told, reached_by, registration_of}

-- the commands whose line of output says committed, each with its moment, the latest first
abbrev pub accepted_by : ℕ → Step → Outcome → List Accepted → List Accepted
accepted_by moment (Command actor command) (Committed number id) before = record { actor = actor; moment = moment; command = command } ∷ before
accepted_by moment step outcome before = before

abbrev pub accepted : List Turn → List Accepted
accepted [] = []
accepted (turn ∷ before) = accepted_by (moment_of (steps_in before)) turn.step turn.outcome (accepted before)

-- the user is active after these commands
abbrev pub IsActive : UserId → List Accepted → Type 0
IsActive user list = is_active_user (state_of list).tables user ≡ true

-- a section has the rows of a user's view at a commit
abbrev pub IsSeen : UserId → Section → ℕ → List Accepted → Option Rows → Type 0
IsSeen user which reached all rows = rows ≡ Some (section_of which (view_after user reached all))

-- a register reply is of its user's queue and of a commit that was made by then, but none before those at its line's start
pub record IsRecent (user : UserId) (reached : ℕ) (queue : QueueId) (earlier : List Accepted) : Type 0 where
  pub own : queue.user ≡ user
  pub made : reached ≤ length earlier
  pub recent : length earlier ≤ reached

abbrev pub RegistersAreRecent : List Turn → Type 0
RegistersAreRecent turns =
    (later before : List Turn) (user : UserId) (types : Types) (asked : List Section)
    (reached : ℕ) (queue : QueueId) (last : ℤ) (state : State) →
    turns ≡ later ++ record { step = Register user types asked; outcome = Finished reached queue last state } ∷ before →
    IsRecent user reached queue (accepted before)

-- in a register reply each section that is asked for and that the types cover is that of the view at the commit reached, whether
-- one line registered or lines opened, fetched and finished
abbrev pub RegistersAreFresh : List Turn → Type 0
RegistersAreFresh turns =
    (later before : List Turn) (step : Step) (reached : ℕ) (queue : QueueId) (last : ℤ) (state : State) (which : Section) →
    turns ≡ later ++ record { step = step; outcome = Finished reached queue last state } ∷ before →
    is_followed queue which (record { step = step; outcome = Finished reached queue last state } ∷ before) ≡ true →
    IsSeen queue.user which reached (accepted turns) (rows_of which (sections_of state))

-- what a client has of a section at a commit that was made by then is the view's
pub record HasView (user : UserId) (which : Section) (reached : ℕ) (earlier all : List Accepted) (client : Option Client) : Type 0 where
  pub made : reached ≤ length earlier
  pub has : Client
  pub is : client ≡ Some has
  pub seen : IsSeen user which reached all (Some has.rows)

-- a client that takes or loses each answer has, at each that it takes, a section that was asked for and that the types of its
-- queue cover as it is in the view at the commit reached
abbrev pub ClientsAreFresh : List Turn → Type 0
ClientsAreFresh turns =
    (arrives : ℕ → Bool) (later before : List Turn) (turn : Turn) (queue : QueueId) (which : Section) (reached : ℕ) →
    turns ≡ later ++ turn ∷ before →
    reached_by queue turn.step turn.outcome ≡ Some reached →
    is_followed queue which (turn ∷ before) ≡ true →
    is_taken (arrives (length before)) turn.step (client_of queue which arrives before) ≡ true →
    HasView queue.user which reached (accepted before) (accepted turns) (client_of queue which arrives (turn ∷ before))

-- at the commit that a reply reached, the user of a queue for which a section was asked is active
abbrev pub ReadersAreActive : List Turn → Type 0
ReadersAreActive turns =
    (later before : List Turn) (turn : Turn) (queue : QueueId) (reached : ℕ) (registration : Registration) →
    turns ≡ later ++ turn ∷ before →
    reached_by queue turn.step turn.outcome ≡ Some reached →
    registration_of queue (turn ∷ before) ≡ Some registration → registration.asked ≢ [] →
    IsActive queue.user (prefix_of reached (accepted turns))

-- a view that is printed is the view, whole, after all commits so far, of a user who is active
pub record IsWholeView (user : UserId) (at : ℕ) (state : State) (all : List Accepted) : Type 0 where
  pub counted : at ≡ length all
  pub seen : sections_of state ≡ all_of (view_in user all)
  pub active : IsActive user all

abbrev pub ViewsAreFresh : List Turn → Type 0
ViewsAreFresh turns =
    (later before : List Turn) (user : UserId) (at : ℕ) (state : State) →
    turns ≡ later ++ record { step = View user; outcome = Viewed at state } ∷ before →
    IsWholeView user at state (accepted before)

-- an id that was answered shows the same event each time
abbrev pub IdsAreSteady : List Turn → Type 0
IdsAreSteady turns =
    (queue : QueueId) (first middle last : List Item) (a b : Item) →
    items_told queue turns ≡ first ++ a ∷ middle ++ b ∷ last → a.id ≡ b.id → a.event ≡ b.event

-- what is promised of what is printed
pub record Promises (turns : List Turn) : Type 0 where
  pub recent : RegistersAreRecent turns
  pub fresh : RegistersAreFresh turns
  pub followed : ClientsAreFresh turns
  pub active : ReadersAreActive turns
  pub viewed : ViewsAreFresh turns
  pub steady : IdsAreSteady turns
