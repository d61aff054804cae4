-- What holds of the views of a realm.
use Rattle.std.specs.Prelude.{◌≡◌, ℕ, ◌≤◌, true, is_some}
use Rattle.ev_base.specs.declared.ids.UserId.{UserId}
use Rattle.ev_base.specs.declared.ids.MessageId.{MessageId}
use Rattle.ev_types.specs.Comparable.{Comparable}
use Rattle.ev_types.specs.Sections.{SectionsSorted}
use Rattle.zr_types.specs.declared.command.Command.{Command}
use Rattle.zr_types.specs.Tables.{Tables, RealmState, message_at, opening_state}
use Rattle.zr_types.specs.Effects.{after_command}
use Rattle.zr_types.specs.Sound.{CountFrom, TablesSorted, stream_number, user_number}
use Rattle.zw_views.specs.Views.{view_of}

-- the rows of every table are sorted, users and streams are numbered from 1, and messages are numbered up to those sent
pub record IsCounted (state : RealmState) : Type 0 where
  pub sorted : TablesSorted state.tables
  pub users : CountFrom user_number 1 state.tables.users
  pub streams : CountFrom stream_number 1 state.tables.streams
  pub sent : (message : MessageId) → is_some (message_at state.tables message) ≡ true → message.0 ≤ state.sent

-- so it is at the opening, and every command keeps it, whatever the command's refusals say
abbrev pub TablesAreCounted : Type 0
TablesAreCounted =
    IsCounted opening_state
    × ((state : RealmState) (actor : UserId) (moment : ℕ) (command : Command) → IsCounted state → IsCounted (after_command actor moment command state))

-- the rows of every section of a view are sorted by key
abbrev pub ViewsAreSorted : Type 0
ViewsAreSorted = (tables : Tables) (user : UserId) → TablesSorted tables → SectionsSorted (view_of tables user)

-- a user's views before and after a command are comparable: events can tell what differs between them
abbrev pub SuccessiveViewsAreComparable : Type 0
SuccessiveViewsAreComparable =
    (state : RealmState) (actor : UserId) (moment : ℕ) (command : Command) (user : UserId) → IsCounted state →
    Comparable (view_of state.tables user) (view_of (after_command actor moment command state).tables user)
