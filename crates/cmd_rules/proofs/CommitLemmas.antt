-- What is told of a commit: the number of the row that it makes, and the messages whose flags it changes.
use Rattle.std.proofs.Common.{◌≡◌, ◌∙◌, ℕ, ◌+◌, ◌≤◌, Bool, true, false, true≢false, not, ◌||◌, cond, List, [], ◌∷◌, ◌++◌, length, Option, None, Some, refl, subst, sym, ap, arith}
use Rattle.std.specs.Prelude.{nat_lt}
use Rattle.std.proofs.lemmas.Option.{none-some, same_Some}
use Rattle.std.specs.Option.{option_map_or}
use Rattle.std.proofs.lemmas.Bool.{ltb-false}
use Rattle.ev_base.specs.declared.ids.StreamId.{StreamId}
use Rattle.ev_base.specs.declared.ids.UserId.{UserId}
use Rattle.zr_types.specs.declared.command.StreamRef.TheVariants as ref
use Rattle.zr_types.specs.declared.command.Command.{Command}
use Rattle.zr_types.specs.declared.command.Command.TheVariants.{People, Streams, Posts, Marks}
use Rattle.zr_types.specs.declared.command.PeopleCommand.TheVariants as of_people
use Rattle.zr_types.specs.declared.command.StreamCommand.TheVariants as of_streams
use Rattle.zr_types.specs.declared.command.PostCommand.TheVariants as of_posts
use Rattle.zr_types.specs.declared.command.Change.{Change}
use Rattle.zr_types.specs.declared.command.Committed.{Committed}
use Rattle.zr_types.specs.declared.command.Refusal.{Refusal}
use Rattle.zr_types.specs.declared.command.Refusal.TheVariants.{ActorUnknown, BadText, LimitReached}
use Rattle.zr_types.specs.Tables.{RealmState}
use Rattle.zr_types.specs.Commands.{direct_receivers, distinct_users, stream_meant}
use Rattle.zr_types.specs.Refusals.{Reason, first_reason, has_bad_text, is_known, is_past, is_past_rows, max_messages, max_receipts, max_recipients, own_reasons, refusal}
use Rattle.zr_types.specs.Effects.{made_by}
use Rattle.zr_types.specs.Checks.{IsChangeOf, WasChecked, resolved}
use Rattle.zr_types.specs.Commits.{IsChecked, IsCommitted}

module _ (state : RealmState) (actor : UserId) where
  -- to name streams by their numbers changes no row's number
  pub same_made : (command : Command) → made_by state (resolved state.tables actor command) ≡ made_by state command
  same_made (People command) = refl
  same_made (Streams command) = refl
  same_made (Posts (of_posts.SendStream to topic content)) = go (stream_meant state.tables actor to)
    where
      go : (meant : Option StreamId)
          → made_by state (Posts (option_map_or (λ stream. of_posts.SendStream (ref.Id stream) topic content) meant (of_posts.SendStream to topic content)))
          ≡ Some (state.sent + 1)
      go None = refl
      go (Some stream) = refl
  same_made (Posts (of_posts.SendDm users content)) = refl
  same_made (Posts (of_posts.EditContent message content)) = refl
  same_made (Posts (of_posts.Move message stream topic mode)) = refl
  same_made (Posts (of_posts.Delete message)) = refl
  same_made (Marks command) = refl

or_none : (a b : Bool) → (a || b) ≡ false → (a ≡ false) × (b ≡ false)
or_none false b none = (refl, none)
or_none true b none = absurd (true≢false none)

middle_none : (a b c : Bool) → (a || (b || c)) ≡ false → b ≡ false
middle_none false b c none = (or_none b c none).0
middle_none true b c none = absurd (true≢false none)

later_reasons : (a b : List Reason) → first_reason (a ++ b) ≡ None → first_reason b ≡ None
later_reasons [] b none = none
later_reasons (reason ∷ a) b none = go reason.0 (later_reasons a b) none
  where
    go : (holds : Bool) → (first_reason (a ++ b) ≡ None → first_reason b ≡ None) → cond holds (Some reason.1) (first_reason (a ++ b)) ≡ None → first_reason b ≡ None
    go true later none = absurd (none-some reason.1 (sym none))
    go false later none = later none

module _ (state : RealmState) (actor : UserId) where
  -- an accepted command makes no more rows than there may be
  room_of_accepted : (command : Command) → refusal state actor command ≡ None → is_past_rows state actor command ≡ false
  room_of_accepted command accepted =
      go (has_bad_text state actor command) (is_past_rows state actor command) _ _
      (later_reasons ((not (is_known state.tables actor command), ActorUnknown) ∷ own_reasons state actor command) _ accepted)
    where
      go : (bad past other : Bool) (last : Option Refusal) → cond bad (Some BadText) (cond (past || other) (Some LimitReached) last) ≡ None → past ≡ false
      go true past other last none = absurd (none-some BadText (sym none))
      go false true other last none = absurd (none-some LimitReached (sym none))
      go false false other last none = refl

  id_fits : (command : Command) (id : ℕ) → is_past_rows state actor command ≡ false → made_by state command ≡ Some id → id ≤ 200000
  id_fits (People (of_people.RealmUpdate property value)) id room made = absurd (none-some id made)
  id_fits (People (of_people.UserAdd email full_name role key)) id room made =
      let within : length state.tables.users + 1 ≤ 10000 = ltb-false 10000 (length state.tables.users + 1) room in
      omega (arith, within, same_Some (length state.tables.users + 1) id made)
  id_fits (People (of_people.UserUpdate user full_name)) id room made = absurd (none-some id made)
  id_fits (People (of_people.UserRole user role)) id room made = absurd (none-some id made)
  id_fits (People (of_people.UserDeactivate user)) id room made = absurd (none-some id made)
  id_fits (People (of_people.UserReactivate user)) id room made = absurd (none-some id made)
  id_fits (Streams (of_streams.Create name description privacy)) id room made =
      let within : length state.tables.streams + 1 ≤ 10000 = ltb-false 10000 (length state.tables.streams + 1) (or_none _ _ room).0 in
      omega (arith, within, same_Some (length state.tables.streams + 1) id made)
  id_fits (Streams (of_streams.Update stream property value)) id room made = absurd (none-some id made)
  id_fits (Streams (of_streams.SetPrivacy stream privacy)) id room made = absurd (none-some id made)
  id_fits (Streams (of_streams.Archive stream)) id room made = absurd (none-some id made)
  id_fits (Streams (of_streams.Subscribe stream user)) id room made = absurd (none-some id made)
  id_fits (Streams (of_streams.Unsubscribe stream user)) id room made = absurd (none-some id made)
  id_fits (Streams (of_streams.SubProperty stream value)) id room made = absurd (none-some id made)
  id_fits (Posts (of_posts.SendStream to topic content)) id room made =
      let within : state.sent + 1 ≤ 200000 = ltb-false 200000 (state.sent + 1) (or_none _ _ room).0 in
      omega (arith, within, same_Some (state.sent + 1) id made)
  id_fits (Posts (of_posts.SendDm users content)) id room made =
      let within : state.sent + 1 ≤ 200000 = ltb-false 200000 (state.sent + 1) (middle_none (nat_lt max_recipients (length (distinct_users users))) (is_past state actor max_messages state.sent 1)
      (is_past state actor max_receipts (length state.tables.receipts) (length (direct_receivers actor users))) room) in
      omega (arith, within, same_Some (state.sent + 1) id made)
  id_fits (Posts (of_posts.EditContent message content)) id room made = absurd (none-some id made)
  id_fits (Posts (of_posts.Move message stream topic mode)) id room made = absurd (none-some id made)
  id_fits (Posts (of_posts.Delete message)) id room made = absurd (none-some id made)
  id_fits (Marks command) id room made = absurd (none-some id made)

-- a change makes the row that its command makes
pub made_by_change : (state : RealmState) (command : Command) (change : Change) → IsChangeOf state command change
    → made_by state change.command ≡ made_by state command
made_by_change state command change is =
    ap (made_by state) is.resolves ∙ same_made state change.actor command

-- the number of the row that a change makes fits
pub made_fits : (state : RealmState) (change : Change) → WasChecked state change → (before : ℕ)
    → made_by state change.command ≡ Some (before + 1) → before + 1 ≤ 200000
made_fits state change checked before made =
    id_fits state change.actor checked.0 (before + 1) (room_of_accepted state change.actor checked.0 checked.1.accepted)
    (sym (made_by_change state checked.0 change checked.1) ∙ made)

-- what was made of a checked change was made of its command
pub committed_as : (before after : RealmState) (actor : UserId) (moment : ℕ) (command : Command) (change : Change) (made : Committed)
    → IsChecked before actor moment command change
    → ((of : Command) → IsChangeOf before of change → IsCommitted before after change.actor change.moment of made)
    → IsCommitted before after actor moment command made
committed_as before after actor moment command change made checked all =
    subst (λ by. IsCommitted before after by moment command made) checked.by_actor
    (subst (λ at. IsCommitted before after change.actor at command made) checked.at_moment (all command checked.is_change))
