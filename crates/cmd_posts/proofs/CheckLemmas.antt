-- A direct message is refused for an unknown user, or else for a reason that every command has.
use Rattle.std.proofs.Common.{◌≡◌, ◌∙◌, ℕ, ◌+◌, Bool, true, ◌||◌, List, length, None, refl, ap}
use Rattle.std.specs.Prelude.{nat_lt}
use Rattle.std.specs.List.{list_all, list_any}
use Rattle.std.specs.Option.{option_or}
use Rattle.ev_base.specs.Orders.{user_order}
use Rattle.ev_base.specs.declared.ids.UserId.{UserId}
use Rattle.zr_types.specs.declared.command.Command.{Command}
use Rattle.zr_types.specs.declared.command.Command.TheVariants.{Posts}
use Rattle.zr_types.specs.declared.command.PostCommand.TheVariants as of_posts
use Rattle.zr_types.specs.Tables.{RealmState}
use Rattle.zr_types.specs.Commands.{bytes_of, direct_receivers, distinct_users}
use Rattle.zr_types.specs.Refusals.{first_reason, has_bad_text, max_messages, max_receipts, max_recipients, refusal}
use Rattle.zr_types.specs.Visibility.{is_active_user}
use Rattle.cmd_rules.specs.declared.texts.GivenText.{GivenText}
use Rattle.cmd_rules.specs.Given.{bytes_in, has_fault, last_reasons}
use Rattle.cmd_rules.proofs.RefusalLemmas.{refused_known}
use Rattle.cmd_posts.proofs.SenderLemmas.{distinct-again}

module _ (state : RealmState) (actor : UserId) (users : List UserId) (content : List ℕ) where
  abbrev command : Command
  command = Posts (of_posts.SendDm users content)

  -- a message to these receivers, of whom these are named, would pass a limit on rows
  abbrev is_past : List UserId → List UserId → Bool
  is_past named receivers =
      nat_lt max_recipients (length named)
      || (nat_lt max_messages (state.sent + 1) || nat_lt max_receipts (length state.tables.receipts + length receivers))

  pub direct_refused : (named : List UserId) (texts : List GivenText) (past : Bool)
      → is_active_user state.tables actor ≡ true
      → list_all (is_active_user state.tables) users ≡ true
      → named ≡ distinct_users users
      → has_bad_text state actor command ≡ list_any has_fault texts
      → bytes_of state.tables command ≡ bytes_in texts
      → past ≡ is_past named (direct_receivers actor named)
      → option_or None (first_reason (last_reasons state texts past)) ≡ refusal state actor command
  direct_refused named texts past known active named_is bad bytes past_is =
      refused_known state actor command None texts past known (rw active refl) bad bytes
      (past_is
      ∙ ap (λ (given : List UserId). is_past given (direct_receivers actor given)) named_is
      ∙ ap (is_past (distinct_users users)) (distinct-again user_order actor users))
