-- When the removal of a reaction is refused, whose emoji isn't read again.
use Rattle.std.proofs.Common.{◌≡◌, ◌∙◌, ℕ, ◌+◌, Bool, true, false, cond, not, ◌||◌, List, [], Option, None, Some, is_some, refl, sym, ap, true≢false, arith}
use Rattle.std.specs.Prelude.{is_none, nat_le, nat_lt}
use Rattle.std.proofs.lemmas.Bool.{lt-ltb, ltb-true}
use Rattle.ev_base.specs.declared.ids.UserId.{UserId}
use Rattle.ev_base.specs.declared.ids.MessageId.{MessageId}
use Rattle.zr_types.specs.declared.command.Command.TheVariants.{Marks}
use Rattle.zr_types.specs.declared.command.MarkCommand.TheVariants as of_marks
use Rattle.zr_types.specs.declared.command.Refusal.TheVariants.{LimitReached, LogFull, NoSuchMessage, NotSo}
use Rattle.zr_types.specs.Tables.{RealmState, reaction_of}
use Rattle.zr_types.specs.Visibility.{is_active_user, sees_message}
use Rattle.zr_types.specs.Commands.{bytes_of}
use Rattle.zr_types.specs.Refusals.{first_reason, max_commits, max_text_bytes, refusal}
use Rattle.cmd_rules.specs.declared.texts.GivenText.{GivenText}
use Rattle.cmd_rules.specs.Given.{bytes_in, last_reasons}

is_none-from : {X : Type 0} (o : Option X) (b : Bool) → is_some o ≡ b → is_none o ≡ not b
is_none-from None b is = ap not is
is_none-from (Some x) b is = ap not is

-- what is passed without more bytes is passed with them
passed : (most present more : ℕ) → (nat_lt most (present + more) || nat_lt most (present + 0)) ≡ nat_lt most (present + more)
passed most present more = go (nat_lt most (present + more)) (nat_lt most (present + 0)) refl
    (λ less. let below = ltb-true most (present + 0) less in lt-ltb most (present + more) (omega arith))
  where
    go : (a b : Bool) → nat_lt most (present + more) ≡ a → (b ≡ true → nat_lt most (present + more) ≡ true) → (a || b) ≡ a
    go true b is further = refl
    go false true is further = absurd (true≢false (sym (further refl) ∙ is))
    go false false is further = refl

module _ (state : RealmState) (actor : UserId) (message : MessageId) (emoji : List ℕ) (known : is_active_user state.tables actor ≡ true) where
  pub removal_unseen : sees_message state.tables actor message ≡ false → refusal state actor (Marks (of_marks.ReactionRemove message emoji)) ≡ Some NoSuchMessage
  removal_unseen unseen = rw (known, unseen) refl

  pub removal_absent : sees_message state.tables actor message ≡ true → is_some (reaction_of state.tables actor message emoji) ≡ false
      → refusal state actor (Marks (of_marks.ReactionRemove message emoji)) ≡ Some NotSo
  removal_absent seen absent =
      let missing = is_none-from (reaction_of state.tables actor message emoji) false absent in
      rw (known, seen, missing) refl

  -- of a reaction that is there
  pub removal_last : sees_message state.tables actor message ≡ true → is_some (reaction_of state.tables actor message emoji) ≡ true
      → (texts : List GivenText) (past : Bool) → bytes_of state.tables (Marks (of_marks.ReactionRemove message emoji)) ≡ bytes_in texts
      → past ≡ nat_lt max_text_bytes (state.text_bytes + bytes_in texts)
      → first_reason (last_reasons state [] past) ≡ refusal state actor (Marks (of_marks.ReactionRemove message emoji))
  removal_last seen there texts past bytes past_is =
      let present = is_none-from (reaction_of state.tables actor message emoji) true there in
      let last = cond (nat_le max_commits state.commits) (Some LogFull) None in
      rw (past_is, known, seen, present, bytes)
      (ap (λ b. cond b (Some LimitReached) last) (passed max_text_bytes state.text_bytes (bytes_in texts)))
