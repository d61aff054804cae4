-- A command is refused for a reason of its own, or else for one that every command has.
use Rattle.std.proofs.Common.{◌≡◌, ◌∙◌, Bool, true, false, cond, List, [], ◌∷◌, ◌++◌, Option, Some, refl, sym, ap}
use Rattle.std.specs.Prelude.{◌+◌, ◌||◌, nat_le, nat_lt}
use Rattle.std.specs.List.{list_any}
use Rattle.std.specs.Option.{option_or}
use Rattle.ev_base.specs.declared.ids.UserId.{UserId}
use Rattle.zr_types.specs.declared.command.Command.{Command}
use Rattle.zr_types.specs.declared.command.Refusal.{Refusal}
use Rattle.zr_types.specs.declared.command.Refusal.TheVariants.{ActorUnknown, BadText, LimitReached, LogFull}
use Rattle.zr_types.specs.Tables.{RealmState}
use Rattle.zr_types.specs.Commands.{bytes_of}
use Rattle.zr_types.specs.Refusals.{Reason, first_reason, has_bad_text, is_known, is_past_rows, max_commits, max_text_bytes, own_reasons, refusal}
use Rattle.cmd_rules.specs.declared.texts.GivenText.{GivenText}
use Rattle.cmd_rules.specs.Given.{bytes_in, has_fault, last_reasons}

pub first_reason-append : (a b : List Reason) → first_reason (a ++ b) ≡ option_or (first_reason a) (first_reason b)
first_reason-append [] b = refl
first_reason-append (reason ∷ a) b = go reason.0 (first_reason-append a b)
  where
    go : (holds : Bool) → first_reason (a ++ b) ≡ option_or (first_reason a) (first_reason b)
        → cond holds (Some reason.1) (first_reason (a ++ b)) ≡ option_or (cond holds (Some reason.1) (first_reason a)) (first_reason b)
    go true later = refl
    go false later = later

module _ (state : RealmState) (actor : UserId) (command : Command) where
  pub refused_unknown : is_known state.tables actor command ≡ false → refusal state actor command ≡ Some ActorUnknown
  refused_unknown unknown = rw unknown refl

  pub refused_known : (own : Option Refusal) (texts : List GivenText) (past : Bool)
      → is_known state.tables actor command ≡ true
      → own ≡ first_reason (own_reasons state actor command)
      → has_bad_text state actor command ≡ list_any has_fault texts
      → bytes_of state.tables command ≡ bytes_in texts
      → past ≡ is_past_rows state actor command
      → option_or own (first_reason (last_reasons state texts past)) ≡ refusal state actor command
  refused_known own texts past known own_is bad bytes past_is =
      let own_list = own_reasons state actor command in
      let last_list : List Reason = (has_bad_text state actor command, BadText)
      ∷ (is_past_rows state actor command || nat_lt max_text_bytes (state.text_bytes + bytes_of state.tables command), LimitReached)
      ∷ (nat_le max_commits state.commits, LogFull) ∷ [] in
      let apart : refusal state actor command ≡ option_or (first_reason own_list) (first_reason last_list) =
      rw known (first_reason-append own_list last_list) in
      let last : first_reason (last_reasons state texts past) ≡ first_reason last_list = rw (past_is, ← bad, ← bytes) refl in
      rw (own_is, last) (sym apart)

  -- the same where the command is one of a kind
  pub refused_as : (kind : Command) (own : Option Refusal) (texts : List GivenText) (past : Bool)
      → command ≡ kind
      → is_known state.tables actor command ≡ true
      → own ≡ first_reason (own_reasons state actor kind)
      → has_bad_text state actor kind ≡ list_any has_fault texts
      → bytes_of state.tables kind ≡ bytes_in texts
      → past ≡ is_past_rows state actor kind
      → option_or own (first_reason (last_reasons state texts past)) ≡ refusal state actor command
  refused_as kind own texts past same known own_is bad bytes past_is =
      refused_known own texts past known (own_is ∙ ap (λ c. first_reason (own_reasons state actor c)) (sym same))
      (ap (has_bad_text state actor) same ∙ bad) (ap (bytes_of state.tables) same ∙ bytes) (past_is ∙ ap (is_past_rows state actor) (sym same))
