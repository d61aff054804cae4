-- What it says of a command that it isn't refused.
use Rattle.std.proofs.Common.{◌≡◌, ℕ, zero, suc, Bool, true, false, cond, List, [], ◌∷◌, ◌++◌, None, Some, refl}
use Rattle.std.specs.Prelude.{nat_le, not, ◌||◌}
use Rattle.std.proofs.lemmas.Bool.{not-false, or_parts}
use Rattle.ev_base.specs.declared.ids.UserId.{UserId}
use Rattle.zr_types.specs.declared.command.Command.{Command}
use Rattle.zr_types.specs.declared.command.Refusal.TheVariants.{ActorUnknown, BadText, LimitReached, LogFull}
use Rattle.zr_types.specs.Tables.{RealmState}
use Rattle.zr_types.specs.Commands.{bytes_of}
use Rattle.zr_types.specs.Refusals.{Reason, first_reason, has_bad_text, is_known, is_past, is_past_rows, max_commits, max_text_bytes, own_reasons, refusal}

-- no reason holds
pub first_none : (reason : Reason) (others : List Reason) → first_reason (reason ∷ others) ≡ None → (reason.0 ≡ false) × (first_reason others ≡ None)
first_none reason others none = go reason.0 none
  where
    go : (holds : Bool) → cond holds (Some reason.1) (first_reason others) ≡ None → (holds ≡ false) × (first_reason others ≡ None)
    go true is = cc
    go false is = (refl, is)

pub none_after : (reasons others : List Reason) → first_reason (reasons ++ others) ≡ None → (first_reason reasons ≡ None) × (first_reason others ≡ None)
none_after [] others none = (refl, none)
none_after (reason ∷ reasons) others none = go reason.0 none (none_after reasons others)
  where
    go : (holds : Bool) → cond holds (Some reason.1) (first_reason (reasons ++ others)) ≡ None
        → (first_reason (reasons ++ others) ≡ None → (first_reason reasons ≡ None) × (first_reason others ≡ None))
        → (cond holds (Some reason.1) (first_reason reasons) ≡ None) × (first_reason others ≡ None)
    go true is further = cc
    go false is further = further is

-- whether a reason holds, by its place
abbrev pub holds_at : ℕ → List Reason → Bool
holds_at at [] = false
holds_at zero (reason ∷ others) = reason.0
holds_at (suc at) (reason ∷ others) = holds_at at others

pub none_holds : (reasons : List Reason) → first_reason reasons ≡ None → (at : ℕ) → holds_at at reasons ≡ false
none_holds [] none at = refl
none_holds (reason ∷ others) none zero = (first_none reason others none).0
none_holds (reason ∷ others) none (suc at) = none_holds others (first_none reason others none).1 at

pub record IsAccepted (state : RealmState) (actor : UserId) (command : Command) : Type 0 where
  pub known : is_known state.tables actor command ≡ true
  pub own : first_reason (own_reasons state actor command) ≡ None
  pub rows : is_past_rows state actor command ≡ false
  pub bytes : is_past state actor max_text_bytes state.text_bytes (bytes_of state.tables command) ≡ false
  pub commits : nat_le max_commits state.commits ≡ false

module _ (state : RealmState) (actor : UserId) (command : Command) where
  abbrev known_reason : Reason
  known_reason = (not (is_known state.tables actor command), ActorUnknown)

  abbrev text_reason : Reason
  text_reason = (has_bad_text state actor command, BadText)

  abbrev limit_reason : Reason
  limit_reason = (is_past_rows state actor command || is_past state actor max_text_bytes state.text_bytes (bytes_of state.tables command), LimitReached)

  abbrev log_reason : Reason
  log_reason = (nat_le max_commits state.commits, LogFull)

  pub is_accepted : refusal state actor command ≡ None → IsAccepted state actor command
  is_accepted none =
      let known = first_none known_reason (own_reasons state actor command ++ text_reason ∷ limit_reason ∷ log_reason ∷ []) none in
      let own = none_after (own_reasons state actor command) (text_reason ∷ limit_reason ∷ log_reason ∷ []) known.1 in
      let texts = first_none text_reason (limit_reason ∷ log_reason ∷ []) own.1 in
      let limits = first_none limit_reason (log_reason ∷ []) texts.1 in
      let log = first_none log_reason [] limits.1 in
      let parts = or_parts (is_past_rows state actor command) (is_past state actor max_text_bytes state.text_bytes (bytes_of state.tables command)) limits.0 in
      record {
        known = not-false (is_known state.tables actor command) known.0;
        own = own.0;
        rows = parts.0;
        bytes = parts.1;
        commits = log.0;
      }
