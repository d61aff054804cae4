-- The texts that a command gives, and the reasons that every command has after its own.
use Rattle.std.specs.Prelude.{ℕ, ◌+◌, Bool, ◌||◌, nat_le, nat_lt, List, [], ◌∷◌, length, is_some}
use Rattle.std.specs.List.{list_any, sum_by}
use Rattle.ev_base.specs.Texts.{fault_of}
use Rattle.zr_types.specs.declared.command.Refusal.TheVariants.{BadText, LimitReached, LogFull}
use Rattle.zr_types.specs.Tables.{RealmState}
use Rattle.zr_types.specs.Refusals.{Reason, max_commits, max_text_bytes}
use Rattle.cmd_rules.specs.declared.texts.GivenText.{GivenText}

abbrev pub text_of : GivenText → List ℕ
text_of given = given.text.now

-- the text isn't of its kind
abbrev pub has_fault : GivenText → Bool
has_fault given = is_some (fault_of given.kind (text_of given))

abbrev pub bytes_in : List GivenText → ℕ
bytes_in texts = sum_by (λ given. length (text_of given)) texts

-- of a command with these texts, which makes more rows than there may be or doesn't
abbrev pub last_reasons : RealmState → List GivenText → Bool → List Reason
last_reasons state texts is_past_rows =
    (list_any has_fault texts, BadText)
    ∷ (is_past_rows || nat_lt max_text_bytes (state.text_bytes + bytes_in texts), LimitReached)
    ∷ (nat_le max_commits state.commits, LogFull) ∷ []
